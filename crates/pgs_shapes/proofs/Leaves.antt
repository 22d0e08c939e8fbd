-- The shapes of OPEN and of a label.
use Rattle.std.proofs.Common.{◌≡◌, ℕ, Bool, true, false, ◌&&◌, ◌||◌, List, [], ◌∷◌, refl, ◌∙◌, ap, Ordering, Less, Equal, Greater, is_eq}
use Rattle.std.specs.Ordering.{ordering_reverse}
use Rattle.std.specs.Cmp.Lexicographic.{nat_list_cmp_total}
use Rattle.std.specs.List.{list_all}
use Rattle.std.proofs.Math.Bool.{or-false}
use Rattle.pgs_base.specs.declared.row.NodeRow.{NodeRow}
use Rattle.pgs_base.specs.declared.value.Value.{Value}
use Rattle.pgs_base.specs.Pair.{same_name, has_name}
use Rattle.pgs_syntax.specs.Fitting.{is_only}
use Rattle.pgs_syntax.specs.Join.{is_empty}
use Rattle.pgs_conform.specs.declared.options.Options.{Options}
use Rattle.pgs_conform.specs.Shapes.{labels_meet, props_meet}

abbrev Names : Type 0
Names = List (List ℕ)

abbrev Keys : Type 0
Keys = List (List ℕ × Options)

abbrev Props : Type 0
Props = List (List ℕ × Value)

no_keys : (props : Props) → props_meet [] false props ≡ is_empty props
no_keys [] = refl
no_keys (e ∷ es) = refl

pub no_labels : (labels : Names) → labels_meet [] false labels ≡ is_empty labels
no_labels [] = refl
no_labels (l ∷ ls) = refl

any_labels : (labels : Names) → labels_meet [] true labels ≡ true
any_labels [] = refl
any_labels (l ∷ ls) = any_labels ls

pub open_meets : (labels : Names) (keys : Keys) → labels ≡ [] → keys ≡ [] → (p : NodeRow) →
    (labels_meet labels true p.labels && props_meet keys false p.props) ≡ is_empty p.props
open_meets labels keys none gone p =
    ap (λ ls. labels_meet ls true p.labels && props_meet keys false p.props) none ∙ ap (λ ks. labels_meet [] true p.labels && props_meet ks false p.props) gone
    ∙ ap (λ b. b && props_meet [] false p.props) (any_labels p.labels) ∙ no_keys p.props

same_either_way : (a b : List ℕ) → same_name a b ≡ same_name b a
same_either_way a b = ap is_eq (nat_list_cmp_total.antisymm a b) ∙ turned _
  where
    turned : (o : Ordering) → is_eq (ordering_reverse o) ≡ is_eq o
    turned Less = refl
    turned Equal = refl
    turned Greater = refl

all_one : (label : List ℕ) (labels : Names) → list_all (λ l. false || has_name l (label ∷ [])) labels ≡ list_all (same_name label) labels
all_one label [] = refl
all_one label (l ∷ ls) =
    ap (λ b. b && list_all (λ k. false || has_name k (label ∷ [])) ls) (or-false (same_name l label) ∙ same_either_way l label)
    ∙ ap (λ b. same_name label l && b) (all_one label ls)

and_true : (b : Bool) → (b && true) ≡ b
and_true true = refl
and_true false = refl

pub label_meets : (label : List ℕ) (labels : Names) (keys : Keys) → labels ≡ label ∷ [] → keys ≡ [] → (p : NodeRow) →
    (labels_meet labels false p.labels && props_meet keys false p.props) ≡ is_only label p
label_meets label labels keys one gone p =
    ap (λ ls. labels_meet ls false p.labels && props_meet keys false p.props) one
    ∙ ap (λ ks. labels_meet (label ∷ []) false p.labels && props_meet ks false p.props) gone
    ∙ ap (λ b. (b && list_all (λ l. false || has_name l (label ∷ [])) p.labels) && props_meet [] false p.props) (and_true (has_name label p.labels))
    ∙ ap (λ b. (has_name label p.labels && b) && props_meet [] false p.props) (all_one label p.labels)
    ∙ ap (λ b. (has_name label p.labels && list_all (same_name label) p.labels) && b) (no_keys p.props)
