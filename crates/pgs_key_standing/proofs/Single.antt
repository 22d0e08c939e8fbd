-- Shapes that ask for one label, or for what stands at one key.
use Rattle.std.proofs.Common.{◌≡◌, ℕ, Bool, true, false, ◌&&◌, ◌||◌, List, [], ◌∷◌, Option, Some, None, is_some, refl, ◌∙◌, ap}
use Rattle.std.specs.List.{list_all}
use Rattle.std.specs.Map.{keys_of}
use Rattle.std.proofs.Math.Bool.{or-false}
use Rattle.pgs_base.specs.declared.row.NodeRow.{NodeRow}
use Rattle.pgs_base.specs.declared.value.Value.{Value}
use Rattle.pgs_base.specs.declared.value.Value.TheVariants as values
use Rattle.pgs_base.specs.Pair.{has_name, value_at}
use Rattle.pgs_conform.specs.declared.options.Options.{Options}
use Rattle.pgs_conform.specs.declared.shape.Shape.{Shape}
use Rattle.pgs_conform.specs.Shapes.{admits, labels_meet, props_meet, in_shape, in_some}

and-true : (b : Bool) → (b && true) ≡ b
and-true true = refl
and-true false = refl

all_free : {X : Type 0} (test : X → Bool) (xs : List X) → list_all (λ x. true || test x) xs ≡ true
all_free test [] = refl
all_free test (x ∷ xs) = all_free test xs

labels_free : (asked labels : List (List ℕ)) → labels_meet asked true labels ≡ list_all (λ label. has_name label labels) asked
labels_free asked labels =
    ap (λ b. list_all (λ label. has_name label labels) asked && b) (all_free (λ label. has_name label asked) labels) ∙ and-true _

props_free : (keys : List (List ℕ × Options)) (props : List (List ℕ × Value)) → props_meet keys true props ≡ list_all (λ (key : List ℕ × Options). admits key.1 (value_at key.0 props)) keys
props_free keys props =
    ap (λ b. list_all (λ (key : List ℕ × Options). admits key.1 (value_at key.0 props)) keys && b) (all_free (λ (entry : List ℕ × Value). has_name entry.0 (keys_of keys)) props) ∙ and-true _

-- what a shape asks that leaves further labels and keys free
abbrev pub in_free : List (List ℕ) → List (List ℕ × Options) → NodeRow → Bool
in_free asked keys p = labels_meet asked true p.labels && props_meet keys true p.props

free_in : (asked : List (List ℕ)) (keys : List (List ℕ × Options)) (p : NodeRow) →
    in_free asked keys p ≡ (list_all (λ label. has_name label p.labels) asked && list_all (λ (key : List ℕ × Options). admits key.1 (value_at key.0 p.props)) keys)
free_in asked keys p =
    ap (λ b. b && props_meet keys true p.props) (labels_free asked p.labels)
    ∙ ap (λ b. list_all (λ label. has_name label p.labels) asked && b) (props_free keys p.props)

pub in_any : (asked : List (List ℕ)) (keys : List (List ℕ × Options)) → asked ≡ [] → keys ≡ [] → (p : NodeRow) → in_free asked keys p ≡ true
in_any asked keys none nothing p = ap (λ ls. in_free ls keys p) none ∙ ap (λ ks. in_free [] ks p) nothing ∙ free_in [] [] p

pub in_labelled : (asked : List (List ℕ)) (keys : List (List ℕ × Options)) (label : List ℕ) → asked ≡ label ∷ [] → keys ≡ [] → (p : NodeRow) → in_free asked keys p ≡ has_name label p.labels
in_labelled asked keys label one nothing p =
    ap (λ ls. in_free ls keys p) one ∙ ap (λ ks. in_free (label ∷ []) ks p) nothing ∙ free_in (label ∷ []) [] p ∙ and-true _ ∙ and-true _

pub in_keyed : (asked : List (List ℕ)) (keys : List (List ℕ × Options)) (key : List ℕ) (options : Options) → asked ≡ [] → keys ≡ (key, options) ∷ [] → (p : NodeRow) →
    in_free asked keys p ≡ admits options (value_at key p.props)
in_keyed asked keys key options none one p =
    ap (λ ls. in_free ls keys p) none ∙ ap (λ ks. in_free [] ks p) one ∙ free_in [] ((key, options) ∷ []) p ∙ and-true _

pub single_in : (shapes : List Shape) (shape : Shape) → shapes ≡ shape ∷ [] → (p : NodeRow) → in_some shapes p ≡ in_shape shape p
single_in shapes shape one p = ap (λ ss. in_some ss p) one ∙ or-false (in_shape shape p)

-- ---- options

pub admits_all : (options : Options) → options.absent ≡ false → options.text ≡ true → options.int ≡ true → options.boolean ≡ true → options.date ≡ true →
    (o : Option Value) → admits options o ≡ is_some o
admits_all options absent text int boolean date None = absent
admits_all options absent text int boolean date (Some (values.Text t)) = text
admits_all options absent text int boolean date (Some (values.Int n)) = int
admits_all options absent text int boolean date (Some (values.Bool b)) = boolean
admits_all options absent text int boolean date (Some (values.Date d)) = date
