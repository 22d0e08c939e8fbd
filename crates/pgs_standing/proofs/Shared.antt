-- What is in two shapes is what is in the shape that they have in common.
use Rattle.std.proofs.Common.{◌≡◌, ℕ, Bool, true, false, ◌&&◌, ◌||◌, cond, List, [], ◌∷◌, map, Some, None, unwrap_or, refl, sym, ◌∙◌, ap, ⊎_elim}
use Rattle.std.specs.List.{list_all}
use Rattle.std.specs.Map.{keys_of, lookup}
use Rattle.std.proofs.lemmas.Bool.{true≢false, and_parts, and_from, or_cases, or_left, or_right, or_parts, false_from_ne_true}
use Rattle.pgs_base.specs.declared.row.NodeRow.{NodeRow}
use Rattle.pgs_base.specs.declared.value.Value.{Value}
use Rattle.pgs_base.specs.Order.{ascends}
use Rattle.pgs_base.specs.Pair.{same_name, has_name, value_at, is_pair}
use Rattle.pgs_syntax.proofs.Parts.{one_name}
use Rattle.pgs_conform.specs.declared.options.Options.{Options}
use Rattle.pgs_conform.specs.declared.shape.Shape.{Shape}
use Rattle.pgs_conform.specs.Shapes.{admits, labels_meet, props_meet, in_shape}
use Rattle.pgs_conform.specs.JoinedOptions.{free_options, options_at}
use Rattle.pgs_product.proofs.Asked.{all_has, has_all, labels_met, labels_meet_from, props_met, props_meet_from}
use Rattle.pgs_product.proofs.Exact.{same_answer}
use Rattle.pgs_product.proofs.United.{name_cmp}
use Rattle.pgs_contain.specs.Regions.{common_options}
use Rattle.pgs_contain.proofs.Framing.{at_unnamed}
use Rattle.pgs_contain.proofs.Parts.{admits_common}
use Rattle.pgs_standing.specs.Common.{allows, may_meet, common_at, common_key}

abbrev Names : Type 0
Names = List (List ℕ)

abbrev Keys : Type 0
Keys = List (List ℕ × Options)

abbrev Props : Type 0
Props = List (List ℕ × Value)

pub keys_up : (p : NodeRow) → is_pair p ≡ true → ascends name_cmp (keys_of p.props) ≡ true
keys_up p pair = (and_parts _ _ (and_parts _ _ (and_parts _ _ pair).1).0).0

-- a shape that asks nothing and is free in all has each pair
all_pass : {X : Type 0} (test : X → Bool) (xs : List X) → ((x : X) → test x ≡ true) → list_all test xs ≡ true
all_pass test [] h = refl
all_pass test (x ∷ xs) h = and_from _ _ (h x) (all_pass test xs h)

pub any_inside : (labels : Names) (keys : Keys) → labels ≡ [] → keys ≡ [] → (p : NodeRow) → (labels_meet labels true p.labels && props_meet keys true p.props) ≡ true
any_inside labels keys none nothing p =
    and_from _ _ (ap (λ ls. labels_meet ls true p.labels) none ∙ all_pass (λ label. true) p.labels (λ label. refl))
    (ap (λ ks. props_meet ks true p.props) nothing ∙ all_pass (λ entry. true) p.props (λ entry. refl))

module _ (a b : Shape) where
  pub keys_common : (names : Names) → keys_of (map (common_key a b) names) ≡ names
  keys_common [] = refl
  keys_common (x ∷ xs) = ap (λ ks. x ∷ ks) (keys_common xs)

  found_common : (names : Names) (k : List ℕ) → lookup (same_name k) (map (common_key a b) names) ≡ cond (has_name k names) (Some (common_at a b k)) None
  found_common [] k = refl
  found_common (x ∷ xs) k = by (same_name k x) refl (found_common xs k)
    where
      by : (s : Bool) → same_name k x ≡ s → lookup (same_name k) (map (common_key a b) xs) ≡ cond (has_name k xs) (Some (common_at a b k)) None →
          cond s (Some (common_at a b x)) (lookup (same_name k) (map (common_key a b) xs)) ≡ cond (s || has_name k xs) (Some (common_at a b k)) None
      by true same later = ap (λ z. Some (common_at a b z)) (sym (one_name k x same))
      by false other later = later

  -- names are those of the keys of both, and labels those of both
  abbrev pub AreNamesOfBoth : Names → Type 0
  AreNamesOfBoth names = (k : List ℕ) → has_name k names ≡ (has_name k (keys_of a.keys) || has_name k (keys_of b.keys))

  abbrev pub AreLabelsOfBoth : Names → Type 0
  AreLabelsOfBoth labels = (l : List ℕ) → has_name l labels ≡ (has_name l a.labels || has_name l b.labels)

  options_common : (names : Names) → AreNamesOfBoth names → (k : List ℕ) →
      options_at (map (common_key a b) names) (a.more_keys && b.more_keys) k ≡ common_at a b k
  options_common names same k = ap (λ o. unwrap_or o (free_options (a.more_keys && b.more_keys))) (found_common names k) ∙ by (has_name k names) refl
    where
      by : (h : Bool) → has_name k names ≡ h → unwrap_or (cond h (Some (common_at a b k)) None) (free_options (a.more_keys && b.more_keys)) ≡ common_at a b k
      by true there = refl
      by false out =
          let parts = or_parts (has_name k (keys_of a.keys)) (has_name k (keys_of b.keys)) (sym (same k) ∙ out) in
          sym (ap (λ x. common_options x (options_at b.keys b.more_keys k)) (at_unnamed k a.keys a.more_keys parts.0)
          ∙ ap (common_options (free_options a.more_keys)) (at_unnamed k b.keys b.more_keys parts.1))

  props_common : (names : Names) → ascends name_cmp names ≡ true → AreNamesOfBoth names → (props : Props) → ascends name_cmp (keys_of props) ≡ true →
      props_meet (map (common_key a b) names) (a.more_keys && b.more_keys) props ≡ (props_meet a.keys a.more_keys props && props_meet b.keys b.more_keys props)
  props_common names up same props there =
      same_answer (props_meet (map (common_key a b) names) (a.more_keys && b.more_keys) props) (props_meet a.keys a.more_keys props && props_meet b.keys b.more_keys props)
      (λ h. and_from _ _
      (props_meet_from a.keys a.more_keys props a.ascending there (λ k. (both k h).0))
      (props_meet_from b.keys b.more_keys props b.ascending there (λ k. (both k h).1)))
      (λ h.
      let parts = and_parts (props_meet a.keys a.more_keys props) (props_meet b.keys b.more_keys props) h in
      props_meet_from (map (common_key a b) names) (a.more_keys && b.more_keys) props (ap (ascends name_cmp) (keys_common names) ∙ up) there
      (λ k. ap (λ o. admits o (value_at k props)) (options_common names same k)
      ∙ admits_common (options_at a.keys a.more_keys k) (options_at b.keys b.more_keys k) (value_at k props)
      ∙ and_from _ _ (props_met a.keys a.more_keys props parts.0 k) (props_met b.keys b.more_keys props parts.1 k)))
    where
      both : (k : List ℕ) → props_meet (map (common_key a b) names) (a.more_keys && b.more_keys) props ≡ true →
          (admits (options_at a.keys a.more_keys k) (value_at k props) ≡ true) × (admits (options_at b.keys b.more_keys k) (value_at k props) ≡ true)
      both k h =
          and_parts _ _ (sym (admits_common (options_at a.keys a.more_keys k) (options_at b.keys b.more_keys k) (value_at k props))
          ∙ ap (λ o. admits o (value_at k props)) (sym (options_common names same k))
          ∙ props_met (map (common_key a b) names) (a.more_keys && b.more_keys) props h k)

  -- a label of one is a label of the other, or free there
  free_or_named : (labels : Names) → AreLabelsOfBoth labels → may_meet a b ≡ true → (l : List ℕ) → ((a.more_labels && b.more_labels) || has_name l labels) ≡ true →
      ((a.more_labels || has_name l a.labels) ≡ true) × ((b.more_labels || has_name l b.labels) ≡ true)
  free_or_named labels same may l h =
      ⊎_elim (λ free. let parts = and_parts a.more_labels b.more_labels free in (or_left _ _ parts.0, or_left _ _ parts.1))
      (λ named. ⊎_elim
      (λ first. (or_right a.more_labels _ first, all_has (λ label. b.more_labels || has_name label b.labels) a.labels (and_parts _ _ may).1 l first))
      (λ second. (all_has (λ label. a.more_labels || has_name label a.labels) b.labels (and_parts _ _ may).0 l second, or_right b.more_labels _ second))
      (or_cases (has_name l a.labels) (has_name l b.labels) (sym (same l) ∙ named)))
      (or_cases (a.more_labels && b.more_labels) (has_name l labels) h)

  named_or_free : (m n x y : Bool) → (m || x) ≡ true → (n || y) ≡ true → ((m && n) || (x || y)) ≡ true
  named_or_free true true x y f g = refl
  named_or_free true false x y f g = or_right x y g
  named_or_free false n x y f g = or_left x y f

  labels_common : (labels : Names) → AreLabelsOfBoth labels → may_meet a b ≡ true → (ls : Names) →
      labels_meet labels (a.more_labels && b.more_labels) ls ≡ (labels_meet a.labels a.more_labels ls && labels_meet b.labels b.more_labels ls)
  labels_common labels same may ls =
      same_answer (labels_meet labels (a.more_labels && b.more_labels) ls) (labels_meet a.labels a.more_labels ls && labels_meet b.labels b.more_labels ls)
      (λ h. and_from _ _
      (labels_meet_from a.labels a.more_labels ls (λ l.
      let met = labels_met labels (a.more_labels && b.more_labels) ls h l in
      (λ i. met.0 (same l ∙ or_left _ (has_name l b.labels) i), λ t. (free_or_named labels same may l (met.1 t)).0)))
      (labels_meet_from b.labels b.more_labels ls (λ l.
      let met = labels_met labels (a.more_labels && b.more_labels) ls h l in
      (λ i. met.0 (same l ∙ or_right (has_name l a.labels) _ i), λ t. (free_or_named labels same may l (met.1 t)).1))))
      (λ h.
      let parts = and_parts _ _ h in
      labels_meet_from labels (a.more_labels && b.more_labels) ls (λ l.
      let first = labels_met a.labels a.more_labels ls parts.0 l in
      let second = labels_met b.labels b.more_labels ls parts.1 l in (
        λ i. ⊎_elim first.0 second.0 (or_cases (has_name l a.labels) (has_name l b.labels) (sym (same l) ∙ i)),
        λ t. ap (λ named. (a.more_labels && b.more_labels) || named) (same l)
            ∙ named_or_free a.more_labels b.more_labels (has_name l a.labels) (has_name l b.labels) (first.1 t) (second.1 t),
      )))

  swap_middle : (p q r s : Bool) → ((p && q) && (r && s)) ≡ ((p && r) && (q && s))
  swap_middle true true r s = refl
  swap_middle true false true s = refl
  swap_middle true false false s = refl
  swap_middle false q r s = refl

  pub shape_common : (labels names : Names) (keys : Keys) → AreLabelsOfBoth labels → AreNamesOfBoth names → ascends name_cmp names ≡ true →
      keys ≡ map (common_key a b) names → may_meet a b ≡ true → (p : NodeRow) → is_pair p ≡ true →
      (labels_meet labels (a.more_labels && b.more_labels) p.labels && props_meet keys (a.more_keys && b.more_keys) p.props) ≡ (in_shape a p && in_shape b p)
  shape_common labels names keys of_labels of_names up made may p pair =
      ap (λ ks. labels_meet labels (a.more_labels && b.more_labels) p.labels && props_meet ks (a.more_keys && b.more_keys) p.props) made
      ∙ ap (λ t. t && props_meet (map (common_key a b) names) (a.more_keys && b.more_keys) p.props) (labels_common labels of_labels may p.labels)
      ∙ ap (λ t. (labels_meet a.labels a.more_labels p.labels && labels_meet b.labels b.more_labels p.labels) && t)
      (props_common names up of_names p.props (keys_up p pair))
      ∙ swap_middle (labels_meet a.labels a.more_labels p.labels) (labels_meet b.labels b.more_labels p.labels)
      (props_meet a.keys a.more_keys p.props) (props_meet b.keys b.more_keys p.props)

  -- shapes of which one may not have a label of the other have no pair in common
  pub nothing_common : may_meet a b ≡ false → (p : NodeRow) → (in_shape a p && in_shape b p) ≡ false
  nothing_common apart p = false_from_ne_true (in_shape a p && in_shape b p) (λ h.
      let first = (and_parts _ _ (and_parts (in_shape a p) (in_shape b p) h).0).0 in
      let second = (and_parts _ _ (and_parts (in_shape a p) (in_shape b p) h).1).0 in
      true≢false (sym (and_from (allows a b.labels) (allows b a.labels)
      (has_all (λ label. a.more_labels || has_name label a.labels) b.labels
      (λ l there. (labels_met a.labels a.more_labels p.labels first l).1 ((labels_met b.labels b.more_labels p.labels second l).0 there)))
      (has_all (λ label. b.more_labels || has_name label b.labels) a.labels
      (λ l there. (labels_met b.labels b.more_labels p.labels second l).1 ((labels_met a.labels a.more_labels p.labels first l).0 there)))) ∙ apart))
