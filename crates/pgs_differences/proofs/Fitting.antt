-- A pair and a shape have no difference exactly where the pair is in the shape.
use Rattle.std.proofs.Common.{◌≡◌, ℕ, Bool, true, false, cond, ◌&&◌, ◌||◌, List, [], ◌∷◌, ◌++◌, Option, Some, None, flat_map, refl, ap, ap₂, ◌∙◌}
use Rattle.std.specs.List.{list_all}
use Rattle.std.specs.Map.{keys_of}
use Rattle.pgs_base.specs.declared.row.NodeRow.{NodeRow}
use Rattle.pgs_base.specs.declared.value.Value.{Value}
use Rattle.pgs_base.specs.Pair.{has_name, value_at}
use Rattle.pgs_syntax.specs.Join.{is_empty}
use Rattle.pgs_conform.specs.declared.options.Options.{Options}
use Rattle.pgs_conform.specs.declared.shape.Shape.{Shape}
use Rattle.pgs_conform.specs.Shapes.{admits, in_shape, labels_meet, props_meet}
use Rattle.pgs_differences.specs.declared.difference.Difference.{Difference}
use Rattle.pgs_differences.specs.Differences.{of_asked_label, of_label, of_absent, of_present, of_key, label_differences, present_differences, key_differences, differences}

empty_cond : {A : Type 0} (b : Bool) (a : A) → is_empty (cond b [] (a ∷ [])) ≡ b
empty_cond true a = refl
empty_cond false a = refl

empty_both : {A : Type 0} (xs ys : List A) → is_empty (xs ++ ys) ≡ (is_empty xs && is_empty ys)
empty_both [] ys = refl
empty_both (x ∷ xs) ys = refl

-- nothing is made exactly where each item passes
nothing_made : {X A : Type 0} (f : X → List A) (test : X → Bool) → ((x : X) → is_empty (f x) ≡ test x) →
    (xs : List X) → is_empty (flat_map f xs) ≡ list_all test xs
nothing_made f test same [] = refl
nothing_made f test same (x ∷ xs) = empty_both (f x) (flat_map f xs) ∙ ap₂ (λ a b. a && b) (same x) (nothing_made f test same xs)

and_assoc : (a b c : Bool) → (a && (b && c)) ≡ ((a && b) && c)
and_assoc true b c = refl
and_assoc false b c = refl

and_true : (a : Bool) → (a && true) ≡ a
and_true true = refl
and_true false = refl

and_swap : (a b c d : Bool) → ((a && b) && (c && d)) ≡ ((a && c) && (b && d))
and_swap true true c d = refl
and_swap true false true d = refl
and_swap true false false d = refl
and_swap false b c d = refl

all_both : {X : Type 0} (f g : X → Bool) (xs : List X) → (list_all f xs && list_all g xs) ≡ list_all (λ x. f x && g x) xs
all_both f g [] = refl
all_both f g (x ∷ xs) = and_swap (f x) (list_all f xs) (g x) (list_all g xs) ∙ ap (λ b. (f x && g x) && b) (all_both f g xs)

all_same : {X : Type 0} (f g : X → Bool) → ((x : X) → f x ≡ g x) → (xs : List X) → list_all f xs ≡ list_all g xs
all_same f g same [] = refl
all_same f g same (x ∷ xs) = ap₂ (λ a b. a && b) (same x) (all_same f g same xs)

-- at a key that is named what stands there is admitted where neither difference is made
admitted_at : (key : List ℕ × Options) (value : Option Value) →
    (is_empty (of_absent key value) && is_empty (of_present key value)) ≡ admits key.1 value
admitted_at key None = and_true _ ∙ empty_cond _ _
admitted_at key (Some value) = empty_cond _ _

no_labels : (shape : Shape) (labels : List (List ℕ)) → is_empty (label_differences shape labels) ≡ labels_meet shape.labels shape.more_labels labels
unfolding label_differences
no_labels shape labels =
    empty_both (flat_map (of_asked_label labels) shape.labels) (flat_map (of_label shape.more_labels shape.labels) labels)
    ∙ ap₂ (λ a b. a && b) (nothing_made (of_asked_label labels) (λ l. has_name l labels) (λ l. empty_cond _ _) shape.labels)
    (nothing_made (of_label shape.more_labels shape.labels) (λ l. shape.more_labels || has_name l shape.labels) (λ l. empty_cond _ _) labels)

module _ (shape : Shape) (props : List (List ℕ × Value)) where
  abbrev absent_at : List ℕ × Options → List Difference
  absent_at key = of_absent key (value_at key.0 props)

  abbrev present_at : List ℕ × Options → List Difference
  present_at key = of_present key (value_at key.0 props)

  abbrev all_free : Bool
  all_free = list_all (λ (entry : List ℕ × Value). shape.more_keys || has_name entry.0 (keys_of shape.keys)) props

  no_absent : is_empty (flat_map absent_at shape.keys) ≡ list_all (λ key. is_empty (absent_at key)) shape.keys
  no_absent = nothing_made absent_at (λ key. is_empty (absent_at key)) (λ key. refl) shape.keys

  no_present : is_empty (present_differences shape props) ≡ (list_all (λ key. is_empty (present_at key)) shape.keys && all_free)
  unfolding present_differences
  no_present =
      empty_both (flat_map present_at shape.keys) (flat_map (of_key shape.more_keys shape.keys) props)
      ∙ ap₂ (λ a b. a && b) (nothing_made present_at (λ key. is_empty (present_at key)) (λ key. refl) shape.keys)
      (nothing_made (of_key shape.more_keys shape.keys) (λ (entry : List ℕ × Value). shape.more_keys || has_name entry.0 (keys_of shape.keys)) (λ entry. empty_cond _ _) props)

  all_admitted : (list_all (λ key. is_empty (absent_at key)) shape.keys && list_all (λ key. is_empty (present_at key)) shape.keys)
      ≡ list_all (λ (key : List ℕ × Options). admits key.1 (value_at key.0 props)) shape.keys
  all_admitted =
      all_both (λ key. is_empty (absent_at key)) (λ key. is_empty (present_at key)) shape.keys
      ∙ all_same (λ key. is_empty (absent_at key) && is_empty (present_at key)) (λ (key : List ℕ × Options). admits key.1 (value_at key.0 props))
      (λ key. admitted_at key (value_at key.0 props)) shape.keys

  no_keys : is_empty (key_differences shape props) ≡ props_meet shape.keys shape.more_keys props
  unfolding key_differences
  no_keys =
      empty_both (flat_map absent_at shape.keys) (present_differences shape props)
      ∙ ap₂ (λ a b. a && b) no_absent no_present
      ∙ and_assoc (list_all (λ key. is_empty (absent_at key)) shape.keys) (list_all (λ key. is_empty (present_at key)) shape.keys) all_free
      ∙ ap (λ b. b && all_free) all_admitted

pub no_difference : (shape : Shape) (p : NodeRow) → is_empty (differences shape p) ≡ in_shape shape p
no_difference shape p =
    empty_both (label_differences shape p.labels) (key_differences shape p.props)
    ∙ ap₂ (λ a b. a && b) (no_labels shape p.labels) (no_keys shape p.props)
