-- What is gathered along a plan are the tuples under its completions, and whether a completion is possible is whether there is one.
use Rattle.std.proofs.Common.{◌≡◌, ℕ, ◌+◌, ◌≤◌, Bool, true, false, ◌||◌, cond, List, [], ◌∷◌, length, length-append, fold, Option, Some, None, refl, sym, ◌∙◌, ap, arith, Ordering, Less, Equal, Greater}
use Rattle.std.specs.Ordering.{match_ordering}
use Rattle.std.specs.Prelude.{option_and_then}
use Rattle.std.specs.Option.{option_map_or}
use Rattle.std.specs.List.{list_any, list_all, flat_map}
use Rattle.std.specs.List.Sorted.{IsStrictlySortedBy}
use Rattle.std.specs.BTreeMap.{is_at}
use Rattle.std.specs.BTreeSet.{insert_key}
use Rattle.std.specs.Cmp.{eq_by_cmp_equiv}
use Rattle.std.proofs.Math.Bool.{or-false}
use Rattle.std.proofs.lemmas.List.Folds.{list_any-append}
use Rattle.pgs_base.specs.declared.part.Part.{Part}
use Rattle.pgs_base.specs.Graph.{Graph}
use Rattle.pgs_base.specs.Order.{tuple_cmp}
use Rattle.pgs_base.specs.OrderLaws.{tuple_cmp_total}
use Rattle.pgs_base.proofs.Ascending.{ascending-insert_key}
use Rattle.pgs_base.proofs.Lookups.{any-insert_key}
use Rattle.pgs_syntax.specs.declared.pattern.Atom.{Atom}
use Rattle.pgs_syntax.specs.declared.pattern.Expr.{Expr}
use Rattle.pgs_syntax.specs.declared.resolved.Resolved.{Resolved}
use Rattle.pgs_syntax.proofs.Halves.{any_flat_map, any_same}
use Rattle.pgs_match.specs.declared.step.Step.{Step}
use Rattle.pgs_match.specs.declared.step.Step.TheVariants.{Along, End}
use Rattle.pgs_match.specs.declared.bindings.Bound.{Bound}
use Rattle.pgs_match.specs.Bounds.{bound_at, with_bound, end_at}
use Rattle.pgs_match.specs.Search.{edges_along, tuple_at, completions, can_complete, gathered}
use Rattle.pgs_match.specs.Tests.{admitted_node, admitted_edge, agrees}

-- ---- booleans and lists

or_three : (a b c : Bool) → ((a || b) || c) ≡ (a || (b || c))
or_three true b c = refl
or_three false b c = refl

-- a key put in makes the keys one more at most
insert_most : {K : Type 0} (cmp : K → K → Ordering) (k : K) (ks : List K) → length (insert_key cmp ks k) ≤ length ks + 1
insert_most cmp k [] = omega arith
insert_most {K} cmp k (x ∷ xs) = by (insert_most cmp k xs) (cmp k x)
  where
    by : length (insert_key cmp xs k) ≤ length xs + 1 → (o : Ordering) → length (match_ordering o (k ∷ x ∷ xs) (x ∷ xs) (x ∷ insert_key cmp xs k)) ≤ length (x ∷ xs) + 1
    by rest Less = omega arith
    by rest Equal = omega arith
    by rest Greater = omega arith

-- ---- what is so after each step of a fold, and through an option

module _ {X S : Type 0} (Is : S → Type 0) where
  pub fold_keeps : (f : S → X → S) → ((so_far : S) (x : X) → Is so_far → Is (f so_far x)) → (xs : List X) (so_far : S) → Is so_far → Is (fold f so_far xs)
  fold_keeps f each [] so_far h = h
  fold_keeps f each (x ∷ xs) so_far h = fold_keeps f each xs (f so_far x) (each so_far x h)

  pub option_keeps : (f : X → S) (so_far : S) → ((x : X) → Is (f x)) → (o : Option X) → Is so_far → Is (option_map_or f o so_far)
  option_keeps f so_far each None h = h
  option_keeps f so_far each (Some x) h = each x

module _ {X S B : Type 0} (has : S → Bool) (gives : B → Bool) where
  fold_any : (f : S → X → S) (all : X → List B) → ((so_far : S) (x : X) → has (f so_far x) ≡ (has so_far || list_any gives (all x))) → (xs : List X) (so_far : S) →
      has (fold f so_far xs) ≡ (has so_far || list_any gives (flat_map all xs))
  fold_any f all each [] so_far = sym (or-false (has so_far))
  fold_any f all each (x ∷ xs) so_far =
      fold_any f all each xs (f so_far x) ∙ ap (λ t. t || list_any gives (flat_map all xs)) (each so_far x) ∙ or_three (has so_far) (list_any gives (all x)) (list_any gives (flat_map all xs))
      ∙ ap (λ t. has so_far || t) (sym (list_any-append gives (all x) (flat_map all xs)))

  pub option_any : (f : X → S) (all : X → List B) (so_far : S) → ((x : X) → has (f x) ≡ (has so_far || list_any gives (all x))) → (o : Option X) →
      has (option_map_or f o so_far) ≡ (has so_far || list_any gives (option_map_or all o []))
  option_any f all so_far each None = sym (or-false (has so_far))
  option_any f all so_far each (Some x) = each x

module _ {X S B : Type 0} (size : S → ℕ) where
  fold_size : (f : S → X → S) (all : X → List B) → ((so_far : S) (x : X) → size (f so_far x) ≤ size so_far + length (all x)) → (xs : List X) (so_far : S) →
      size (fold f so_far xs) ≤ size so_far + length (flat_map all xs)
  fold_size f all each [] so_far = omega arith
  fold_size f all each (x ∷ xs) so_far =
      let rest = fold_size f all each xs (f so_far x) in let one = each so_far x in let both = length-append (all x) (flat_map all xs) in omega arith

  pub option_size : (f : X → S) (all : X → List B) (so_far : S) → ((x : X) → size (f x) ≤ size so_far + length (all x)) → (o : Option X) →
      size (option_map_or f o so_far) ≤ size so_far + length (option_map_or all o [])
  option_size f all so_far each None = omega arith
  option_size f all so_far each (Some x) = each x

module _ (resolved : Resolved) (g : Graph) (atoms : List Atom) where
  -- ---- whether there is one

  -- what is so of each option is so of the option
  pub through : {X : Type 0} (can : X → Bool) (all : X → List (List (Option Bound))) → ((x : X) → can x ≡ list_any (λ b. true) (all x)) → (o : Option X) →
      option_map_or can o false ≡ list_any (λ b. true) (option_map_or all o [])
  through can all same None = refl
  through can all same (Some x) = same x

  pub can_is_any : (plan : List Step) (b : List (Option Bound)) → can_complete resolved g atoms plan b ≡ list_any (λ b. true) (completions resolved g atoms plan b)
  can_is_any [] b = by (list_all (agrees b) atoms)
    where
      by : (t : Bool) → t ≡ list_any (λ b. true) (cond t (b ∷ []) [])
      by true = refl
      by false = refl
  can_is_any (Along edge node forward ∷ plan) b =
      any_same (λ id. option_map_or (λ x. can_complete resolved g atoms plan (with_bound b edge x)) (admitted_edge resolved g atoms edge id) false)
      (λ id. list_any (λ b. true) (option_map_or (λ x. completions resolved g atoms plan (with_bound b edge x)) (admitted_edge resolved g atoms edge id) []))
      (λ id. through (λ x. can_complete resolved g atoms plan (with_bound b edge x)) (λ x. completions resolved g atoms plan (with_bound b edge x))
      (λ x. can_is_any plan (with_bound b edge x)) (admitted_edge resolved g atoms edge id))
      (edges_along g forward (bound_at b node))
      ∙ sym (any_flat_map (λ b. true) (λ id. option_map_or (λ x. completions resolved g atoms plan (with_bound b edge x)) (admitted_edge resolved g atoms edge id) [])
      (edges_along g forward (bound_at b node)))
  can_is_any (End edge node source ∷ plan) b =
      through (λ x. can_complete resolved g atoms plan (with_bound b node x)) (λ x. completions resolved g atoms plan (with_bound b node x))
      (λ x. can_is_any plan (with_bound b node x)) (option_and_then (admitted_node resolved g atoms node) (end_at source (bound_at b edge)))

  -- ---- tuples

  module _ (exprs : List Expr) where
    -- tuples stay in order
    pub gathered_ascends : (plan : List Step) (b : List (Option Bound)) (tuples : List (List Part)) → IsStrictlySortedBy tuple_cmp tuples →
        IsStrictlySortedBy tuple_cmp (gathered resolved g atoms exprs plan b tuples)
    gathered_ascends [] b tuples order = by (list_all (agrees b) atoms) (tuple_at g exprs b)
      where
        by : (t : Bool) (o : Option (List Part)) → IsStrictlySortedBy tuple_cmp (cond t (option_map_or (insert_key tuple_cmp tuples) o tuples) tuples)
        by true None = order
        by true (Some tuple) = ascending-insert_key tuple_cmp_total tuple tuples order
        by false o = order
    gathered_ascends (Along edge node forward ∷ plan) b tuples order =
        fold_keeps (IsStrictlySortedBy tuple_cmp) (λ so_far id. option_map_or (λ x. gathered resolved g atoms exprs plan (with_bound b edge x) so_far) (admitted_edge resolved g atoms edge id) so_far)
        (λ so_far id h. option_keeps (IsStrictlySortedBy tuple_cmp) (λ x. gathered resolved g atoms exprs plan (with_bound b edge x) so_far) so_far
        (λ x. gathered_ascends plan (with_bound b edge x) so_far h) (admitted_edge resolved g atoms edge id) h)
        (edges_along g forward (bound_at b node)) tuples order
    gathered_ascends (End edge node source ∷ plan) b tuples order =
        option_keeps (IsStrictlySortedBy tuple_cmp) (λ x. gathered resolved g atoms exprs plan (with_bound b node x) tuples) tuples
        (λ x. gathered_ascends plan (with_bound b node x) tuples order) (option_and_then (admitted_node resolved g atoms node) (end_at source (bound_at b edge))) order

    -- there are no more of them than completions
    pub gathered_size : (plan : List Step) (b : List (Option Bound)) (tuples : List (List Part)) →
        length (gathered resolved g atoms exprs plan b tuples) ≤ length tuples + length (completions resolved g atoms plan b)
    gathered_size [] b tuples = by (list_all (agrees b) atoms) (tuple_at g exprs b)
      where
        by : (t : Bool) (o : Option (List Part)) → length (cond t (option_map_or (insert_key tuple_cmp tuples) o tuples) tuples) ≤ length tuples + length (cond t (b ∷ []) [])
        by true None = omega arith
        by true (Some tuple) = let most = insert_most tuple_cmp tuple tuples in omega arith
        by false o = omega arith
    gathered_size (Along edge node forward ∷ plan) b tuples =
        fold_size (λ so_far. length so_far) (λ so_far id. option_map_or (λ x. gathered resolved g atoms exprs plan (with_bound b edge x) so_far) (admitted_edge resolved g atoms edge id) so_far)
        (λ id. option_map_or (λ x. completions resolved g atoms plan (with_bound b edge x)) (admitted_edge resolved g atoms edge id) [])
        (λ so_far id. option_size (λ so_far. length so_far) (λ x. gathered resolved g atoms exprs plan (with_bound b edge x) so_far) (λ x. completions resolved g atoms plan (with_bound b edge x)) so_far
        (λ x. gathered_size plan (with_bound b edge x) so_far) (admitted_edge resolved g atoms edge id))
        (edges_along g forward (bound_at b node)) tuples
    gathered_size (End edge node source ∷ plan) b tuples =
        option_size (λ so_far. length so_far) (λ x. gathered resolved g atoms exprs plan (with_bound b node x) tuples) (λ x. completions resolved g atoms plan (with_bound b node x)) tuples
        (λ x. gathered_size plan (with_bound b node x) tuples) (option_and_then (admitted_node resolved g atoms node) (end_at source (bound_at b edge)))

    -- a tuple is among them where it was, or where a completion gives it
    module _ (tuple : List Part) where
      abbrev pub gives : List (Option Bound) → Bool
      gives b = option_map_or (is_at (tuple_cmp tuple)) (tuple_at g exprs b) false

      abbrev has : List (List Part) → Bool
      has tuples = list_any (is_at (tuple_cmp tuple)) tuples

      pub has_gathered : (plan : List Step) (b : List (Option Bound)) (tuples : List (List Part)) →
          has (gathered resolved g atoms exprs plan b tuples) ≡ (has tuples || list_any gives (completions resolved g atoms plan b))
      has_gathered [] b tuples = by (list_all (agrees b) atoms)
        where
          swap : (a b : Bool) → (a || b) ≡ (b || a)
          swap true true = refl
          swap true false = refl
          swap false true = refl
          swap false false = refl

          put : (o : Option (List Part)) → has (option_map_or (insert_key tuple_cmp tuples) o tuples) ≡ (has tuples || option_map_or (is_at (tuple_cmp tuple)) o false)
          put None = sym (or-false (has tuples))
          put (Some other) =
              any-insert_key tuple_cmp_total tuple other tuples ∙ ap (λ t. t || has tuples) ((eq_by_cmp_equiv tuple_cmp_total).symm other tuple)
              ∙ swap (is_at (tuple_cmp tuple) other) (has tuples)

          by : (t : Bool) → has (cond t (option_map_or (insert_key tuple_cmp tuples) (tuple_at g exprs b) tuples) tuples) ≡ (has tuples || list_any gives (cond t (b ∷ []) []))
          by true = put (tuple_at g exprs b) ∙ ap (λ t. has tuples || t) (sym (or-false (gives b)))
          by false = sym (or-false (has tuples))
      has_gathered (Along edge node forward ∷ plan) b tuples =
          fold_any has gives (λ so_far id. option_map_or (λ x. gathered resolved g atoms exprs plan (with_bound b edge x) so_far) (admitted_edge resolved g atoms edge id) so_far)
          (λ id. option_map_or (λ x. completions resolved g atoms plan (with_bound b edge x)) (admitted_edge resolved g atoms edge id) [])
          (λ so_far id. option_any has gives (λ x. gathered resolved g atoms exprs plan (with_bound b edge x) so_far) (λ x. completions resolved g atoms plan (with_bound b edge x)) so_far
          (λ x. has_gathered plan (with_bound b edge x) so_far) (admitted_edge resolved g atoms edge id))
          (edges_along g forward (bound_at b node)) tuples
      has_gathered (End edge node source ∷ plan) b tuples =
          option_any has gives (λ x. gathered resolved g atoms exprs plan (with_bound b node x) tuples) (λ x. completions resolved g atoms plan (with_bound b node x)) tuples
          (λ x. has_gathered plan (with_bound b node x) tuples) (option_and_then (admitted_node resolved g atoms node) (end_at source (bound_at b edge)))
