-- In what a change touches no element stands twice, so that it is no longer than a list that holds all of it.
use Rattle.std.proofs.Common.{◌≡◌, ◌≤◌, Bool, true, false, cond, List, [], ◌∷◌, ◌++◌, map, filter, length, refl, ◌∙◌, arith}
use Rattle.std.specs.Cmp.{IsEquivalence, eq_by_cmp_equiv}
use Rattle.std.specs.List.{AllByRecursion, IsDistinct, list_any}
use Rattle.std.specs.Map.{keys_of}
use Rattle.std.specs.Ordering.{eq_by_cmp}
use Rattle.std.proofs.lemmas.Bool.{and_parts, or_parts, not-true}
use Rattle.std.proofs.lemmas.List.{length-append, length-map}
use Rattle.std.proofs.lemmas.Map.Entries.{length-keys_of}
use Rattle.std.proofs.lemmas.Map.Keys.{IsDistinct-from_sorted}
use Rattle.std.proofs.lemmas.Map.Made.{length-le_from_is_member}
use Rattle.std.proofs.lemmas.List.Kept.{IsStrictlySortedBy-filter}
use Rattle.pgs_base.specs.declared.element.Elem.{Elem}
use Rattle.pgs_base.specs.declared.element.Elem.TheVariants.{Node, Edge}
use Rattle.pgs_base.specs.Graph.{Graph, is_graph}
use Rattle.pgs_base.specs.Order.{ascends, elem_cmp}
use Rattle.pgs_base.specs.OrderLaws.{elem_cmp_total}
use Rattle.pgs_base.proofs.Ascending.{ascends_decides}
use Rattle.pgs_graph.specs.declared.delta.Delta.{Delta}
use Rattle.pgs_syntax.specs.Matches.{elements}
use Rattle.pgs_syntax.proofs.InOrder.{edges_ascend}
use Rattle.pgs_check_affected.specs.Changes.{elems_of}
use Rattle.pgs_check_affected.specs.Local.{is_one_of, has_touched_end}
use Rattle.pgs_overlay.specs.Standing.{row_count}
use Rattle.pgs_check_affected.specs.Touched.{is_beside, touched}

-- ---- two lists that share nothing

module _ {K : Type 0} where
  all_weaker : (P Q : K → Type 0) → ((k : K) → P k → Q k) → (ks : List K) → AllByRecursion P ks → AllByRecursion Q ks
  all_weaker P Q weaker [] all = tt
  all_weaker P Q weaker (k ∷ ks) all = (weaker k all.0, all_weaker P Q weaker ks all.1)

  all_append : (P : K → Type 0) (xs ys : List K) → AllByRecursion P xs → AllByRecursion P ys → AllByRecursion P (xs ++ ys)
  all_append P [] ys first second = second
  all_append P (x ∷ xs) ys first second = (first.0, all_append P xs ys first.1 second)

  distinct_append : (eq : K → K → Bool) → IsEquivalence eq → (xs ys : List K) → IsDistinct eq xs → IsDistinct eq ys →
      AllByRecursion (λ y. list_any (eq y) xs ≡ false) ys → IsDistinct eq (xs ++ ys)
  unfolding IsDistinct
  distinct_append eq laws [] ys first second apart = second
  distinct_append eq laws (x ∷ xs) ys first second apart = (
    all_append (λ y. eq x y ≡ false) xs ys first.0
        (all_weaker (λ y. list_any (eq y) (x ∷ xs) ≡ false) (λ y. eq x y ≡ false) (λ y none. laws.symm x y ∙ (or_parts (eq y x) _ none).0) ys apart),
    distinct_append eq laws xs ys first.1 second
        (all_weaker (λ y. list_any (eq y) (x ∷ xs) ≡ false) (λ y. list_any (eq y) xs ≡ false) (λ y none. (or_parts (eq y x) _ none).1) ys apart),
  )

-- ---- what a change touches

module _ (g : Graph) (elems : List Elem) where
  besides_apart : (all : List Elem) → AllByRecursion (λ elem. is_one_of elems elem ≡ false) (filter (is_beside g elems) all)
  besides_apart [] = tt
  besides_apart (elem ∷ all) = by (is_beside g elems elem) refl (besides_apart all)
    where
      by : (b : Bool) → is_beside g elems elem ≡ b → AllByRecursion (λ e. is_one_of elems e ≡ false) (filter (is_beside g elems) all) →
          AllByRecursion (λ e. is_one_of elems e ≡ false) (cond b (elem ∷ filter (is_beside g elems) all) (filter (is_beside g elems) all))
      by true is rest = (not-true _ (and_parts (has_touched_end (is_one_of elems) g elem) _ is).1, rest)
      by false is rest = rest

  module _ (graph : is_graph g ≡ true) (ascending : ascends elem_cmp elems ≡ true) where
    touched_distinct : IsDistinct (eq_by_cmp elem_cmp) (touched g elems)
    touched_distinct =
        distinct_append (eq_by_cmp elem_cmp) (eq_by_cmp_equiv elem_cmp_total) elems (filter (is_beside g elems) (elements g true))
        (IsDistinct-from_sorted elem_cmp elems ((ascends_decides elem_cmp elems).0 ascending))
        (IsDistinct-from_sorted elem_cmp (filter (is_beside g elems) (elements g true))
        (IsStrictlySortedBy-filter elem_cmp (is_beside g elems) (elements g true) ((ascends_decides elem_cmp (elements g true)).0 (edges_ascend g graph))))
        (besides_apart (elements g true))

    pub touched_fewer : (all : List Elem) → ((elem : Elem) → is_one_of (touched g elems) elem ≡ true → is_one_of all elem ≡ true) → length (touched g elems) ≤ length all
    touched_fewer all within = length-le_from_is_member (eq_by_cmp_equiv elem_cmp_total) (touched g elems) all touched_distinct within

pub rows_fewer : (g : Graph) (delta : Delta) → row_count delta ≤ length (touched g (elems_of delta))
rows_fewer g delta =
    let nodes = length-map (keys_of delta.nodes) (λ id. Node id) ∙ length-keys_of delta.nodes in
    let edges = length-map (keys_of delta.edges) (λ id. Edge id) ∙ length-keys_of delta.edges in
    let both = length-append (map (λ id. Node id) (keys_of delta.nodes)) (map (λ id. Edge id) (keys_of delta.edges)) in
    let all = length-append (elems_of delta) (filter (is_beside g (elems_of delta)) (elements g true)) in
    omega arith
