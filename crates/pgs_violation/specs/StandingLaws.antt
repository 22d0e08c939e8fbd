-- The order of violations is total, and tells different ones apart.
use Rattle.std.proofs.Common.{ℕ, true, true≢false, is_lt, is_gt, ◌≡◌, Decides, List, [], ◌∷◌, refl, ◌∙◌, ap, subst, Ordering, Less, Equal, Greater}
use Rattle.std.specs.Ordering.{nat_cmp, ordering_then, eq_by_cmp}
use Rattle.std.specs.Cmp.{IsTotalOrder, nat_cmp_total, on_total, then_total, Equal-is, eq_by_cmp_equiv}
use Rattle.std.specs.Cmp.Lexicographic.{slice_cmp, lists_total}
use Rattle.std.proofs.lemmas.Map.Lookups.{CmpEqualImpliesEq, exact_unsigned}
use Rattle.pgs_base.specs.declared.element.Elem.TheVariants.{Node}
use Rattle.pgs_base.specs.declared.part.Part.{Part}
use Rattle.pgs_base.specs.declared.part.Part.TheVariants as parts
use Rattle.pgs_base.specs.Order.{elem_cmp, tuple_cmp}
use Rattle.pgs_base.specs.OrderLaws.{elem_cmp_total, tuple_cmp_total, exact_elem, exact_tuple}
use Rattle.pgs_violation.specs.declared.violation.Violation.{Violation}
use Rattle.pgs_violation.specs.declared.violation.Violation.TheVariants.{UntypedNode, UntypedEdge, Mandatory, Singleton, Exclusive, CountOutside}
use Rattle.pgs_violation.specs.Standing.{violation_cmp, key_of, number_of, elem_of, carried_cmp}

-- a number as a tuple: such tuples go by their numbers
abbrev of_number : ℕ → List Part
of_number number = parts.Elem (Node (record { 0 = number })) ∷ []

-- what a violation carries, as tuples
abbrev carried : Violation → List (List Part)
carried (Singleton key elem first second) = first ∷ second ∷ []
carried (Exclusive key first second tuple) = (parts.Elem second ∷ []) ∷ tuple ∷ []
carried (CountOutside key elem count least most) = of_number count ∷ of_number least ∷ of_number most ∷ []
carried v = []

-- the order of violations, in which what two of different numbers carry compares too
abbrev full_cmp : Violation → Violation → Ordering
full_cmp a b =
    ordering_then (ordering_then (ordering_then (nat_cmp (key_of a) (key_of b)) (nat_cmp (number_of a) (number_of b)))
    (elem_cmp (elem_of a) (elem_of b))) (slice_cmp tuple_cmp (carried a) (carried b))

then_Equal : (a : Ordering) → ordering_then a Equal ≡ a
then_Equal Less = refl
then_Equal Equal = refl
then_Equal Greater = refl

three_numbers : (a b c : Ordering) →
    ordering_then (ordering_then a Equal) (ordering_then (ordering_then b Equal) (ordering_then (ordering_then c Equal) Equal))
    ≡ ordering_then (ordering_then a b) c
three_numbers Less b c = refl
three_numbers Greater b c = refl
three_numbers Equal Less c = refl
three_numbers Equal Greater c = refl
three_numbers Equal Equal c = then_Equal (ordering_then c Equal) ∙ then_Equal c

not_less : Less ≡ Equal → ⊥
not_less e = true≢false (ap is_lt e)

not_greater : Greater ≡ Equal → ⊥
not_greater e = true≢false (ap is_gt e)

same_number : (a b : Violation) → nat_cmp (number_of a) (number_of b) ≡ Equal →
    slice_cmp tuple_cmp (carried a) (carried b) ≡ carried_cmp a b
same_number (Singleton key elem first second) (Singleton other_key other_elem other_first other_second) e =
    ap (ordering_then (tuple_cmp first other_first)) (then_Equal (tuple_cmp second other_second))
same_number (Exclusive key first second tuple) (Exclusive other_key other_first other_second other_tuple) e =
    ap (λ o. ordering_then o (ordering_then (tuple_cmp tuple other_tuple) Equal)) (then_Equal (elem_cmp second other_second))
    ∙ ap (ordering_then (elem_cmp second other_second)) (then_Equal (tuple_cmp tuple other_tuple))
same_number (CountOutside key elem count least most) (CountOutside other_key other_elem other_count other_least other_most) e =
    three_numbers (nat_cmp count other_count) (nat_cmp least other_least) (nat_cmp most other_most)
same_number (Singleton key elem first second) (Exclusive other_key other_first other_second other_tuple) e = absurd (not_less e)
same_number a (CountOutside other_key other_elem other_count other_least other_most) e = absurd (not_less e)
same_number (CountOutside key elem count least most) b e = absurd (not_greater e)
same_number (Singleton key elem first second) b e = absurd (not_greater e)
same_number (Exclusive key first second tuple) b e = absurd (not_greater e)
same_number a (Singleton other_key other_elem other_first other_second) e = absurd (not_less e)
same_number a (Exclusive other_key other_first other_second other_tuple) e = absurd (not_less e)
same_number a b e = refl

settled : (k n e c d : Ordering) → (n ≡ Equal → c ≡ d) →
    ordering_then (ordering_then (ordering_then k n) e) c ≡ ordering_then (ordering_then (ordering_then k n) e) d
settled Less n e c d h = refl
settled Greater n e c d h = refl
settled Equal Less e c d h = refl
settled Equal Greater e c d h = refl
settled Equal Equal e c d h = ap (ordering_then e) (h refl)

full_cmp_same : (a b : Violation) → full_cmp a b ≡ violation_cmp a b
full_cmp_same a b =
    settled (nat_cmp (key_of a) (key_of b)) (nat_cmp (number_of a) (number_of b)) (elem_cmp (elem_of a) (elem_of b)) _ _
    (same_number a b)

pub violation_cmp_total : IsTotalOrder violation_cmp
violation_cmp_total =
    subst IsTotalOrder (λ i a b. full_cmp_same a b i)
    (then_total (then_total (then_total (on_total key_of nat_cmp_total) (on_total number_of nat_cmp_total))
    (on_total elem_of elem_cmp_total))
    (on_total carried (lists_total tuple_cmp_total)))

-- ---- violations that compare `Equal` are equal

both_Equal : (a b : Ordering) → ordering_then a b ≡ Equal → (a ≡ Equal) × (b ≡ Equal)
both_Equal Less b h = cc
both_Equal Equal b h = (refl, h)
both_Equal Greater b h = cc

-- violations of one key, one number and one element that carry the same are equal
parts_exact : (v w : Violation) → nat_cmp (key_of v) (key_of w) ≡ Equal → nat_cmp (number_of v) (number_of w) ≡ Equal →
    elem_cmp (elem_of v) (elem_of w) ≡ Equal → carried_cmp v w ≡ Equal → v ≡ w
parts_exact (UntypedNode a) (UntypedNode b) k n e c = ap (λ x. UntypedNode (record { 0 = x })) (exact_unsigned a.0 b.0 e)
parts_exact (UntypedEdge a) (UntypedEdge b) k n e c = ap (λ x. UntypedEdge (record { 0 = x })) (exact_unsigned a.0 b.0 e)
parts_exact (Mandatory key elem) (Mandatory other_key other_elem) k n e c =
    λ i. Mandatory (exact_unsigned key other_key k i) (exact_elem elem other_elem e i)
parts_exact (Singleton key elem first second) (Singleton other_key other_elem other_first other_second) k n e c =
    let carried = both_Equal (tuple_cmp first other_first) (tuple_cmp second other_second) c in
    λ i. Singleton (exact_unsigned key other_key k i) (exact_elem elem other_elem e i) (exact_tuple first other_first carried.0 i)
    (exact_tuple second other_second carried.1 i)
parts_exact (Exclusive key first second tuple) (Exclusive other_key other_first other_second other_tuple) k n e c =
    let carried = both_Equal (elem_cmp second other_second) (tuple_cmp tuple other_tuple) c in
    λ i. Exclusive (exact_unsigned key other_key k i) (exact_elem first other_first e i) (exact_elem second other_second carried.0 i)
    (exact_tuple tuple other_tuple carried.1 i)
parts_exact (CountOutside key elem count least most) (CountOutside other_key other_elem other_count other_least other_most) k n e c =
    let outer = both_Equal (ordering_then (nat_cmp count other_count) (nat_cmp least other_least)) (nat_cmp most other_most) c in
    let inner = both_Equal (nat_cmp count other_count) (nat_cmp least other_least) outer.0 in
    λ i. CountOutside (exact_unsigned key other_key k i) (exact_elem elem other_elem e i) (exact_unsigned count other_count inner.0 i)
    (exact_unsigned least other_least inner.1 i) (exact_unsigned most other_most outer.1 i)
parts_exact v w k n e c = cc

pub exact_violation : CmpEqualImpliesEq violation_cmp
exact_violation v w h =
    let upper = both_Equal _ (carried_cmp v w) h in
    let middle = both_Equal _ (elem_cmp (elem_of v) (elem_of w)) upper.0 in
    let lower = both_Equal (nat_cmp (key_of v) (key_of w)) (nat_cmp (number_of v) (number_of w)) middle.0 in
    parts_exact v w lower.0 lower.1 middle.1 upper.1

-- so `==` holds exactly of equal violations
pub violation_eq_decides : (v w : Violation) → Decides (eq_by_cmp violation_cmp v w) (v ≡ w)
violation_eq_decides v w = (
  λ t. exact_violation v w ((Equal-is (violation_cmp v w)).0 t),
  λ e. subst (λ z. eq_by_cmp violation_cmp v z ≡ true) e ((eq_by_cmp_equiv violation_cmp_total).refl v),
)
