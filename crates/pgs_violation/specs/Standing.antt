-- Where a violation stands among the violations of a graph: those of no key first, then key by key; of one key by the number
-- of the violation; of one number by the least element.
use Rattle.std.specs.Prelude.{ℕ}
use Rattle.std.specs.declared.cmp.Ordering.{Ordering}
use Rattle.std.specs.declared.cmp.Ordering.TheVariants.{Equal}
use Rattle.std.specs.Ordering.{nat_cmp, ordering_then}
use Rattle.pgs_base.specs.declared.element.Elem.{Elem}
use Rattle.pgs_base.specs.declared.element.Elem.TheVariants.{Node, Edge}
use Rattle.pgs_base.specs.Order.{elem_cmp, tuple_cmp}
use Rattle.pgs_violation.specs.declared.violation.Violation.{Violation}
use Rattle.pgs_violation.specs.declared.violation.Violation.TheVariants.{UntypedNode, UntypedEdge, Mandatory, Singleton, Exclusive, CountOutside}

-- the number of the key that is violated, or 0
abbrev pub key_of : Violation → ℕ
key_of (UntypedNode node) = 0
key_of (UntypedEdge edge) = 0
key_of (Mandatory key elem) = key
key_of (Singleton key elem first second) = key
key_of (Exclusive key first second tuple) = key
key_of (CountOutside key elem count least most) = key

-- the number of the violation
abbrev pub number_of : Violation → ℕ
number_of (UntypedNode node) = 25
number_of (UntypedEdge edge) = 26
number_of (Mandatory key elem) = 27
number_of (Singleton key elem first second) = 28
number_of (Exclusive key first second tuple) = 29
number_of (CountOutside key elem count least most) = 39

-- the least element that is at fault
abbrev pub elem_of : Violation → Elem
elem_of (UntypedNode node) = Node node
elem_of (UntypedEdge edge) = Edge edge
elem_of (Mandatory key elem) = elem
elem_of (Singleton key elem first second) = elem
elem_of (Exclusive key first second tuple) = first
elem_of (CountOutside key elem count least most) = elem

-- the order of what two violations of one number carry beside it
abbrev pub carried_cmp : Violation → Violation → Ordering
carried_cmp (Singleton key elem first second) (Singleton other_key other_elem other_first other_second) =
    ordering_then (tuple_cmp first other_first) (tuple_cmp second other_second)
carried_cmp (Exclusive key first second tuple) (Exclusive other_key other_first other_second other_tuple) =
    ordering_then (elem_cmp second other_second) (tuple_cmp tuple other_tuple)
carried_cmp (CountOutside key elem count least most) (CountOutside other_key other_elem other_count other_least other_most) =
    ordering_then (ordering_then (nat_cmp count other_count) (nat_cmp least other_least)) (nat_cmp most other_most)
carried_cmp a b = Equal

-- the order of violations
abbrev pub violation_cmp : Violation → Violation → Ordering
violation_cmp a b =
    ordering_then (ordering_then (ordering_then (nat_cmp (key_of a) (key_of b)) (nat_cmp (number_of a) (number_of b)))
    (elem_cmp (elem_of a) (elem_of b))) (carried_cmp a b)
