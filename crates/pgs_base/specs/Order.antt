-- The orders of values, elements, parts of tuples and tuples, and when keys ascend in an order.
use Rattle.std.specs.Prelude.{ℕ, Bool, true, ◌&&◌, List, [], ◌∷◌}
use Rattle.std.specs.declared.cmp.Ordering.{Ordering}
use Rattle.std.specs.declared.cmp.Ordering.TheVariants.{Less, Greater}
use Rattle.std.specs.Ordering.{nat_cmp, int_cmp, bool_cmp, ordering_then, is_lt}
use Rattle.std.specs.Cmp.Lexicographic.{slice_cmp}
use Rattle.std.specs.List.{list_all}
use Rattle.pgs_base.specs.declared.element.Elem.{Elem}
use Rattle.pgs_base.specs.declared.element.Elem.TheVariants.{Node, Edge}
use Rattle.pgs_base.specs.declared.part.Part.{Part}
use Rattle.pgs_base.specs.declared.part.Part.TheVariants as parts
use Rattle.pgs_base.specs.declared.value.Value.{Value}
use Rattle.pgs_base.specs.declared.value.Value.TheVariants as values
use Rattle.pgs_base.specs.Value.{kind_of, kind_rank}

-- whether keys ascend strictly
abbrev pub ascends : {K : Type 0} → (K → K → Ordering) → List K → Bool
ascends cmp [] = true
ascends cmp (k ∷ ks) = list_all (λ later. is_lt (cmp k later)) ks && ascends cmp ks

-- days go by year, month and day
abbrev pub day_cmp : ℕ × ℕ × ℕ → ℕ × ℕ × ℕ → Ordering
day_cmp a b = ordering_then (nat_cmp a.0 b.0) (ordering_then (nat_cmp a.1 b.1) (nat_cmp a.2 b.2))

-- values go by kind, and inside a kind by the natural order: texts by their bytes, and false before true
abbrev pub value_cmp : Value → Value → Ordering
value_cmp (values.Text a) (values.Text b) = slice_cmp nat_cmp a b
value_cmp (values.Int a) (values.Int b) = int_cmp a b
value_cmp (values.Bool a) (values.Bool b) = bool_cmp a b
value_cmp (values.Date a) (values.Date b) = day_cmp a b
value_cmp a b = nat_cmp (kind_rank (kind_of a)) (kind_rank (kind_of b))

-- nodes go before edges, and each kind by its numbers
abbrev pub elem_cmp : Elem → Elem → Ordering
elem_cmp (Node a) (Node b) = nat_cmp a.0 b.0
elem_cmp (Node a) (Edge b) = Less
elem_cmp (Edge a) (Node b) = Greater
elem_cmp (Edge a) (Edge b) = nat_cmp a.0 b.0

-- values go before elements
abbrev pub part_cmp : Part → Part → Ordering
part_cmp (parts.Value a) (parts.Value b) = value_cmp a b
part_cmp (parts.Value a) (parts.Elem b) = Less
part_cmp (parts.Elem a) (parts.Value b) = Greater
part_cmp (parts.Elem a) (parts.Elem b) = elem_cmp a b

-- tuples go part by part, and a proper prefix comes first
abbrev pub tuple_cmp : List Part → List Part → Ordering
tuple_cmp = slice_cmp part_cmp

-- rows of properties go by name, and then by value
abbrev pub row_cmp : List ℕ × Value → List ℕ × Value → Ordering
row_cmp a b = ordering_then (slice_cmp nat_cmp a.0 b.0) (value_cmp a.1 b.1)

-- properties go row by row, and a proper prefix comes first
abbrev pub props_cmp : List (List ℕ × Value) → List (List ℕ × Value) → Ordering
props_cmp = slice_cmp row_cmp
