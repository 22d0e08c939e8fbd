-- The types of the guard that an element comes nearest to. Types that are ABSTRACT or that nothing fits are left out, and among a
-- type's shapes the first with the least measure counts.
use Rattle.std.specs.Prelude.{◌≡◌, ℕ, ◌+◌, Bool, true, false, not, ◌&&◌, ◌||◌, List, [], ◌∷◌, MatchBool, count_by, take, Option, filter, fold, flat_map, nat_le, if◌then◌else◌}
use Rattle.std.specs.declared.cmp.Ordering.{Ordering}
use Rattle.std.specs.Ordering.{nat_cmp, ordering_then, is_lt}
use Rattle.std.specs.List.{list_all, AllZip}
use Rattle.std.specs.Option.{option_map_or}
use Rattle.pgs_base.specs.declared.row.NodeRow.{NodeRow}
use Rattle.pgs_syntax.specs.declared.resolved.Resolved.{Resolved}
use Rattle.pgs_syntax.specs.declared.resolved.TypeNo.{TypeNo}
use Rattle.pgs_syntax.specs.declared.resolved.TypeNo.TheVariants.{Node, Edge}
use Rattle.pgs_syntax.specs.Fitting.{fits_node, fits_edge}
use Rattle.pgs_syntax.specs.Join.{PairTriple, is_empty}
use Rattle.pgs_syntax.specs.Typed.{is_concrete_node_type, is_concrete_edge_type}
use Rattle.pgs_conform.specs.declared.options.Options.{Options}
use Rattle.pgs_conform.specs.declared.shape.Shape.{Shape}
use Rattle.pgs_conform.specs.declared.shape.Triple.{Triple as ShapeTriple}
use Rattle.pgs_conform.specs.Shapes.{Denotes, DenotesTriples}
use Rattle.pgs_differences.specs.declared.difference.Difference.{Difference}
use Rattle.pgs_differences.specs.declared.difference.Difference.TheVariants.{LacksLabel, FurtherLabel}
use Rattle.pgs_differences.specs.declared.measure.Measure.{Measure}
use Rattle.pgs_differences.specs.declared.near_type.NearType.{NearType}
use Rattle.pgs_differences.specs.Differences.{label_differences, key_differences, differences}

-- whether something may stand at a key of these options, and whether it may at each key of a shape: else nothing is in the shape
abbrev pub is_possible_key : List ℕ × Options → Bool
is_possible_key key = key.1.absent || (key.1.text || (key.1.int || (key.1.boolean || key.1.date)))

unfoldable pub is_possible : Shape → Bool
is_possible shape = list_all is_possible_key shape.keys

-- the differences at an end of an edge: those in labels alone, where there are such
unfoldable pub end_differences : Shape → NodeRow → List Difference
end_differences shape p =
    if is_empty (label_differences shape p.labels) then key_differences shape p.props else label_differences shape p.labels

-- a node type by one of its shapes, and an edge type by one of its triples of shapes; none where nothing is in it
abbrev pub near_nodes : ℕ → NodeRow → Shape → List NearType
near_nodes number p shape =
    if is_possible shape
    then record { type_no = Node number; source = []; own = differences shape p; target = [] } ∷ []
    else []

abbrev pub near_edges : ℕ → PairTriple → ShapeTriple → List NearType
near_edges number t shapes =
    if is_possible shapes.source && (is_possible shapes.middle && is_possible shapes.target)
    then record {
      type_no = Edge number;
      source = end_differences shapes.source t.source;
      own = differences shapes.middle t.own;
      target = end_differences shapes.target t.target;
    } ∷ []
    else []

-- ---- the measure

-- whether a difference is one in labels, and one in keys
abbrev pub is_of_label : Difference → Bool
is_of_label (LacksLabel label) = true
is_of_label (FurtherLabel label) = true
is_of_label _ = false

abbrev pub is_of_key : Difference → Bool
is_of_key difference = not (is_of_label difference)

-- 1 of an end that differs
abbrev pub differs : List Difference → ℕ
differs found = if is_empty found then 0 else 1

-- How far a type is: differences of its own labels, ends that differ, differences of its own keys, of the ends' labels and of the
-- ends' keys. So of a node, which has no ends, differences in labels and then the others.
abbrev pub measure_of : NearType → Measure
measure_of near = record {
  own_labels = count_by is_of_label near.own;
  ends = differs near.source + differs near.target;
  own_keys = count_by is_of_key near.own;
  end_labels = count_by is_of_label near.source + count_by is_of_label near.target;
  end_keys = count_by is_of_key near.source + count_by is_of_key near.target;
}

-- measures go by their numbers, the first that differs
abbrev pub measure_cmp : Measure → Measure → Ordering
measure_cmp a b =
    ordering_then (nat_cmp a.own_labels b.own_labels) (ordering_then (nat_cmp a.ends b.ends)
    (ordering_then (nat_cmp a.own_keys b.own_keys)
    (ordering_then (nat_cmp a.end_labels b.end_labels) (nat_cmp a.end_keys b.end_keys))))

-- whether a type goes before another: it has the lesser measure
unfoldable pub goes_before : NearType → NearType → Bool
goes_before near other = is_lt (measure_cmp (measure_of near) (measure_of other))

-- items with one put among them, behind those that it doesn't go before
abbrev pub put : {X : Type 0} → (X → X → Bool) → List X → X → List X
put before [] x = x ∷ []
put before (y ∷ ys) x = if before x y then x ∷ y ∷ ys else y ∷ put before ys x

-- items in order, each behind those that it doesn't go before
abbrev pub in_order : {X : Type 0} → (X → X → Bool) → List X → List X
in_order before xs = fold (put before) [] xs

-- types by measure, those with the same as they are given
abbrev pub by_measure : List NearType → List NearType
by_measure nears = in_order goes_before nears

-- ---- the candidates, and which are told

-- the nearest of a type's shapes, where something is in one of them
abbrev pub nearest_shape : List NearType → List NearType
nearest_shape nears = take 1 (by_measure nears)

-- What of a type of the guard is a candidate for a node, and for an edge: nothing of an abstract one, else what is nearest among
-- shapes that denote the type.
abbrev pub IsNodeCandidate : Resolved → NodeRow → TypeNo → List NearType → Type 0
IsNodeCandidate resolved p (Node number) found =
    MatchBool (is_concrete_node_type resolved number)
    ((shapes : List Shape) × Denotes shapes (fits_node resolved number)
    × (found ≡ nearest_shape (flat_map (near_nodes number p) shapes)))
    (found ≡ [])
IsNodeCandidate resolved p (Edge number) found = found ≡ []

abbrev pub IsEdgeCandidate : Resolved → PairTriple → TypeNo → List NearType → Type 0
IsEdgeCandidate resolved t (Node number) found = found ≡ []
IsEdgeCandidate resolved t (Edge number) found =
    MatchBool (is_concrete_edge_type resolved number)
    ((triples : List ShapeTriple) × DenotesTriples triples (fits_edge resolved number)
    × (found ≡ nearest_shape (flat_map (near_edges number t) triples)))
    (found ≡ [])

-- the candidates of types, in their order
abbrev pub Candidates : (TypeNo → List NearType → Type 0) → List TypeNo → List NearType → Type 0
Candidates IsCandidate types nears =
    (found : List (List NearType)) × AllZip IsCandidate types found × (nears ≡ flat_map (λ one. one) found)

-- whether a type is one of edges
abbrev pub is_edge_type : TypeNo → Bool
is_edge_type (Node number) = false
is_edge_type (Edge number) = true

-- whether a type is an edge type and the ends fit
abbrev pub has_fitting_ends : NearType → Bool
has_fitting_ends near = is_edge_type near.type_no && (is_empty near.source && is_empty near.target)

-- whether a type is one of those with the fewest differences of their own labels, or of an edge whose ends fit
abbrev pub is_eligible : List NearType → NearType → Bool
is_eligible nears near =
    has_fitting_ends near
    || list_all (λ other. nat_le (count_by is_of_label near.own) (count_by is_of_label other.own)) nears

-- the same, where the fewest are known
abbrev pub is_eligible_by : Option ℕ → NearType → Bool
is_eligible_by fewest near = has_fitting_ends near || option_map_or (nat_le (count_by is_of_label near.own)) fewest true

-- the nearest of candidates: at most three of those that are eligible
unfoldable pub nearest : List NearType → List NearType
nearest nears = take 3 (by_measure (filter (is_eligible nears) nears))

-- types are the nearest of types of the guard, where it is said what a type's candidate is
abbrev pub AreNearest : (TypeNo → List NearType → Type 0) → List TypeNo → List NearType → Type 0
AreNearest IsCandidate types told = (nears : List NearType) × Candidates IsCandidate types nears × (told ≡ nearest nears)
