-- Operations and graphs on which the causes of faults, and their order, are tried.
use Rattle.std.specs.Prelude.{ℕ, ◌+◌, ◌/◌, ◌%◌, true, List, [], ◌∷◌, codes, map}
use Rattle.std.specs.List.{range_with_len}
use Rattle.pgs_base.specs.declared.value.Value.{Value}
use Rattle.pgs_base.specs.declared.value.Value.TheVariants as values
use Rattle.pgs_base.specs.Graph.{Graph}
use Rattle.pgs_graph.specs.declared.operation.Op.{Op}
use Rattle.pgs_graph.specs.declared.operation.Op.TheVariants.{AddNode, AddEdge, SetNode, LabelNode, UnlabelNode, SetEdge, UnsetEdge, LabelEdge, UnlabelEdge}
use Rattle.pgs_syntax.specs.Samples.{node, edge}

-- so many properties, at most 676: kaa, kab, ..
abbrev pub many_props : ℕ → List (List ℕ × Value)
many_props count = map (λ n. (107 ∷ (97 + n / 26) ∷ (97 + n % 26) ∷ [], values.Bool true)) (range_with_len 0 count)

-- adding a node with these properties, and an edge with these labels
abbrev pub add_node_with : ℕ → List (List ℕ × Value) → Op
add_node_with number props = AddNode (record { 0 = number }) [] props

abbrev pub add_edge_with : ℕ → ℕ → ℕ → List (List ℕ) → Op
add_edge_with number source target labels =
    AddEdge (record { 0 = number }) (record { 0 = source }) (record { 0 = target }) labels []

-- setting a property of a node, and of an edge; labelling a node, and an edge
abbrev pub set_node : ℕ → List ℕ → Op
set_node number key = SetNode (record { 0 = number }) key (values.Bool true)

abbrev pub set_edge : ℕ → List ℕ → Op
set_edge number key = SetEdge (record { 0 = number }) key (values.Bool true)

abbrev pub label_node : ℕ → List ℕ → Op
label_node number label = LabelNode (record { 0 = number }) label

abbrev pub label_edge : ℕ → List ℕ → Op
label_edge number label = LabelEdge (record { 0 = number }) label

-- unsetting a property of an edge; taking a label from a node, and from an edge
abbrev pub unset_edge : ℕ → List ℕ → Op
unset_edge number key = UnsetEdge (record { 0 = number }) key

abbrev pub unlabel_node : ℕ → List ℕ → Op
unlabel_node number label = UnlabelNode (record { 0 = number }) label

abbrev pub unlabel_edge : ℕ → List ℕ → Op
unlabel_edge number label = UnlabelEdge (record { 0 = number }) label

-- a property as set_node and set_edge set it
abbrev pub set_key : List ℕ → List (List ℕ × Value)
set_key key = (key, values.Bool true) ∷ []

-- n1 with e1 from n1 to n1, which has these labels and properties
abbrev pub loop_with : List (List ℕ) → List (List ℕ × Value) → Graph
loop_with labels props = record {
  nodes = node 1 [] [] ∷ [];
  edges = (record { 0 = 1 }, record { source = record { 0 = 1 }; target = record { 0 = 1 }; labels = labels; props = props }) ∷ [];
}

-- n1 and n2, e1 from n2 to itself, e2 from n1 to n2 and e5 back
abbrev pub two_ways : Graph
two_ways = record {
  nodes = node 1 [] [] ∷ node 2 [] [] ∷ [];
  edges = edge 1 2 2 (codes "r") ∷ edge 2 1 2 (codes "r") ∷ edge 5 2 1 (codes "r") ∷ [];
}

-- the same without n1 and the edges at it
abbrev pub second_alone : Graph
second_alone = record { nodes = node 2 [] [] ∷ []; edges = edge 1 2 2 (codes "r") ∷ [] }
