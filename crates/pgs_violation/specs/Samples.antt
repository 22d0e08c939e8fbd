-- Graphs and transactions on which the definitions are tried.
use Rattle.std.specs.Prelude.{ℕ, ◌+◌, ◌/◌, ◌%◌, true, List, [], ◌∷◌, codes, map}
use Rattle.std.specs.List.{range_with_len}
use Rattle.pgs_base.specs.declared.limits.Limits.{Limits}
use Rattle.pgs_base.specs.declared.value.Value.{Value}
use Rattle.pgs_base.specs.declared.value.Value.TheVariants as values
use Rattle.pgs_base.specs.Graph.{Graph}
use Rattle.pgs_graph.specs.declared.operation.Op.{Op}
use Rattle.pgs_graph.specs.declared.operation.Op.TheVariants.{AddNode, AddEdge, RemoveNode, DetachNode, RemoveEdge, SetNode, UnsetNode}
use Rattle.pgs_graph.specs.declared.operation.Txn.{Txn}
use Rattle.pgs_syntax.specs.KeySamples.{mail}
use Rattle.pgs_syntax.specs.declared.resolved.Resolved.{Resolved}
use Rattle.pgs_syntax.specs.declared.resolved.TypeNo.TheVariants.{Node, Edge}
use Rattle.pgs_syntax.specs.Samples.{node, edge, label, type, node_type, schema}

-- the limits of the program, and those of one operation and one element
abbrev pub limits : Limits
limits = record { ops = 10000; elements = 1000000 }

abbrev pub tight : Limits
tight = record { ops = 1; elements = 1 }

-- those of two operations and one element
abbrev pub narrow : Limits
narrow = record { ops = 2; elements = 1 }

abbrev pub txn : List Op → Txn
txn ops = record { ops = ops }

-- adding a node with these labels, and an edge with this label
abbrev pub add_node : ℕ → List (List ℕ) → Op
add_node number labels = AddNode (record { 0 = number }) labels []

abbrev pub add_edge : ℕ → ℕ → ℕ → List ℕ → Op
add_edge number source target name =
    AddEdge (record { 0 = number }) (record { 0 = source }) (record { 0 = target }) (name ∷ []) []

-- removing a node, and a node with its edges, and an edge
abbrev pub remove_node : ℕ → Op
remove_node number = RemoveNode (record { 0 = number })

abbrev pub detach_node : ℕ → Op
detach_node number = DetachNode (record { 0 = number })

abbrev pub remove_edge : ℕ → Op
remove_edge number = RemoveEdge (record { 0 = number })

-- setting a mail, and unsetting a property
abbrev pub set_mail : ℕ → List ℕ → Op
set_mail number text = SetNode (record { 0 = number }) (codes "mail") (values.Text text)

abbrev pub unset : ℕ → List ℕ → Op
unset number key = UnsetNode (record { 0 = number }) key

-- adding two persons with these mails
abbrev pub add_two_persons : List ℕ → List ℕ → Txn
add_two_persons first second =
    txn (AddNode (record { 0 = 1 }) (codes "Person" ∷ []) (mail first)
    ∷ AddNode (record { 0 = 2 }) (codes "Person" ∷ []) (mail second) ∷ [])

-- three persons of one mail, and a person without
abbrev pub one_mail : Graph
one_mail = record {
  nodes = node 1 (codes "Person" ∷ []) (mail (codes "a")) ∷ node 2 (codes "Person" ∷ []) (mail (codes "a"))
      ∷ node 3 (codes "Person" ∷ []) (mail (codes "a")) ∷ node 4 (codes "Person" ∷ []) [] ∷ [];
  edges = [];
}

-- n1 alone, with these labels and properties
abbrev pub lone : List (List ℕ) → List (List ℕ × Value) → Graph
lone labels props = record { nodes = node 1 labels props ∷ []; edges = [] }

-- n1 with e1 from n1 to n1
abbrev pub looped : Graph
looped = record { nodes = node 1 [] [] ∷ []; edges = edge 1 1 1 (codes "knows") ∷ [] }

-- so many labels, at most 100: L00, L01, ..
abbrev pub many_labels : ℕ → List (List ℕ)
many_labels count = map (λ n. 76 ∷ (48 + n / 10) ∷ (48 + n % 10) ∷ []) (range_with_len 0 count)

-- (p: P), ABSTRACT (:p)-[e: knows]->(:p)
abbrev pub abstractly_tied : Resolved
abstractly_tied =
    schema (node_type (codes "p") 1 (label (codes "P")) ∷ [])
    (record { name = codes "e"; hidden = true; place = 2; source = type 0; middle = label (codes "knows"); target = type 0 } ∷ [])
    (Node 0 ∷ Edge 0 ∷ []) []
