-- What a staged delta may list, and what a stage may look up, by the operations of its transaction.
use Rattle.std.specs.Prelude.{◌≡◌, ℕ, Bool, true, false, ◌&&◌, ◌||◌, ◌==◌, List, nat_le}
use Rattle.std.specs.List.{list_any, list_all}
use Rattle.std.specs.Map.{keys_of}
use Rattle.pgs_base.specs.declared.element.NodeId.{NodeId}
use Rattle.pgs_base.specs.declared.element.EdgeId.{EdgeId}
use Rattle.pgs_base.specs.Graph.{Graph, edge_at}
use Rattle.pgs_graph.specs.declared.delta.Delta.{Delta}
use Rattle.pgs_graph.specs.declared.operation.Op.{Op}
use Rattle.pgs_graph.specs.declared.operation.Op.TheVariants.{AddNode, AddEdge, RemoveNode, DetachNode, RemoveEdge, SetNode, UnsetNode, LabelNode, UnlabelNode, SetEdge, UnsetEdge, LabelEdge, UnlabelEdge}
use Rattle.pgs_graph.specs.Reads.{degree_of}
use Rattle.pgs_txn.specs.Looks.{is_at_node}
use Rattle.pgs_txn.specs.Rows.{has_end}

-- whether a node is the element of an operation
abbrev pub names_node : NodeId → Op → Bool
names_node id (AddNode node labels props) = node.0 == id.0
names_node id (RemoveNode node) = node.0 == id.0
names_node id (DetachNode node) = node.0 == id.0
names_node id (SetNode node key value) = node.0 == id.0
names_node id (UnsetNode node key) = node.0 == id.0
names_node id (LabelNode node label) = node.0 == id.0
names_node id (UnlabelNode node label) = node.0 == id.0
names_node id (AddEdge edge source target labels props) = false
names_node id (RemoveEdge edge) = false
names_node id (SetEdge edge key value) = false
names_node id (UnsetEdge edge key) = false
names_node id (LabelEdge edge label) = false
names_node id (UnlabelEdge edge label) = false

-- whether an edge is the element of an operation
abbrev pub names_edge : EdgeId → Op → Bool
names_edge id (AddEdge edge source target labels props) = edge.0 == id.0
names_edge id (RemoveEdge edge) = edge.0 == id.0
names_edge id (SetEdge edge key value) = edge.0 == id.0
names_edge id (UnsetEdge edge key) = edge.0 == id.0
names_edge id (LabelEdge edge label) = edge.0 == id.0
names_edge id (UnlabelEdge edge label) = edge.0 == id.0
names_edge id (AddNode node labels props) = false
names_edge id (RemoveNode node) = false
names_edge id (DetachNode node) = false
names_edge id (SetNode node key value) = false
names_edge id (UnsetNode node key) = false
names_edge id (LabelNode node label) = false
names_edge id (UnlabelNode node label) = false

-- whether an operation detaches a node
abbrev pub detaches : Op → Bool
detaches (DetachNode node) = true
detaches (AddNode node labels props) = false
detaches (AddEdge edge source target labels props) = false
detaches (RemoveNode node) = false
detaches (RemoveEdge edge) = false
detaches (SetNode node key value) = false
detaches (UnsetNode node key) = false
detaches (LabelNode node label) = false
detaches (UnlabelNode node label) = false
detaches (SetEdge edge key value) = false
detaches (UnsetEdge edge key) = false
detaches (LabelEdge edge label) = false
detaches (UnlabelEdge edge label) = false

-- whether an edge of the graph stands at a node that an operation detaches
abbrev pub detaches_edge : Graph → EdgeId → Op → Bool
detaches_edge g id (DetachNode node) = has_end node (edge_at g id)
detaches_edge g id (AddNode node labels props) = false
detaches_edge g id (AddEdge edge source target labels props) = false
detaches_edge g id (RemoveNode node) = false
detaches_edge g id (RemoveEdge edge) = false
detaches_edge g id (SetNode node key value) = false
detaches_edge g id (UnsetNode node key) = false
detaches_edge g id (LabelNode node label) = false
detaches_edge g id (UnlabelNode node label) = false
detaches_edge g id (SetEdge edge key value) = false
detaches_edge g id (UnsetEdge edge key) = false
detaches_edge g id (LabelEdge edge label) = false
detaches_edge g id (UnlabelEdge edge label) = false

-- the nodes that a delta of operations may list
abbrev pub may_list_node : List Op → NodeId → Bool
may_list_node ops id = list_any (names_node id) ops

-- the edges that it may list
abbrev pub may_list_edge : Graph → List Op → EdgeId → Bool
may_list_edge g ops id = list_any (λ op. names_edge id op || detaches_edge g id op) ops

-- whether a delta lists only elements that operations name, and edges of nodes that they detach
abbrev pub lists_only : Graph → List Op → Delta → Bool
lists_only g ops delta = list_all (may_list_node ops) (keys_of delta.nodes) && list_all (may_list_edge g ops) (keys_of delta.edges)

-- the in-degree plus the out-degree of an operation's element, where it is a node
abbrev pub element_degree : Graph → Op → ℕ
element_degree g (AddNode node labels props) = degree_of g node
element_degree g (RemoveNode node) = degree_of g node
element_degree g (DetachNode node) = degree_of g node
element_degree g (SetNode node key value) = degree_of g node
element_degree g (UnsetNode node key) = degree_of g node
element_degree g (LabelNode node label) = degree_of g node
element_degree g (UnlabelNode node label) = degree_of g node
element_degree g (AddEdge edge source target labels props) = 0
element_degree g (RemoveEdge edge) = 0
element_degree g (SetEdge edge key value) = 0
element_degree g (UnsetEdge edge key) = 0
element_degree g (LabelEdge edge label) = 0
element_degree g (UnlabelEdge edge label) = 0

-- whether each node that an operation names as its element has at most this degree
abbrev pub has_degrees_upto : Graph → ℕ → List Op → Bool
has_degrees_upto g most ops = list_all (λ op. nat_le (element_degree g op) most) ops

-- tests pass what one operation may list
abbrev pub MayList : Graph → Op → (NodeId → Bool) → (EdgeId → Bool) → Type 0
MayList g (AddNode id labels props) nodes edges = nodes id ≡ true
MayList g (RemoveNode id) nodes edges = nodes id ≡ true
MayList g (DetachNode id) nodes edges = (nodes id ≡ true) × ((edge : EdgeId) → is_at_node id g edge ≡ true → edges edge ≡ true)
MayList g (SetNode id key value) nodes edges = nodes id ≡ true
MayList g (UnsetNode id key) nodes edges = nodes id ≡ true
MayList g (LabelNode id label) nodes edges = nodes id ≡ true
MayList g (UnlabelNode id label) nodes edges = nodes id ≡ true
MayList g (AddEdge id source target labels props) nodes edges = edges id ≡ true
MayList g (RemoveEdge id) nodes edges = edges id ≡ true
MayList g (SetEdge id key value) nodes edges = edges id ≡ true
MayList g (UnsetEdge id key) nodes edges = edges id ≡ true
MayList g (LabelEdge id label) nodes edges = edges id ≡ true
MayList g (UnlabelEdge id label) nodes edges = edges id ≡ true
