-- Staging: the graph after the operations of a transaction, or why they can't be done.
use Rattle.std.specs.Prelude.{ℕ, ◌+◌, Bool, ◌&&◌, List, [], ◌∷◌, length, Option, Some, None, is_some, Result, Ok, Err, nat_le, nat_lt, if◌then◌else◌, not}
use Rattle.std.specs.List.{filter}
use Rattle.pgs_base.specs.declared.element.NodeId.{NodeId}
use Rattle.pgs_base.specs.declared.element.EdgeId.{EdgeId}
use Rattle.pgs_base.specs.declared.element.Elem.TheVariants.{Node, Edge}
use Rattle.pgs_base.specs.declared.limits.Limits.{Limits}
use Rattle.pgs_base.specs.declared.row.NodeRow.{NodeRow}
use Rattle.pgs_base.specs.declared.row.EdgeRow.{EdgeRow}
use Rattle.pgs_base.specs.declared.value.Value.{Value}
use Rattle.pgs_base.specs.Graph.{Graph, node_at, edge_at, element_count, with_node, with_edge, without_node, without_edge, is_end}
use Rattle.pgs_base.specs.Pair.{pair_of, put_value, take_value, put_name, take_name}
use Rattle.pgs_graph.specs.declared.operation.Op.{Op}
use Rattle.pgs_graph.specs.declared.operation.Op.TheVariants.{AddNode, AddEdge, RemoveNode, DetachNode, RemoveEdge, SetNode, UnsetNode, LabelNode, UnlabelNode, SetEdge, UnsetEdge, LabelEdge, UnlabelEdge}
use Rattle.pgs_graph.specs.declared.operation.Txn.{Txn}
use Rattle.pgs_violation.specs.declared.structural.Cause.{Cause}
use Rattle.pgs_violation.specs.declared.structural.Cause.TheVariants.{AlreadyThere, NoNode, NoEdge, HasEdges}
use Rattle.pgs_violation.specs.declared.structural.Structural.{Structural}
use Rattle.pgs_violation.specs.declared.structural.Structural.TheVariants.{TooManyOps, BadOp, ElementTooLarge, TooManyElements}

-- why one operation is at fault: it can't be done, or its element would be too large
pub data StepFault : Type 0 where
  Unable : Cause → StepFault
  TooLarge : StepFault

infixl 10 ◌>>=◌
abbrev pub ◌>>=◌ : {A B F : Type 0} → Result A F → (A → Result B F) → Result B F
(Ok x) >>= f = f x
(Err fault) >>= f = Err fault

-- what is there, or the cause that it isn't
abbrev pub found_or : {A : Type 0} → Cause → Option A → Result A StepFault
found_or cause None = Err (Unable cause)
found_or cause (Some found) = Ok found

-- the row of the node, or that there is no such node
abbrev pub node_or_fault : Graph → NodeId → Result NodeRow StepFault
node_or_fault g id = found_or (NoNode id) (node_at g id)

-- the row of the edge, or that there is no such edge
abbrev pub edge_or_fault : Graph → EdgeId → Result EdgeRow StepFault
edge_or_fault g id = found_or (NoEdge id) (edge_at g id)

-- an element has at most 64 labels and 256 properties
abbrev pub is_small : List (List ℕ) → List (List ℕ × Value) → Bool
is_small labels props = nat_le (length labels) 64 && nat_le (length props) 256

-- the graph with this row of the node, where the row isn't too large
abbrev pub put_node : Graph → NodeId → NodeRow → Result Graph StepFault
put_node g id row = if is_small row.labels row.props then Ok (with_node g id row) else Err TooLarge

abbrev pub put_edge : Graph → EdgeId → EdgeRow → Result Graph StepFault
put_edge g id row = if is_small row.labels row.props then Ok (with_edge g id row) else Err TooLarge

-- the edges at a node, by number
abbrev pub edges_at : Graph → NodeId → List (EdgeId × EdgeRow)
edges_at g id = filter (λ (edge : EdgeId × EdgeRow). is_end id edge.1) g.edges

-- the graph without a node and the edges at it
abbrev pub detached : Graph → NodeId → Graph
detached g id = record {
  nodes = (without_node g id).nodes;
  edges = filter (λ (edge : EdgeId × EdgeRow). not (is_end id edge.1)) g.edges;
}

-- the graph without a node that has no edges
abbrev pub lone_node_removed : Graph → NodeId → List (EdgeId × EdgeRow) → Result Graph StepFault
lone_node_removed g id [] = Ok (without_node g id)
lone_node_removed g id (edge ∷ edges) = Err (Unable (HasEdges id edge.0))

-- the graph with a new node
abbrev pub added_node : Graph → NodeId → NodeRow → Result Graph StepFault
added_node g id row =
    if is_some (node_at g id) then Err (Unable (AlreadyThere (Node id))) else put_node g id row

-- the graph with a new edge: its own number is tested first, then its source, then its target
abbrev pub added_edge : Graph → EdgeId → EdgeRow → Result Graph StepFault
added_edge g id row =
    if is_some (edge_at g id) then Err (Unable (AlreadyThere (Edge id)))
    else (node_or_fault g row.source >>= λ _. node_or_fault g row.target >>= λ _. put_edge g id row)

-- the graph after one operation, or why it is at fault
abbrev pub step : Graph → Op → Result Graph StepFault
step g (AddNode id labels props) = added_node g id (pair_of labels props)
step g (AddEdge id source target labels props) =
    added_edge g id (record { source = source; target = target; labels = labels; props = props })
step g (RemoveNode id) = node_or_fault g id >>= λ _. lone_node_removed g id (edges_at g id)
step g (DetachNode id) = node_or_fault g id >>= λ _. Ok (detached g id)
step g (RemoveEdge id) = edge_or_fault g id >>= λ _. Ok (without_edge g id)
step g (SetNode id key value) = node_or_fault g id >>= λ row. put_node g id (record row { props = put_value row.props key value })
step g (UnsetNode id key) = node_or_fault g id >>= λ row. put_node g id (record row { props = take_value row.props key })
step g (LabelNode id label) = node_or_fault g id >>= λ row. put_node g id (record row { labels = put_name row.labels label })
step g (UnlabelNode id label) = node_or_fault g id >>= λ row. put_node g id (record row { labels = take_name row.labels label })
step g (SetEdge id key value) = edge_or_fault g id >>= λ row. put_edge g id (record row { props = put_value row.props key value })
step g (UnsetEdge id key) = edge_or_fault g id >>= λ row. put_edge g id (record row { props = take_value row.props key })
step g (LabelEdge id label) = edge_or_fault g id >>= λ row. put_edge g id (record row { labels = put_name row.labels label })
step g (UnlabelEdge id label) = edge_or_fault g id >>= λ row. put_edge g id (record row { labels = take_name row.labels label })

-- the refusal of the operation at a place, from 1
abbrev pub refusal_at : ℕ → StepFault → Structural
refusal_at place (Unable cause) = BadOp place cause
refusal_at place TooLarge = ElementTooLarge place

-- what comes of a step at a place: the steps after it, or its refusal
abbrev pub going_on : ℕ → Result Graph StepFault → (Graph → Result Graph Structural) → Result Graph Structural
going_on place (Ok next) rest = rest next
going_on place (Err fault) rest = Err (refusal_at place fault)

-- the graph after operations that stand from a place on, or the refusal of the first that is at fault
abbrev pub after_ops : Graph → ℕ → List Op → Result Graph Structural
after_ops g place [] = Ok g
after_ops g place (op ∷ ops) = going_on place (step g op) (λ next. after_ops next (place + 1) ops)

-- a graph within the limit, or that it has too many elements
abbrev pub within_limit : Limits → Graph → Result Graph Structural
within_limit limits g =
    if nat_lt limits.elements (element_count g) then Err (TooManyElements (element_count g)) else Ok g

-- the graph after a transaction, or its structural refusal
abbrev pub staged : Limits → Graph → Txn → Result Graph Structural
staged limits g txn =
    if nat_lt limits.ops (length txn.ops) then Err (TooManyOps (length txn.ops))
    else (after_ops g 1 txn.ops >>= within_limit limits)
