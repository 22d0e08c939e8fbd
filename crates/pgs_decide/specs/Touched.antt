-- What a transaction touches, by its operations: the elements that they name as their own, and the edges at these nodes.
use Rattle.std.specs.Prelude.{ℕ, ◌+◌, List, [], ◌∷◌, length, Result, Ok, Err}
use Rattle.std.specs.BTreeSet.{insert_key}
use Rattle.pgs_base.specs.declared.element.Elem.{Elem}
use Rattle.pgs_base.specs.declared.element.Elem.TheVariants.{Node, Edge}
use Rattle.pgs_base.specs.declared.limits.Limits.{Limits}
use Rattle.pgs_base.specs.Graph.{Graph}
use Rattle.pgs_base.specs.Order.{elem_cmp}
use Rattle.pgs_graph.specs.declared.operation.Op.{Op}
use Rattle.pgs_graph.specs.declared.operation.Op.TheVariants.{AddNode, AddEdge, RemoveNode, DetachNode, RemoveEdge, SetNode, UnsetNode, LabelNode, UnlabelNode, SetEdge, UnsetEdge, LabelEdge, UnlabelEdge}
use Rattle.pgs_graph.specs.declared.operation.Txn.{Txn}
use Rattle.pgs_syntax.specs.declared.resolved.Resolved.{Resolved}
use Rattle.pgs_violation.specs.declared.structural.Structural.{Structural}
use Rattle.pgs_violation.specs.Staging.{staged}
use Rattle.pgs_check_affected.specs.Touched.{touched}

-- the element that an operation names as its own
abbrev pub element_of : Op → Elem
element_of (AddNode id labels props) = Node id
element_of (RemoveNode id) = Node id
element_of (DetachNode id) = Node id
element_of (SetNode id key value) = Node id
element_of (UnsetNode id key) = Node id
element_of (LabelNode id label) = Node id
element_of (UnlabelNode id label) = Node id
element_of (AddEdge id source target labels props) = Edge id
element_of (RemoveEdge id) = Edge id
element_of (SetEdge id key value) = Edge id
element_of (UnsetEdge id key) = Edge id
element_of (LabelEdge id label) = Edge id
element_of (UnlabelEdge id label) = Edge id

-- the elements that operations name as their own, ascending and each once
abbrev pub named : List Op → List Elem
named [] = []
named (op ∷ ops) = insert_key elem_cmp (named ops) (element_of op)

-- What a transaction touches of a graph: the elements that its operations name, and the edges at these nodes. An edge that only the graph
-- after it has is named, so that there are no others at these nodes then.
abbrev pub touched_by : Graph → List Op → List Elem
touched_by g ops = touched g (named ops)

-- the graph after a transaction that can be done, else the same
abbrev pub graph_after : Graph → Result Graph Structural → Graph
graph_after g (Ok next) = next
graph_after g (Err structural) = g

abbrev pub staged_after : Limits → Graph → Txn → Graph
staged_after limits g txn = graph_after g (staged limits g txn)

-- how many types and keys a schema's guard has
abbrev pub guarding_count : Resolved → ℕ
guarding_count resolved = length resolved.guard.types + length resolved.guard.keys
