-- The lesser of two changes of elements, and what an operation names, part by part.
use Rattle.std.specs.Prelude.{ℕ, Option, Some, None}
use Rattle.pgs_base.specs.declared.element.NodeId.{NodeId}
use Rattle.pgs_base.specs.declared.element.Elem.{Elem}
use Rattle.pgs_base.specs.declared.element.Elem.TheVariants.{Node, Edge}
use Rattle.pgs_graph.specs.declared.operation.Op.{Op}
use Rattle.pgs_graph.specs.declared.operation.Op.TheVariants.{AddNode, AddEdge, RemoveNode, DetachNode, RemoveEdge, SetNode, UnsetNode, LabelNode, UnlabelNode, SetEdge, UnsetEdge, LabelEdge, UnlabelEdge}
use Rattle.pgs_sessions_machine.specs.Machine.{lesser}

-- a change, or another change where there is none, or where that is of a lesser element
abbrev pub lesser_of : Option (Elem × ℕ) → Option (Elem × ℕ) → Option (Elem × ℕ)
lesser_of None other = other
lesser_of (Some change) other = Some (lesser change other)

-- the element of an operation
abbrev pub own_elem : Op → Elem
own_elem (AddNode id labels props) = Node id
own_elem (AddEdge id source target labels props) = Edge id
own_elem (RemoveNode id) = Node id
own_elem (DetachNode id) = Node id
own_elem (RemoveEdge id) = Edge id
own_elem (SetNode id key value) = Node id
own_elem (UnsetNode id key) = Node id
own_elem (LabelNode id label) = Node id
own_elem (UnlabelNode id label) = Node id
own_elem (SetEdge id key value) = Edge id
own_elem (UnsetEdge id key) = Edge id
own_elem (LabelEdge id label) = Edge id
own_elem (UnlabelEdge id label) = Edge id

-- the ends of an edge that it adds
abbrev pub own_ends : Op → Option (NodeId × NodeId)
own_ends (AddNode id labels props) = None
own_ends (AddEdge id source target labels props) = Some (source, target)
own_ends (RemoveNode id) = None
own_ends (DetachNode id) = None
own_ends (RemoveEdge id) = None
own_ends (SetNode id key value) = None
own_ends (UnsetNode id key) = None
own_ends (LabelNode id label) = None
own_ends (UnlabelNode id label) = None
own_ends (SetEdge id key value) = None
own_ends (UnsetEdge id key) = None
own_ends (LabelEdge id label) = None
own_ends (UnlabelEdge id label) = None
