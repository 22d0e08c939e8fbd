-- The elements that differ in a graph and in what a delta makes of it.
use Rattle.std.specs.Prelude.{List, [], ◌∷◌, ◌++◌, Option, if◌then◌else◌}
use Rattle.std.specs.Option.{option_map_or}
use Rattle.pgs_base.specs.declared.element.NodeId.{NodeId}
use Rattle.pgs_base.specs.declared.element.EdgeId.{EdgeId}
use Rattle.pgs_base.specs.declared.element.Elem.{Elem}
use Rattle.pgs_base.specs.declared.element.Elem.TheVariants as elems
use Rattle.pgs_base.specs.declared.row.NodeRow.{NodeRow}
use Rattle.pgs_base.specs.declared.row.EdgeRow.{EdgeRow}
use Rattle.pgs_base.specs.Graph.{Graph}
use Rattle.pgs_graph.specs.declared.delta.Delta.{Delta}
use Rattle.pgs_sessions_machine.specs.declared.event.Content.{Content}
use Rattle.pgs_sessions_machine.specs.declared.event.Content.TheVariants.{Absent, Node, Edge}
use Rattle.pgs_sessions_machine.specs.Content.{content_of, is_same_content}

-- the content that a row gives, or that there is none
abbrev pub node_content : Option NodeRow → Content
node_content row = option_map_or Node row Absent

abbrev pub edge_content : Option EdgeRow → Content
edge_content row = option_map_or Edge row Absent

-- of changes by key, the elements that are left with another content than they had
abbrev pub differing_by : {K V : Type 0} → (K → Elem) → (K → Content) → (Option V → Content) → List (K × Option V) → List Elem
differing_by elem_of held left [] = []
differing_by elem_of held left (change ∷ changes) =
    if is_same_content (held change.0) (left change.1) then differing_by elem_of held left changes
    else elem_of change.0 ∷ differing_by elem_of held left changes

abbrev pub differing_nodes : Graph → List (NodeId × Option NodeRow) → List Elem
differing_nodes g = differing_by elems.Node (λ (id : NodeId). content_of g (elems.Node id)) node_content

abbrev pub differing_edges : Graph → List (EdgeId × Option EdgeRow) → List Elem
differing_edges g = differing_by elems.Edge (λ (id : EdgeId). content_of g (elems.Edge id)) edge_content

abbrev pub differing : Graph → Delta → List Elem
differing g delta = differing_nodes g delta.nodes ++ differing_edges g delta.edges
