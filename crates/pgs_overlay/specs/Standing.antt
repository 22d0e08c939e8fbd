-- When an overlay stands, and what its making costs.
use Rattle.std.specs.Prelude.{◌≡◌, ℕ, ◌+◌, ◌≤◌, true, List, [], length}
use Rattle.pgs_base.specs.declared.element.NodeId.{NodeId}
use Rattle.pgs_base.specs.Graph.{Graph, element_count, is_graph}
use Rattle.pgs_graph.specs.declared.delta.Delta.{Delta}
use Rattle.pgs_graph.specs.Changed.{changed, is_sound}
use Rattle.pgs_graph.specs.Reads.{degree_of}
use Rattle.pgs_tables.specs.Adjacency.{is_touched}
use Rattle.pgs_overlay.specs.declared.edited_list.EditedList.{EditedList}
use Rattle.pgs_overlay.specs.declared.side.Side.TheVariants.{Out, In}
use Rattle.pgs_overlay.specs.Passed.{ArePassed}

-- a sound delta over a graph, with the lists after all its edges and the count of the elements after it
pub record IsOverlay (g : Graph) (delta : Delta) (outgoing incoming : List (NodeId × EditedList)) (count : ℕ) : Type 0 where
  pub graph : is_graph g ≡ true
  pub sound : is_sound g delta ≡ true
  pub outgoing_passed : ArePassed Out g delta.edges [] outgoing
  pub incoming_passed : ArePassed In g delta.edges [] incoming
  pub counted : count ≡ element_count (changed g delta)

-- how many rows a delta has
abbrev pub row_count : Delta → ℕ
row_count delta = length delta.nodes + length delta.edges

-- no old or new end of an edge that a delta changes has more edges than this
abbrev pub HasDegreesWithin : Graph → Delta → ℕ → Type 0
HasDegreesWithin g delta most = (id : NodeId) → is_touched g delta id ≡ true → degree_of g id ≤ most
