-- When lists of shapes stand for the types of a schema: there are as many as types, each denotes what its type asks, and none is
-- longer than its type's width counts.
use Rattle.std.specs.Prelude.{◌≡◌, ℕ, Bool, true, List, length, slice_get, Some}
use Rattle.pgs_base.specs.declared.row.NodeRow.{NodeRow}
use Rattle.pgs_syntax.specs.declared.resolved.Resolved.{Resolved}
use Rattle.pgs_syntax.specs.Fitting.{fits_node, fits_edge}
use Rattle.pgs_syntax.specs.Join.{PairTriple}
use Rattle.pgs_syntax.specs.Valid.{is_valid}
use Rattle.pgs_conform.specs.declared.shape.Shape.{Shape}
use Rattle.pgs_conform.specs.declared.shape.Triple.{Triple as ShapeTriple}
use Rattle.pgs_conform.specs.Counts.{AreWithin, widths_of_nodes, widths_of_edges}
use Rattle.pgs_conform.specs.Shapes.{Denotes, DenotesTriples}

-- each list of shapes denotes the test of its number
abbrev pub EachDenotes : List (List Shape) → (ℕ → NodeRow → Bool) → Type 0
EachDenotes lists test =
    (number : ℕ) (shapes : List Shape) → slice_get lists number ≡ Some shapes → Denotes shapes (test number)

-- each list of triples of shapes denotes the test of its number
abbrev pub EachDenotesTriples : List (List ShapeTriple) → (ℕ → PairTriple → Bool) → Type 0
EachDenotesTriples lists test =
    (number : ℕ) (triples : List ShapeTriple) → slice_get lists number ≡ Some triples → DenotesTriples triples (test number)

-- the lists stand for the types of a valid schema
pub record StandsFor (resolved : Resolved) (nodes : List (List Shape)) (edges : List (List ShapeTriple)) : Type 0 where
  pub valid : is_valid resolved ≡ true
  pub node_count : length nodes ≡ length resolved.nodes
  pub edge_count : length edges ≡ length resolved.edges
  pub node_shapes : EachDenotes nodes (fits_node resolved)
  pub edge_shapes : EachDenotesTriples edges (fits_edge resolved)
  pub node_widths : AreWithin (widths_of_nodes resolved) nodes
  pub edge_widths : AreWithin (widths_of_edges resolved) edges
