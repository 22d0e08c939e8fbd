-- The lines of some elements, and of more, one after another.
use Rattle.std.proofs.Common.{◌≡◌, ℕ, List, [], ◌∷◌, ◌++◌, map, ap, sym, ◌∙◌}
use Rattle.std.proofs.lemmas.List.{append-nil, map-append}
use Rattle.std.proofs.lemmas.List.Concat.{flat_map-append}
use Rattle.pgs_base.specs.declared.element.NodeId.{NodeId}
use Rattle.pgs_base.specs.declared.element.EdgeId.{EdgeId}
use Rattle.pgs_base.specs.declared.element.Elem.{Elem}
use Rattle.pgs_base.specs.declared.row.NodeRow.{NodeRow}
use Rattle.pgs_base.specs.declared.row.EdgeRow.{EdgeRow}
use Rattle.pgs_base.specs.declared.value.Value.{Value}
use Rattle.pgs_base.specs.Graph.{Graph}
use Rattle.pgs_dump.specs.Lines.{set_op, node_ops, edge_ops, op_line, graph_lines}
use Rattle.pgs_dump.specs.Parts.{set_lines, node_lines, edge_lines}

module _ (elem : Elem) where
  pub set_lines-append : (xs ys : List (List ℕ × Value)) → set_lines elem (xs ++ ys) ≡ set_lines elem xs ++ set_lines elem ys
  set_lines-append xs ys = ap (map op_line) (map-append (set_op elem) xs ys) ∙ map-append op_line (map (set_op elem) xs) (map (set_op elem) ys)

pub node_lines-append : (xs ys : List (NodeId × NodeRow)) → node_lines (xs ++ ys) ≡ node_lines xs ++ node_lines ys
node_lines-append xs ys = ap (map op_line) (flat_map-append node_ops xs ys) ∙ map-append op_line _ _

pub node_lines_one : (node : NodeId × NodeRow) → node_lines (node ∷ []) ≡ map op_line (node_ops node)
node_lines_one node = ap (map op_line) (append-nil (node_ops node))

pub edge_lines-append : (xs ys : List (EdgeId × EdgeRow)) → edge_lines (xs ++ ys) ≡ edge_lines xs ++ edge_lines ys
edge_lines-append xs ys = ap (map op_line) (flat_map-append edge_ops xs ys) ∙ map-append op_line _ _

pub edge_lines_one : (edge : EdgeId × EdgeRow) → edge_lines (edge ∷ []) ≡ map op_line (edge_ops edge)
edge_lines_one edge = ap (map op_line) (append-nil (edge_ops edge))

-- the nodes, and then the edges
pub nodes_edges : (g : Graph) → node_lines g.nodes ++ edge_lines g.edges ≡ graph_lines g
nodes_edges g = sym (map-append op_line _ _)
