use Rattle.std.proofs.Common.{ℕ, List, length, sym, subst}
use Rattle.pgs_syntax.specs.declared.element_type.NodeType.{NodeType}
use Rattle.pgs_syntax.specs.declared.element_type.EdgeType.{EdgeType}
use Rattle.pgs_syntax.specs.declared.specification.Leaf.{Leaf}
use Rattle.pgs_schema_changes.specs.Unfolded.{tree_below, node_tree, node_tree_of, edge_tree_of}
use Rattle.pgs_schema_changes.specs.Numbers.{AreNamed, PutsAll}
use Rattle.pgs_schema_changes.proofs.Unfolding.{types_put}
use Rattle.pgs_schema_changes.proofs.declarations.number_types.Goals as goal

pub returns : goal.returns
returns c = λ numbered.
    let resolved = c.args.resolved.now in
    let old = c.args.trees.now.entries.items in
    let mid = c.number_nodes.new.trees.entries.items in
    let new = c.number_edges.new.trees.entries.items in
    let nodes = c.in_ok-nodes.nodes.items in
    let edges = c.in_ok-edges.edges.items in
    let first =
    subst (λ (types : List (NodeType Leaf)). PutsAll old mid nodes (tree_below node_tree_of types (length types))) c.as_slice.ensures (c.in_ok-nodes.ensures numbered) in
    let second =
    subst (λ (types : List (EdgeType Leaf)). PutsAll mid new edges (tree_below (edge_tree_of resolved) types (length types))) c.as_slice-3.ensures
    (c.in_ok-edges.ensures resolved first.numbered (subst (λ (ns : List ℕ). AreNamed mid ns (node_tree resolved)) (sym c.as_slice-2.ensures.value) first.named)) in
    types_put resolved old mid new (record { nodes = c.in_ok-nodes.nodes; edges = c.in_ok-edges.edges }) first second
