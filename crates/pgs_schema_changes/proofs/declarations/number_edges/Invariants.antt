use Rattle.std.proofs.Common.{◌≡◌, length}
use Rattle.pgs_syntax.specs.declared.resolved.Resolved.{Resolved}
use Rattle.pgs_schema_changes.specs.Unfolded.{tree_below, edge_tree_of, node_tree}
use Rattle.pgs_schema_changes.specs.Numbers.{AreNamed, IsNumbered, PutsAll}
use Rattle.pgs_schema_changes.proofs.declarations.number_edges.Given as goal

abbrev pub invariant-loop-of_type : goal.invariant-loop-of_type
invariant-loop-of_type l = record {
  count : length l.numbers.items ≡ l.of_type-index;
  so_far : (resolved : Resolved) → IsNumbered l.fn.trees.entries.items → AreNamed l.fn.trees.entries.items l.nodes (node_tree resolved)
      → PutsAll l.fn.trees.entries.items l.trees.entries.items l.numbers.items (tree_below (edge_tree_of resolved) l.types l.of_type-index);
}
