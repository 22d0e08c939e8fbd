use Rattle.std.proofs.Common.{◌≡◌, length}
use Rattle.pgs_schema_changes.specs.Unfolded.{tree_below, node_tree_of}
use Rattle.pgs_schema_changes.specs.Numbers.{IsNumbered, PutsAll}
use Rattle.pgs_schema_changes.proofs.declarations.number_nodes.Given as goal

abbrev pub invariant-loop-of_type : goal.invariant-loop-of_type
invariant-loop-of_type l = record {
  count : length l.numbers.items ≡ l.of_type-index;
  so_far : IsNumbered l.fn.trees.entries.items → PutsAll l.fn.trees.entries.items l.trees.entries.items l.numbers.items (tree_below node_tree_of l.types l.of_type-index);
}
