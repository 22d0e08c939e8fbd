use Rattle.std.proofs.Common.{ℕ, ◌≤◌, length, drop}
use Rattle.pgs_schema_changes.specs.Unfolded.{Tree}
use Rattle.pgs_schema_changes.specs.Numbers.{AreNamed, IsNumbered, Puts}
use Rattle.pgs_schema_changes.specs.Parts.{parts_tree}
use Rattle.pgs_schema_changes.proofs.specification.+trees.Given as goal

abbrev pub invariant-number_of_parts-loop-left : goal.invariant-number_of_parts-loop-left
invariant-number_of_parts-loop-left l = record {
  within : l.left ≤ length l.parts;
  so_far : (names : ℕ → Tree) → IsNumbered l.fn.trees.entries.items → AreNamed l.fn.trees.entries.items l.named names → Puts l.fn.trees.entries.items l.trees.entries.items l.rest (parts_tree names (drop l.left l.parts));
}

abbrev pub decreases-number_of_parts-loop-left : goal.decreases-number_of_parts-loop-left
decreases-number_of_parts-loop-left l = l.left
