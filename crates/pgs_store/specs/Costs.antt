-- How many look-ups one transaction takes at most.
use Rattle.std.specs.Prelude.{◌+◌, ◌*◌, ◌^◌, ◌≤◌, ℕ, length}
use Rattle.pgs_base.specs.declared.limits.Limits.{Limits}
use Rattle.pgs_base.specs.Graph.{Graph}
use Rattle.pgs_check.specs.Costs.{HaveEdgesWithin}
use Rattle.pgs_check_affected.specs.Touched.{AreSparse}
use Rattle.pgs_decide.specs.Touched.{guarding_count, staged_after, touched_by}
use Rattle.pgs_graph.specs.declared.operation.Txn.{Txn}
use Rattle.pgs_store.specs.State.{GuardState}
use Rattle.pgs_syntax.specs.declared.resolved.Resolved.{Resolved}

-- Between two counts a transaction on a graph took at most as many look-ups as it may: no pattern of the keys has more edge variables
-- than `edges`, and no node within twice so many edges of what the transaction touches, over the graphs before and after it together,
-- has more edges than `most` in either.
abbrev pub TakesWithin : Resolved → Limits → Graph → Txn → ℕ → ℕ → Type 0
TakesWithin resolved limits g txn before after = (edges most : ℕ) → HaveEdgesWithin resolved.guard.keys edges →
    AreSparse g (staged_after limits g txn) (2 * edges) (touched_by g txn.ops) most →
    after ≤ before + 4096 * (guarding_count resolved + 1) * (length txn.ops + length (touched_by g txn.ops) + 1) * (most + 2) ^ (2 * edges + 2)

-- the same on the graph of a guard, by its schema and limits
abbrev pub IsWithin : GuardState → Txn → ℕ → ℕ → Type 0
IsWithin guard txn before after = TakesWithin guard.schema guard.limits guard.graph txn before after
