use Rattle.std.proofs.Common.{◌≡◌, ◌+◌, ◌*◌, ◌≤◌, ℕ, length, take}
use Rattle.std.specs.Prelude.{flat_map}
use Rattle.pgs_check.specs.Untyped.{is_untyped_edge, least_edge, edges_at, HaveDegreesWithin, retyped_nodes}
use Rattle.pgs_check.proofs.untyped.least_at_changed.Given as goal

abbrev pub invariant-loop-change : goal.invariant-loop-change
invariant-loop-change g l =
    let old = g.O.GraphRead.meaning l.old in
    let graph = g.G.GraphRead.meaning l.graph in
    record {
      so_far : l.found ≡ least_edge (is_untyped_edge l.compiled graph) l.fn.found (flat_map (edges_at graph) (retyped_nodes old (take l.change-index l.changes)));
      no_step_back : l.fn.steps ≤ l.steps;
      cost : (most : ℕ) → HaveDegreesWithin graph (retyped_nodes old l.changes) most →
          l.steps ≤ l.fn.steps + l.change-index + length (retyped_nodes old (take l.change-index l.changes)) * (4 * most + 2);
    }
