use Rattle.std.proofs.Common.{◌≡◌, ◌*◌, ◌+◌, ◌≤◌, false, length, take, Some}
use Rattle.std.specs.List.{list_any, sum_by}
use Rattle.pgs_match.specs.declared.bindings.Bound.TheVariants as bounds
use Rattle.pgs_match.specs.Search.{edges_along}
use Rattle.pgs_match.proofs.Along.{can_with, steps_with}
use Rattle.pgs_match.proofs.search.Search.+complete.Given as goal

abbrev pub decreases-can_complete : goal.decreases-can_complete
decreases-can_complete g l = 3 * length l.plan.now

abbrev pub decreases-can_complete_along : goal.decreases-can_complete_along
decreases-can_complete_along g l = 3 * length l.branch.now.plan.now + 2

abbrev pub decreases-can_complete_with : goal.decreases-can_complete_with
decreases-can_complete_with g l = 3 * length l.branch.now.plan.now + 1

abbrev pub invariant-can_complete_along-loop-nth : goal.invariant-can_complete_along-loop-nth
invariant-can_complete_along-loop-nth g l =
    let graph = g.G.GraphRead.meaning l.self.graph.now in
    let ids = edges_along graph l.forward (Some (bounds.Node l.from)) in
    record {
      none : list_any (can_with l.self.compiled.now graph l.self.atoms.now l.branch.plan.now l.branch.bindings.now l.branch.var) (take l.nth ids) ≡ false;
      reached : l.nth ≤ length ids;
      no_step_back : l.fn.steps ≤ l.steps;
      cost : l.steps ≤ l.fn.steps + (l.nth + sum_by (steps_with l.self.compiled.now graph l.self.atoms.now l.branch.plan.now l.branch.bindings.now l.branch.var 0) (take l.nth ids));
    }
