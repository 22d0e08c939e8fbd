use Rattle.std.proofs.Common.{◌≡◌, ◌*◌, ◌+◌, ◌≤◌, false, length, take, Some}
use Rattle.std.specs.List.{list_any, sum_by}
use Rattle.pgs_match.specs.declared.bindings.Bound.TheVariants as bounds
use Rattle.pgs_match.specs.Search.{edges_along}
use Rattle.pgs_match.proofs.BranchSteps.{given_with, asked_with}
use Rattle.pgs_match.proofs.search.Search.+given.Given as goal

abbrev pub decreases-can_be_given : goal.decreases-can_be_given
decreases-can_be_given g l = 4 * length l.plan.now

abbrev pub decreases-branch_can : goal.decreases-branch_can
decreases-branch_can g l = 4 * length l.rest.now + 3

abbrev pub decreases-edge_can : goal.decreases-edge_can
decreases-edge_can g l = 4 * length l.rest.now + 2

abbrev pub decreases-next_can : goal.decreases-next_can
decreases-next_can g l = 4 * length l.rest.now + 1

abbrev pub invariant-edge_can-loop-nth : goal.invariant-edge_can-loop-nth
invariant-edge_can-loop-nth g l =
    let graph = g.G.GraphRead.meaning l.self.graph.now in
    let ids = edges_along graph l.forward (Some (bounds.Node l.from)) in
    record {
      none : list_any (given_with l.self.compiled.now graph l.self.atoms.now l.rest l.var) (take l.nth ids) ≡ false;
      reached : l.nth ≤ length ids;
      no_step_back : l.fn.steps ≤ l.steps;
      cost : l.steps ≤ l.fn.steps + (l.nth + sum_by (asked_with l.self.compiled.now graph l.self.atoms.now l.rest l.var) (take l.nth ids));
    }
