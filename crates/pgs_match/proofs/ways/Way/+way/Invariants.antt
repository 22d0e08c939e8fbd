use Rattle.std.proofs.Common.{◌≡◌, ◌*◌, ◌+◌, ◌≤◌, fold, length, take, Some}
use Rattle.std.specs.List.{sum_by}
use Rattle.pgs_match.specs.declared.bindings.Bound.TheVariants as bounds
use Rattle.pgs_match.specs.Search.{edges_along}
use Rattle.pgs_match.proofs.WaySteps.{tuples_with, way_with}
use Rattle.pgs_match.proofs.ways.Way.+way.Given as goal

abbrev pub decreases-gather : goal.decreases-gather
decreases-gather g l = 3 * length l.ways.now

abbrev pub decreases-gather_along : goal.decreases-gather_along
decreases-gather_along g l = 3 * length l.branch.now.plan.now + 2

abbrev pub decreases-gather_with : goal.decreases-gather_with
decreases-gather_with g l = 3 * length l.branch.now.plan.now + 1

abbrev pub invariant-gather_along-loop-nth : goal.invariant-gather_along-loop-nth
invariant-gather_along-loop-nth g l =
    let search = l.self.gathering.search in
    let graph = g.G.GraphRead.meaning search.graph.now in
    let ids = edges_along graph l.forward (Some (bounds.Node l.from)) in
    record {
      so_far : l.tuples ≡ fold (tuples_with search.compiled.now graph search.atoms.now l.self.off.now l.branch.plan.now l.branch.bindings.now l.branch.var l.self.gathering.exprs.now) l.fn.tuples (take l.nth ids);
      reached : l.nth ≤ length ids;
      no_step_back : l.fn.steps ≤ l.steps;
      cost : l.steps ≤ l.fn.steps + (l.nth + sum_by (way_with search.compiled.now graph search.atoms.now l.self.off.now l.branch.plan.now l.branch.bindings.now l.branch.var (length l.self.gathering.exprs.now)) (take l.nth ids));
    }
