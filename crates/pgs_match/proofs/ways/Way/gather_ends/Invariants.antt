use Rattle.std.proofs.Common.{◌≡◌, ◌+◌, ◌*◌, ◌≤◌, fold, length, take}
use Rattle.pgs_match.specs.Bounds.{with_bound}
use Rattle.pgs_match.specs.Routes.{with_tuple}
use Rattle.pgs_match.proofs.ways.Way.gather_ends.Given as goal

abbrev pub invariant-loop-end : goal.invariant-loop-end
invariant-loop-end g l =
    let graph = g.G.GraphRead.meaning l.self.gathering.search.graph.now in
    let exprs = l.self.gathering.exprs.now in
    record {
      so_far : l.tuples ≡ fold (λ so_far end. with_tuple graph exprs so_far (with_bound l.bindings l.var end)) l.fn.tuples (take l.end-index l.ends);
      no_step_back : l.fn.steps ≤ l.steps;
      cost : l.steps ≤ l.fn.steps + length exprs * l.end-index;
    }
