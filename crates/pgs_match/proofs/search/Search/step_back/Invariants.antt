use Rattle.std.proofs.Common.{◌≡◌, ◌+◌, ◌≤◌, ◌++◌, flat_map, take}
use Rattle.std.specs.List.{sum_by}
use Rattle.pgs_match.specs.Plans.{bound_by}
use Rattle.pgs_match.specs.Spread.{not_at, back_most, back}
use Rattle.pgs_match.proofs.search.Search.step_back.Given as goal

abbrev pub invariant-loop-elem : goal.invariant-loop-elem
invariant-loop-elem g l =
    let graph = g.G.GraphRead.meaning l.self.graph.now in
    record {
      so_far : l.others.items ≡ not_at (bound_by l.step) l.stands ++ flat_map (back l.self.compiled.now graph l.self.atoms.now l.step) (take l.elem-index l.elems);
      no_step_back : l.fn.steps ≤ l.steps;
      cost : l.steps ≤ l.fn.steps + sum_by (back_most graph l.step) (take l.elem-index l.elems);
    }
