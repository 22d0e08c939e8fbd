use Rattle.std.proofs.Common.{◌≡◌, ℕ, ◌+◌, ◌*◌, ◌^◌, ◌≤◌, ◌++◌}
use Rattle.pgs_match.specs.Planned.{most_edges, pattern_of}
use Rattle.pgs_check_affected.specs.Found.{found_from}
use Rattle.pgs_check_affected.specs.Touched.{IsSparseInBoth}
use Rattle.pgs_check_affected.proofs.gathering.Sought.add_searched.Given as goal

abbrev pub invariant-loop-var : goal.invariant-loop-var
invariant-loop-var g l =
    let before = g.G.GraphRead.meaning l.before in
    let after = g.H.GraphRead.meaning l.after in
    let key = l.self.key.now in
    record {
      so_far : l.elems.items ≡ l.fn.elems.items ++ found_from l.self.compiled.now before after l.known.elem (pattern_of l.self.side key) l.var;
      no_step_back : l.fn.steps ≤ l.steps;
      cost : (most : ℕ) → IsSparseInBoth before after (most_edges key) l.known.elem most → l.steps ≤ l.fn.steps + l.var * (32 * (most + 2) ^ (most_edges key + 1));
    }
