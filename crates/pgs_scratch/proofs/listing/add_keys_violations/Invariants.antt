use Rattle.std.proofs.Common.{◌≡◌, ◌++◌, ◌+◌, ◌≤◌, drop}
use Rattle.pgs_violation.specs.Violations.{keys_violations}
use Rattle.pgs_scratch.proofs.listing.add_keys_violations.Given as goal

abbrev pub invariant-loop-place : goal.invariant-loop-place
invariant-loop-place g l = record {
  so_far : l.found.items ++ keys_violations l.compiled (g.G.GraphRead.meaning l.graph) (l.place + 1) (drop l.place l.keys)
      ≡ l.fn.found.items ++ keys_violations l.compiled (g.G.GraphRead.meaning l.graph) 1 l.keys;
  no_step_back : l.fn.steps ≤ l.steps;
}
