use Rattle.std.proofs.Common.{◌≡◌, ◌++◌, ◌+◌, ◌≤◌, drop}
use Rattle.pgs_violation.specs.Violations.{keys_violations}
use Rattle.pgs_scratch.specs.Judged.{keys_rows}
use Rattle.pgs_scratch.proofs.judging.add_keys.Given as goal

abbrev pub invariant-loop-place : goal.invariant-loop-place
invariant-loop-place g l =
    let graph = g.G.GraphRead.meaning l.graph in
    record {
      so_far : l.found.items ++ keys_violations l.compiled graph (l.place + 1) (drop l.place l.keys) ≡ l.fn.found.items ++ keys_violations l.compiled graph 1 l.keys;
      rows_so_far : l.rows.items ++ keys_rows l.compiled graph (l.place + 1) (drop l.place l.keys) ≡ l.fn.rows.items ++ keys_rows l.compiled graph 1 l.keys;
      no_step_back : l.fn.steps ≤ l.steps;
    }
