use Rattle.std.proofs.Common.{◌≡◌, drop}
use Rattle.std.specs.Prelude.{map}
use Rattle.pgs_syntax.specs.Valid.{read_var}
use Rattle.pgs_match.specs.Routes.{on_way, off_way}
use Rattle.pgs_match.proofs.plan.split.Given as goal

abbrev pub invariant-loop-place : goal.invariant-loop-place
invariant-loop-place l = record {
  on : l.on.items ≡ on_way (map read_var l.exprs) (drop l.place l.steps);
  off : l.off.items ≡ off_way (map read_var l.exprs) (drop l.place l.steps);
}
