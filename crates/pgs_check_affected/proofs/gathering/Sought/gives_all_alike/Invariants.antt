use Rattle.std.proofs.Common.{◌≡◌, true, take}
use Rattle.std.specs.List.{list_all}
use Rattle.pgs_match.specs.Planned.{pattern_of}
use Rattle.pgs_check_affected.specs.Unseen.{gives_alike}
use Rattle.pgs_check_affected.proofs.gathering.Sought.gives_all_alike.Given as goal

abbrev pub invariant-loop-expr : goal.invariant-loop-expr
invariant-loop-expr l = list_all (gives_alike l.self.compiled.now (pattern_of l.self.side l.self.key.now) l.known) (take l.expr-index l.exprs) ≡ true
