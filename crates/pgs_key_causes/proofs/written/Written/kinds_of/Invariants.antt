use Rattle.std.proofs.Common.{◌≡◌, map, take}
use Rattle.pgs_syntax.specs.Valid.{is_edge_var}
use Rattle.pgs_key_causes.proofs.written.Written.kinds_of.Given as goal

abbrev pub invariant-loop-var : goal.invariant-loop-var
invariant-loop-var l = l.kinds.items ≡ map (is_edge_var l.self.edge_vars) (take l.var-index l.vars)
