use Rattle.std.proofs.Common.{◌≡◌, ◌++◌, take}
use Rattle.pgs_run_contain.specs.Names.{names_of}
use Rattle.pgs_run_contain.proofs.names.push_names_of.Given as goal

abbrev pub invariant-loop-place : goal.invariant-loop-place
invariant-loop-place l = l.names.items ≡ l.fn.names.items ++ names_of (take l.place l.tokens)
