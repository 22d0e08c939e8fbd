use Rattle.std.proofs.Common.{◌+◌, sym, arith}
use Rattle.pgs_key_causes.specs.declared.walk.Occurrence.{Occurrence}
use Rattle.pgs_key_causes.proofs.Places.{past}
use Rattle.pgs_key_causes.proofs.walk.var_behind.Goals as goal

pub returns-in-None : goal.returns-in-None
returns-in-None c =
    sym (past (λ (place : Occurrence). place.var) 0 c.args.places.now c.args.place (c.args.place + 1) (omega arith) (omega arith))
