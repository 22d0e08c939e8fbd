use Rattle.std.proofs.Common.{[]}
use Rattle.pgs_world_files.specs.Faults.HasFailed.{at_open}
use Rattle.pgs_world_files.proofs.Faults.{failed, if_err, last_read}
use Rattle.pgs_world_files.proofs.system_opening.open_to_read.Goals as goal

pub returns-in_err-file-clause-fault : goal.returns-in_err-file-clause-fault
returns-in_err-file-clause-fault g c =
    if_err _ c.from_residual.result c.from_residual.ensures.1
    (λ made is. failed g.S.System.facts c.args.name.now c.args.access [] made is (at_open c.in_err-file.ensures (last_read c.args.access c.to_place-how.result c.to_place-how.ensures.write)))
