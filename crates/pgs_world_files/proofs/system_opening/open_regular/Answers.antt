use Rattle.std.proofs.Common.{[], sym, ◌∙◌}
use Rattle.pgs_world_files.specs.Faults.HasFailed.{at_find}
use Rattle.pgs_world_files.proofs.Faults.{failed}
use Rattle.pgs_world_files.proofs.system_opening.open_regular.Goals as goal

pub returns-then-is_beside-clause-fault : goal.returns-then-is_beside-clause-fault
returns-then-is_beside-clause-fault g c =
    failed g.S.System.facts c.args.name.now c.args.access [] c.from.result c.from.ensures (at_find c.in-Err.ensures (λ absent. sym c.is_beside.ensures ∙ c.if-is_beside.true))

pub returns-in_default-clause-fault : goal.returns-in_default-clause-fault
returns-in_default-clause-fault g c =
    failed g.S.System.facts c.args.name.now c.args.access [] c.from-in_default.result c.from-in_default.ensures (at_find c.in-Err.ensures (λ absent. absurd (c.in_default.not-NotFound (c.kind.ensures ∙ absent))))
