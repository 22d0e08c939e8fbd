use Rattle.std.proofs.Common.{Bool, refl, sym, subst, ◌∙◌}
use Rattle.pgs_run_lines.specs.Calls.{MakesReads}
use Rattle.pgs_command.specs.Setting.{setting_of}
use Rattle.pgs_command.proofs.OwnEnds.{fails_alone}
use Rattle.pgs_run_try.specs.Trying.{trying}
use Rattle.pgs_run_try.proofs.Promised.{alone, promised}
use Rattle.pgs_run_try.proofs.run.run_judging.Goals as goal

pub returns-clause-promise : goal.returns-clause-promise
returns-clause-promise g c = λ places.
    let old = setting_of (g.S.Source.left c.args.source.now) (g.S.Source.faults c.args.source.now) (g.W.World.view c.args.world.now) places in
    let new = setting_of (g.S.Source.left c.run_lines-stop.new.source) (g.S.Source.faults c.run_lines-stop.new.source) (g.W.World.view c.run_lines-stop.new.world) places in
    promised c.args.judging c.args.budget old new c.new-teller.result.phase c.run_lines-stop.result c.status_at.result
    c.new-teller.ensures c.status_at.ensures c.run_lines-stop.ensures.ends c.run_lines-stop.ensures.by c.run_lines-stop.ensures.may c.run_lines-stop.ensures.cause c.run_lines-stop.ensures.allows.allowed refl

pub returns-clause-last : goal.returns-clause-last
returns-clause-last g c = λ fails.
    c.run_lines-stop.ensures.last (sym (fails_alone trying alone c.args.budget _ _ c.run_lines-stop.result c.status_at.result c.status_at.ensures c.run_lines-stop.ensures.by).1 ∙ fails)

pub returns-clause-calls : goal.returns-clause-calls
returns-clause-calls g c =
    subst (λ (fails : Bool). MakesReads g.S.Source.read_made c.args.budget c.args.source.now fails c.run_lines-stop.new.source)
    (sym (fails_alone trying alone c.args.budget _ _ c.run_lines-stop.result c.status_at.result c.status_at.ensures c.run_lines-stop.ensures.by).0) c.run_lines-stop.ensures.calls
