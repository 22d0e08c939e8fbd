use Rattle.std.proofs.Common.{true, refl, sym, ap, subst, ◌∙◌}
use Rattle.pgs_run_lines.specs.Calls.{MakesReads}
use Rattle.pgs_command.proofs.OwnEnds.{fails_alone}
use Rattle.pgs_command.specs.Setting.{setting_of}
use Rattle.pgs_run_follow.specs.Following.{following}
use Rattle.pgs_run_follow.proofs.Promised.{follows_alone, promised}
use Rattle.pgs_run_follow.proofs.run.follow.Goals as goal

pub returns-clause-promise : goal.returns-clause-promise
returns-clause-promise g c = λ places.
    let ran = c.run_lines-stop.ensures in
    promised c.args.budget c.new-following.result
    (setting_of (g.S.Source.left c.args.source.now) (g.S.Source.faults c.args.source.now) (g.W.World.view c.args.world.now) places)
    (setting_of (g.S.Source.left c.run_lines-stop.new.source) (g.S.Source.faults c.run_lines-stop.new.source) (g.W.World.view c.run_lines-stop.new.world) places)
    c.run_lines-stop.result c.status_at.result c.status_at.ensures
    (record { first = c.new-following.ensures; ends = ran.ends; by = ran.by; may = ran.may; cause = ran.cause; allows = ran.allows; places = refl })

pub returns-clause-last : goal.returns-clause-last
returns-clause-last g c = λ fails.
    c.run_lines-stop.ensures.last (sym (fails_alone following follows_alone c.args.budget _ _ c.run_lines-stop.result c.status_at.result c.status_at.ensures c.run_lines-stop.ensures.by).1 ∙ fails)

pub returns-clause-calls : goal.returns-clause-calls
returns-clause-calls g c =
    subst (λ fails. MakesReads g.S.Source.read_made c.args.budget c.args.source.now fails c.run_lines-stop.new.source)
    (sym (fails_alone following follows_alone c.args.budget _ _ c.run_lines-stop.result c.status_at.result c.status_at.ensures c.run_lines-stop.ensures.by).0) c.run_lines-stop.ensures.calls
