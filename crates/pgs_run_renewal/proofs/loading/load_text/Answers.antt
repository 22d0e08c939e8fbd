use Rattle.std.proofs.Common.{subst, ◌∙◌}
use Rattle.pgs_run_input.proofs.Standard.{standard_is}
use Rattle.pgs_run_input.proofs.OneLine.{silent_none}
use Rattle.pgs_world.proofs.Moments.{quiet_none}
use Rattle.pgs_run_renewal.specs.LoadLeaving.{LoadsText}
use Rattle.pgs_run_renewal.proofs.Loads.{loads_none}
use Rattle.pgs_run_renewal.proofs.loading.load_text.Goals as goal

pub save-requires-clause-limits : goal.save-requires-clause-limits
save-requires-clause-limits g c = c.in-Ok.ensures.limits ∙ standard_is c.standard.result c.standard.ensures.ops c.standard.ensures.elements

pub returns-in-Ok-line_of-clause-answer : goal.returns-in-Ok-line_of-clause-answer
returns-in-Ok-line_of-clause-answer g c =
    subst (λ text. LoadsText text (g.W.World.view c.args.world.now) (g.W.World.view c.save.new.world) c.save.result) c.in-Ok.ensures.text c.save.ensures.answer

pub returns-in-Err-line_of-clause-answer : goal.returns-in-Err-line_of-clause-answer
returns-in-Err-line_of-clause-answer g c =
    let old = g.W.World.view c.args.world.now in
    let timed = g.met.W.World.timed c.args.world.now in
    loads_none c.args.text.now old old timed (quiet_none old timed) (silent_none old)
