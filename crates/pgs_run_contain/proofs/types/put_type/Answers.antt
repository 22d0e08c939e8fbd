use Rattle.std.proofs.Common.{◌∙◌, sym, ap, option_map}
use Rattle.pgs_syntax.specs.declared.resolved.Resolved.{Resolved}
use Rattle.pgs_run_contain.specs.Answers.{listed_name}
use Rattle.pgs_run_contain.proofs.Answered.{skipped}
use Rattle.pgs_run_contain.proofs.types.put_type.Goals as goal

pub returns-in-None-clause-answer : goal.returns-in-None-clause-answer
returns-in-None-clause-answer g c =
    skipped c.args.first.now c.args.containing.now.second c.args.containing.now.avoid c.args.number (g.W.World.view c.args.world.now) (g.met.W.World.timed c.args.world.now)
    (sym (c.listed_name.ensures.name ∙ ap (λ (r : Resolved). listed_name r c.args.number) c.resolved.ensures.same) ∙ ap (option_map _) c.in-None.is)
