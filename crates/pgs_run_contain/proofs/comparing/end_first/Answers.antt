use Rattle.std.proofs.Common.{subst}
use Rattle.pgs_run_lines.specs.Pieces.{shown_of}
use Rattle.pgs_run_contain.specs.Judging.{IsJudged}
use Rattle.pgs_run_contain.specs.Names.{Names}
use Rattle.pgs_run_contain.specs.declared.judging.Judged.{Judged}
use Rattle.pgs_run_contain.specs.declared.judging.Judged.TheVariants.{Schema}
use Rattle.pgs_run_contain.proofs.SchemaEnds.{first_ends}
use Rattle.pgs_run_contain.proofs.comparing.end_first.Goals as goal

pub returns-in-Ok-Schema-clause-ends : goal.returns-in-Ok-Schema-clause-ends
returns-in-Ok-Schema-clause-ends g c =
    let text = c.args.part.text in
    let judged =
    subst (λ (names : Names). IsJudged names text (Schema c.in-Ok-Schema.schema c.in-Ok-Schema.names)) c.new.ensures (subst (λ (j : Judged). IsJudged c.new.result text j) c.in-Ok-Schema.field-0-is c.in-Ok-Schema.ensures) in
    first_ends text c.in-Ok-Schema.schema c.in-Ok-Schema.names c.new-in-Ok-Schema.result c.end_second.result (shown_of (g.W.World.view c.args.world.now)) (shown_of (g.W.World.view c.end_second.new.world))
    judged.0 judged.1 c.new-in-Ok-Schema.ensures c.end_second.ensures.ends
