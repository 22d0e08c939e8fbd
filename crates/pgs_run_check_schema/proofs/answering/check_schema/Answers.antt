use Rattle.std.proofs.Common.{[], subst, sym, ap, ◌∙◌}
use Rattle.pgs_run_lines.specs.Machine.{Told}
use Rattle.pgs_command.specs.declared.status.Status.{Status}
use Rattle.pgs_run_input.proofs.Answering.{answer_ok}
use Rattle.pgs_run_check_schema.specs.Spec.{Tells}
use Rattle.pgs_run_check_schema.specs.Told.{Chosen, IsRightOf, told_by, told_lines}
use Rattle.pgs_run_check_schema.proofs.Telling.{text_none}
use Rattle.pgs_run_check_schema.proofs.answering.check_schema.Goals as goal

pub returns-in-Ok-clause-answer : goal.returns-in-Ok-clause-answer
returns-in-Ok-clause-answer g c =
    let text = c.args.text.now in
    let has = c.in-Ok.ensures in
    let is = answer_ok text c.args.compiled.now c.requires in
    let chosen : Chosen = record { judged = has.judged; cause = [] } in
    record {
      chosen = chosen;
      right = subst (λ answer. IsRightOf text answer chosen c.put_lines.result) (sym is) (λ lines. has.right);
      tells =
          subst (λ (told : Told Status). Tells told (g.W.World.view c.args.world.now) (g.W.World.view c.put_lines.new.world) c.put_lines.result)
          (ap told_lines (c.deref.ensures.value ∙ has.is) ∙ sym (ap (told_by text chosen) is)) c.put_lines.ensures.answer;
    }

pub returns-in-Err-clause-answer : goal.returns-in-Err-clause-answer
returns-in-Err-clause-answer g c = text_none c.args.text.now (g.W.World.view c.args.world.now) (g.met.W.World.timed c.args.world.now)
