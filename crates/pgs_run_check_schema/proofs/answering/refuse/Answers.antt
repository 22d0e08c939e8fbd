use Rattle.std.proofs.Common.{ℕ, List, ◌∷◌, subst, sym, ap, ◌∙◌}
use Rattle.pgs_run_lines.specs.Machine.{Told}
use Rattle.pgs_resolve.specs.SchemaOf.{schema_of}
use Rattle.pgs_command.specs.declared.status.Status.{Status}
use Rattle.pgs_run_input.proofs.Answering.{answer_is}
use Rattle.pgs_run_check_schema.specs.Judged.{no_judgement}
use Rattle.pgs_run_check_schema.specs.Spec.{Tells}
use Rattle.pgs_run_check_schema.specs.Told.{Chosen, IsRightOf, told_by, told_refusal}
use Rattle.pgs_run_check_schema.proofs.Telling.{text_none}
use Rattle.pgs_run_check_schema.proofs.answering.refuse.Goals as goal

pub returns-in-Ok-clause-answer : goal.returns-in-Ok-clause-answer
returns-in-Ok-clause-answer g c =
    let text = c.args.text.now in
    let has = c.in-Ok.ensures (schema_of text) c.requires in
    let chosen : Chosen = record { judged = no_judgement; cause = has.cause } in
    let is = answer_is text ∙ has.refused.refused in
    record {
      chosen = chosen;
      right = subst (λ answer. IsRightOf text answer chosen c.put_refusal.result) (sym is) has.right;
      tells =
          subst (λ (told : Told Status). Tells told (g.W.World.view c.args.world.now) (g.W.World.view c.put_refusal.new.world) c.put_refusal.result)
          (ap told_refusal (c.deref.ensures.value ∙ has.is ∙ ap (λ (line : List ℕ). line ∷ has.cause) has.refused.is) ∙ sym (ap (told_by text chosen) is)) c.put_refusal.ensures.answer;
    }

pub returns-in-Err-clause-answer : goal.returns-in-Err-clause-answer
returns-in-Err-clause-answer g c = text_none c.args.text.now (g.W.World.view c.args.world.now) (g.met.W.World.timed c.args.world.now)
