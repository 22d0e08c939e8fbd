use Rattle.std.proofs.Common.{[], ◌∷◌, ◌++◌, ap, ◌∙◌}
use Rattle.pgs_advice_lines.specs.declared.line.Line.{Line}
use Rattle.pgs_run_check_schema.proofs.Typed.{has_one}
use Rattle.pgs_run_check_schema.proofs.types.push_example.Goals as goal

pub returns : goal.returns
returns c =
    has_one c.args.schema.now c.args.number c.args.name.now c.in_ok-answer.answer c.args.lines.now.items _ c.requires.named c.in_ok-answer.ensures
    (c.in_ok-push.ensures.items ∙ ap (λ (line : Line). c.args.lines.now.items ++ line ∷ []) c.in_ok-line.ensures)
