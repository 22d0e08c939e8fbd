use Rattle.std.proofs.Common.{List, ◌++◌, ap, ◌∙◌}
use Rattle.pgs_syntax.specs.declared.resolved.Resolved.{Resolved}
use Rattle.pgs_advice_lines.specs.declared.line.Line.{Line}
use Rattle.pgs_advice_lines.specs.Telling.{guard_lines}
use Rattle.pgs_run_check_schema.proofs.Judging.{gathered}
use Rattle.pgs_run_check_schema.proofs.answering.lines_in.Goals as goal

pub returns : goal.returns
returns c =
    gathered c.args.text.now c.args.compiled.now c.in_ok-tokens.tokens c.in_ok-script.script c.resolved-resolved.result.now c.push_guard.new.lines.items c.push_types.new.lines.items c.push_advice.new.lines.items
    c.as_slice.result.now c.in_ok-reached.reached.items c.in_ok-apart.apart.items c.in_ok-tokens.ensures c.in_ok-script.ensures c.resolved-resolved.ensures.same (c.as_slice.ensures ∙ ap (λ (r : Resolved). r.guard.types) c.resolved-resolved.ensures.same)
    c.in_ok-reached.ensures c.in_ok-apart.ensures
    (c.in_ok-push_guard.ensures c.in_ok-script.script c.in_ok-declarations.ensures ∙ ap (λ (lines : List Line). lines ++ guard_lines c.in_ok-script.script c.resolved-resolved.result.now.guard) c.new-lines.ensures.items)
    c.in_ok-push_types.ensures c.in_ok-push_advice.ensures
