use Rattle.std.proofs.Common.{◌∙◌, sym, ap, option_map}
use Rattle.pgs_syntax.specs.declared.resolved.Resolved.{Resolved}
use Rattle.pgs_run_contain.specs.Answers.{listed_name}
use Rattle.pgs_run_check_schema.proofs.Typed.{has_skipped}
use Rattle.pgs_run_check_schema.proofs.types.push_type.Goals as goal

pub returns-in-None : goal.returns-in-None
returns-in-None c =
    has_skipped c.args.schema.now c.args.number c.args.lines.now.items
    (sym (c.listed_name.ensures.name ∙ ap (λ (r : Resolved). listed_name r c.args.number) c.resolved.ensures.same) ∙ ap (option_map _) c.in-None.is)
