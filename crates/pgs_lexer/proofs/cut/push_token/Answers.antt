use Rattle.std.proofs.Common.{sym, ap, ◌∙◌}
use Rattle.pgs_lexer.specs.Cut.{lexemes}
use Rattle.pgs_lexer.proofs.Steps.{pushed_token}
use Rattle.pgs_lexer.proofs.cut.push_token.Goals as goal

pub returns-in-Ok : goal.returns-in-Ok
returns-in-Ok c = ap (lexemes c.args.text.now) c.in-Ok.ensures.items ∙ pushed_token c.args.text.now c.args.place c.args.item c.in-Some.kind c.args.spans.now.items (sym c.token_kind.ensures ∙ c.in-Some.is)
