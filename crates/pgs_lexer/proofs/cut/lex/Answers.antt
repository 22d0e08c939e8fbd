use Rattle.std.proofs.Common.{◌≡◌, subst}
use Rattle.pgs_lexer.specs.declared.fault.LexFault.TheVariants.{Lex}
use Rattle.pgs_lexer.specs.Cut.{Refuses, tokens_of}
use Rattle.pgs_lexer.proofs.OneCut.{tokens_are_cut, line_is_cut}
use Rattle.pgs_lexer.proofs.cut.lex.Goals as goal

pub returns-in-Ok-clause-tokens : goal.returns-in-Ok-clause-tokens
returns-in-Ok-clause-tokens c = tokens_are_cut c.args.text.now _ c.in-Ok.ensures

pub returns-in-Err-clause-bad_byte : goal.returns-in-Err-clause-bad_byte
returns-in-Err-clause-bad_byte c = λ line is.
    let same : c.in-Err.fault ≡ Lex line = cc in
    line_is_cut c.args.text.now line (subst (λ f. Refuses f (tokens_of c.args.text.now)) same c.in-Err.ensures)
