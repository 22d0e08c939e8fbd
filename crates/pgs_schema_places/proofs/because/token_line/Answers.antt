use Rattle.std.proofs.Common.{sym}
use Rattle.pgs_lexer.specs.Tokens.{lexeme_of}
use Rattle.pgs_schema_places.proofs.Placed.{end_placed, token_placed}
use Rattle.pgs_schema_places.proofs.because.token_line.Goals as goal

pub returns-in_ok-line-in-Some : goal.returns-in_ok-line-in-Some
returns-in_ok-line-in-Some c =
    token_placed c.args.text.now c.args.tokens.now c.args.place (lexeme_of c.in-Some.token) c.args.others.now c.in_ok-line-in-Some.line c.requires.tokens (sym c.in-Some.ensures.token) c.requires.others
    c.in_ok-line-in-Some.ensures

pub returns-in_ok-line-in-None : goal.returns-in_ok-line-in-None
returns-in_ok-line-in-None c = end_placed c.args.text.now c.args.others.now c.in_ok-line-in-None.line c.requires.others c.in_ok-line-in-None.ensures
