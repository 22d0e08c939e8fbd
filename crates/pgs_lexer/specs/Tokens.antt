-- A token as the callers of `Tokens` have it.
use Rattle.pgs_lexer.specs.declared.token.Token.{Token}
use Rattle.pgs_lexer.specs.Token.{Lexeme}

abbrev pub lexeme_of : Token → Lexeme
lexeme_of token = record { kind = token.kind; start = token.start; end = token.end; bytes = token.slice.now }
