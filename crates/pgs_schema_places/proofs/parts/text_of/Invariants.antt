use Rattle.std.proofs.Common.{◌≡◌, ◌++◌, map, drop}
use Rattle.pgs_lexer.specs.Tokens.{lexeme_of}
use Rattle.pgs_schema_places.specs.KeyTexts.{spaced, text_of}
use Rattle.pgs_schema_places.proofs.parts.text_of.Given as goal

abbrev pub invariant-loop-token : goal.invariant-loop-token
invariant-loop-token l = l.text ++ spaced l.end (drop l.token-index (map lexeme_of l.tokens)) ≡ text_of (map lexeme_of l.tokens)
