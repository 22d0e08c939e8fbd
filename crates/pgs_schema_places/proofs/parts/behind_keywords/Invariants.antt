use Rattle.std.proofs.Common.{◌≡◌, map, drop}
use Rattle.pgs_lexer.specs.Tokens.{lexeme_of}
use Rattle.pgs_schema_places.specs.KeyParts.{behind_last, behind_keywords}
use Rattle.pgs_schema_places.proofs.parts.behind_keywords.Given as goal

abbrev pub invariant-loop-place : goal.invariant-loop-place
invariant-loop-place l =
    behind_last (drop l.count (map lexeme_of l.tokens)) (drop l.place (map lexeme_of l.tokens)) ≡ behind_keywords (map lexeme_of l.tokens)
