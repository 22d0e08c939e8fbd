use Rattle.std.proofs.Common.{◌≡◌, ◌++◌, map, drop}
use Rattle.pgs_lexer.specs.Tokens.{lexeme_of}
use Rattle.pgs_schema_places.specs.KeyTexts.{text_of}
use Rattle.pgs_schema_places.specs.KeyParts.{place_tokens}
use Rattle.pgs_schema_places.proofs.parts.place_texts.Given as goal

abbrev pub invariant-loop-place : goal.invariant-loop-place
invariant-loop-place l =
    l.texts.items ++ map text_of (place_tokens (drop l.place (map lexeme_of l.tokens))) ≡ map text_of (place_tokens (map lexeme_of l.tokens))
