use Rattle.std.proofs.Common.{◌≡◌, ◌++◌, map, drop}
use Rattle.pgs_lexer.specs.Tokens.{lexeme_of}
use Rattle.pgs_schema_places.specs.KeyTexts.{text_of}
use Rattle.pgs_schema_places.specs.KeyParts.{behind_commas, between_commas}
use Rattle.pgs_schema_places.proofs.parts.texts_between_commas.Given as goal

abbrev pub invariant-loop-place : goal.invariant-loop-place
invariant-loop-place l =
    l.texts.items ++ map text_of (behind_commas (drop l.place (map lexeme_of l.tokens))) ≡ map text_of (between_commas (map lexeme_of l.tokens))
