use Rattle.std.proofs.Common.{◌≡◌, ◌+◌, map, drop}
use Rattle.std.specs.List.{position_or_len}
use Rattle.pgs_lexer.specs.Tokens.{lexeme_of}
use Rattle.pgs_schema_places.specs.KeyParts.{is_mark}
use Rattle.pgs_schema_places.proofs.parts.count_to.Given as goal

abbrev pub invariant-loop-place : goal.invariant-loop-place
invariant-loop-place l =
    position_or_len (is_mark l.mark) (map lexeme_of l.tokens) ≡ l.place + position_or_len (is_mark l.mark) (drop l.place (map lexeme_of l.tokens))
