use Rattle.std.proofs.Common.{◌≡◌, map}
use Rattle.std.specs.List.{slice_range}
use Rattle.pgs_lexer.specs.Tokens.{lexeme_of}
use Rattle.pgs_schema_places.proofs.parts.tokens_between.Given as goal

abbrev pub invariant-loop-place : goal.invariant-loop-place
invariant-loop-place l = map lexeme_of l.between.items ≡ slice_range l.tokens l.start l.place
