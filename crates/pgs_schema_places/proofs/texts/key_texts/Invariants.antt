use Rattle.std.proofs.Common.{◌≡◌, ◌++◌, drop}
use Rattle.pgs_schema_places.specs.KeyTexts.{key_texts}
use Rattle.pgs_schema_places.proofs.texts.key_texts.Given as goal

abbrev pub invariant-loop-place : goal.invariant-loop-place
invariant-loop-place l = l.texts.items ++ key_texts (drop l.place l.tokens) ≡ key_texts l.tokens
