use Rattle.std.proofs.Common.{◌≡◌, ◌++◌, map, drop}
use Rattle.pgs_schema_places.specs.KeyTexts.{key_tokens}
use Rattle.pgs_schema_places.specs.KeyParts.{part_texts}
use Rattle.pgs_schema_places.proofs.parts.key_part_texts.Given as goal

abbrev pub invariant-loop-place : goal.invariant-loop-place
invariant-loop-place l = l.parts.items ++ map part_texts (key_tokens (drop l.place l.tokens)) ≡ map part_texts (key_tokens l.tokens)
