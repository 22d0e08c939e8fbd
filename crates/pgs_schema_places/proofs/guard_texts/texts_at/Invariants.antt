use Rattle.std.proofs.Common.{◌≡◌, map, take}
use Rattle.pgs_schema_places.specs.KeyTexts.{text_at}
use Rattle.pgs_schema_places.proofs.guard_texts.texts_at.Given as goal

abbrev pub invariant-loop-place : goal.invariant-loop-place
invariant-loop-place l = l.found.items ≡ map (text_at l.places l.texts) (take l.place-index l.wanted)
