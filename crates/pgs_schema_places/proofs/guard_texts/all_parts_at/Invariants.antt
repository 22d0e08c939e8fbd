use Rattle.std.proofs.Common.{◌≡◌, map, take}
use Rattle.pgs_schema_places.specs.KeyParts.{parts_at}
use Rattle.pgs_schema_places.proofs.guard_texts.all_parts_at.Given as goal

abbrev pub invariant-loop-place : goal.invariant-loop-place
invariant-loop-place l = l.found.items ≡ map (parts_at l.places l.parts) (take l.place-index l.wanted)
