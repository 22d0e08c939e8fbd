use Rattle.std.proofs.Common.{◌≡◌, ◌++◌, map, take}
use Rattle.pgs_schema_places.specs.KeyTexts.{place_of}
use Rattle.pgs_schema_places.proofs.guard_texts.push_places.Given as goal

abbrev pub invariant-loop-key : goal.invariant-loop-key
invariant-loop-key l = l.places.items ≡ l.fn.places.items ++ map place_of (take l.key-index l.keys)
