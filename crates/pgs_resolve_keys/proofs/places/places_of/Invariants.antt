use Rattle.std.proofs.Common.{◌≡◌, map, take}
use Rattle.pgs_resolve_keys.specs.Patterns.{places_of}
use Rattle.pgs_resolve_keys.specs.Placed.{placed}
use Rattle.pgs_resolve_keys.proofs.places.places_of.Given as goal

abbrev pub invariant-loop-path : goal.invariant-loop-path
invariant-loop-path l = map placed l.places.items ≡ places_of (take l.path-index l.paths)
