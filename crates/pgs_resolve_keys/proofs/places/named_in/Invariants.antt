use Rattle.std.proofs.Common.{◌≡◌, take}
use Rattle.std.specs.List.{filter_map}
use Rattle.pgs_resolve_keys.specs.declared.places.PlaceRef.{PlaceRef}
use Rattle.pgs_resolve_keys.proofs.places.named_in.Given as goal

abbrev pub invariant-loop-place : goal.invariant-loop-place
invariant-loop-place l = l.names ≡ filter_map (λ (place : PlaceRef). place.at.now.var) (take l.place-index l.places)
