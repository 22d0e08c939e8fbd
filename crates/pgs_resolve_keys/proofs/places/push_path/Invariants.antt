use Rattle.std.proofs.Common.{◌≡◌, ◌++◌, ◌∷◌, false, map, take}
use Rattle.std.specs.List.{flat_map}
use Rattle.pgs_resolve_keys.specs.Patterns.{places_of_step}
use Rattle.pgs_resolve_keys.specs.Placed.{placed}
use Rattle.pgs_resolve_keys.proofs.places.push_path.Given as goal

abbrev pub invariant-loop-step : goal.invariant-loop-step
invariant-loop-step l =
    map placed l.places.items ≡ map placed l.fn.places.items ++ record { is_edge = false; at = l.path.start } ∷ flat_map places_of_step (take l.step-index l.step-items)
