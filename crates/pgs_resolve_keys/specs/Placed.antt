-- A place that is lent, as the place that it is.
use Rattle.pgs_resolve_keys.specs.declared.places.PlaceRef.{PlaceRef}
use Rattle.pgs_resolve_keys.specs.Patterns.{Place}

abbrev pub placed : PlaceRef → Place
placed place = record { is_edge = place.is_edge; at = place.at.now }
