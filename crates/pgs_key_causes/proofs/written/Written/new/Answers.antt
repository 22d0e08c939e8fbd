use Rattle.std.proofs.Common.{map, ap, ◌∙◌}
use Rattle.pgs_resolve_keys.specs.KeyFaults.{within_of}
use Rattle.pgs_resolve_keys.specs.Patterns.{places_of}
use Rattle.pgs_resolve_keys.specs.Placed.{placed}
use Rattle.pgs_key_causes.specs.Fronts.{directions_of}
use Rattle.pgs_key_causes.proofs.Places.{descriptor_made}
use Rattle.pgs_key_causes.proofs.written.Written.new.Goals as goal

pub returns : goal.returns
returns c numbering same =
    let paths = within_of c.args.key.now in
    let places_are = c.in_ok-places.ensures ∙ ap places_of c.within_of-paths.ensures in
    descriptor_made numbering c.args.key.now c.args.x.now c.args.resolved.now (map placed c.in_ok-places.places.items) c.in_ok-occurrences.occurrences.items
    c.in_ok-directions.directions.items c.in_ok-edge_vars.edge_vars c.requires same places_are
    (c.in_ok-occurrences.ensures paths (ap (map placed) c.deref.ensures.value ∙ places_are))
    (c.in_ok-directions.ensures ∙ ap directions_of c.within_of-paths.ensures)
    (c.in_ok-edge_vars.ensures ∙ c.as_slice.ensures)
