use Rattle.std.proofs.Common.{◌≡◌, map, take, cond}
use Rattle.pgs_resolve_keys.specs.KeyFaults.{edge_places, node_places}
use Rattle.pgs_resolve_keys.specs.Placed.{placed}
use Rattle.pgs_resolve_keys.proofs.places.of_kind.Given as goal

abbrev pub invariant-loop-place : goal.invariant-loop-place
invariant-loop-place l =
    map placed l.kept.items ≡ cond l.is_edge (edge_places (map placed (take l.place-index l.places))) (node_places (map placed (take l.place-index l.places)))
