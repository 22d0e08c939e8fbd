use Rattle.std.proofs.Common.{◌≡◌, map, take}
use Rattle.std.specs.List.{flat_map}
use Rattle.pgs_schema_places.specs.KeyTexts.{place_of}
use Rattle.pgs_schema_places.proofs.guard_texts.places_of.Given as goal

abbrev pub invariant-loop-graph : goal.invariant-loop-graph
invariant-loop-graph l = l.places.items ≡ map place_of (flat_map (λ graph. graph.now.keys) (take l.graph-index l.graphs))
