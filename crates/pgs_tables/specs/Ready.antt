-- The delta that tables are ready for, of which they keep what contracts see.
use Rattle.std.specs.Prelude.{Option}
use Rattle.std.specs.Option.{option_map}
use Rattle.std.specs.declared.snapshot.Snapshot.{Snapshot}
use Rattle.pgs_graph.specs.declared.delta.Delta.{Delta}

abbrev pub ready_for : Option (Snapshot Delta) → Option Delta
ready_for ready = option_map (λ (snapshot : Snapshot Delta). snapshot.value) ready
