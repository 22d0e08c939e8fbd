use Rattle.std.proofs.Common.{◌≡◌, true, ◌&&◌, List, take}
use Rattle.std.specs.List.{list_any}
use Rattle.pgs_base.specs.declared.row.NodeRow.{NodeRow}
use Rattle.pgs_key_standing.specs.Demands.{are_small, are_in, are_in_three, in_some_way}
use Rattle.pgs_key_standing.proofs.search.ways_of_three.Given as goal

abbrev pub invariant-loop-shapes : goal.invariant-loop-shapes
invariant-loop-shapes l =
    (ps : List NodeRow) → are_small ps ≡ true → in_some_way l.ways.items ps ≡ (are_in l.places ps && list_any (are_in_three ps l.at.0 l.at.1 l.at.2) (take l.shapes-index l.triples))
