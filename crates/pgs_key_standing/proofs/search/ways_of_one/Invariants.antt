use Rattle.std.proofs.Common.{◌≡◌, true, ◌&&◌, List, take}
use Rattle.std.specs.List.{list_any}
use Rattle.pgs_base.specs.declared.row.NodeRow.{NodeRow}
use Rattle.pgs_key_standing.specs.Demands.{are_small, are_in, is_in, in_some_way}
use Rattle.pgs_key_standing.proofs.search.ways_of_one.Given as goal

abbrev pub invariant-loop-shape : goal.invariant-loop-shape
invariant-loop-shape l = (ps : List NodeRow) → are_small ps ≡ true → in_some_way l.ways.items ps ≡ (are_in l.places ps && list_any (is_in ps l.place) (take l.shape-index l.shapes))
