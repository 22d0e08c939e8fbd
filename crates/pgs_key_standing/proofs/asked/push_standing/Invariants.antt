use Rattle.std.proofs.Common.{◌≡◌, true, ◌&&◌, ◌+◌, List, length}
use Rattle.std.specs.List.{list_all}
use Rattle.pgs_base.specs.declared.row.NodeRow.{NodeRow}
use Rattle.pgs_key_standing.specs.Demands.{are_small, meets}
use Rattle.pgs_key_standing.specs.Placed.{stand_from}
use Rattle.pgs_key_standing.proofs.asked.push_standing.Given as goal

abbrev pub invariant-loop-left : goal.invariant-loop-left
invariant-loop-left l = record {
  count : l.place + length l.left ≡ length l.kinds;
  asked : (ps : List NodeRow) → are_small ps ≡ true →
      (list_all (meets ps) l.demands.items && stand_from l.schema l.all ps l.place l.left) ≡ (list_all (meets ps) l.fn.demands.items && stand_from l.schema l.all ps 0 l.kinds);
}

abbrev pub decreases-loop-left : goal.decreases-loop-left
decreases-loop-left l = length l.left
