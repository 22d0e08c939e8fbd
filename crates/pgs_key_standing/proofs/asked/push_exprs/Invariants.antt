use Rattle.std.proofs.Common.{◌≡◌, true, ◌&&◌, List, length}
use Rattle.std.specs.List.{list_all}
use Rattle.pgs_base.specs.declared.row.NodeRow.{NodeRow}
use Rattle.pgs_key_standing.specs.Demands.{are_small, meets}
use Rattle.pgs_key_standing.specs.Placed.{asks_present}
use Rattle.pgs_key_standing.proofs.asked.push_exprs.Given as goal

abbrev pub invariant-loop-left : goal.invariant-loop-left
invariant-loop-left l =
    (ps : List NodeRow) → are_small ps ≡ true →
    (list_all (meets ps) l.demands.items && list_all (asks_present ps) l.left) ≡ (list_all (meets ps) l.fn.demands.items && list_all (asks_present ps) l.exprs)

abbrev pub decreases-loop-left : goal.decreases-loop-left
decreases-loop-left l = length l.left
