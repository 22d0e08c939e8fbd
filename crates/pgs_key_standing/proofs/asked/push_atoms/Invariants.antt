use Rattle.std.proofs.Common.{◌≡◌, true, ◌&&◌, List, length}
use Rattle.std.specs.List.{list_all}
use Rattle.pgs_base.specs.declared.row.NodeRow.{NodeRow}
use Rattle.pgs_syntax.specs.Valid.{names_types}
use Rattle.pgs_key_standing.specs.Demands.{are_small, meets}
use Rattle.pgs_key_standing.specs.Kinds.{asks_kind}
use Rattle.pgs_key_standing.proofs.asked.push_atoms.Given as goal

abbrev pub invariant-loop-left : goal.invariant-loop-left
invariant-loop-left l = record {
  types : list_all (names_types l.schema) l.left ≡ true;
  asked : (ps : List NodeRow) → are_small ps ≡ true →
      (list_all (meets ps) l.demands.items && list_all (asks_kind l.schema l.all ps) l.left) ≡ (list_all (meets ps) l.fn.demands.items && list_all (asks_kind l.schema l.all ps) l.all);
}

abbrev pub decreases-loop-left : goal.decreases-loop-left
decreases-loop-left l = length l.left
