use Rattle.std.proofs.Common.{◌≡◌, ◌++◌, true, List, length}
use Rattle.std.specs.List.{list_all}
use Rattle.pgs_syntax.specs.Valid.{is_valid_key_of}
use Rattle.pgs_key_standing.specs.declared.reached.Reach.{Reach}
use Rattle.pgs_key_standing.specs.Reach.{AreReached}
use Rattle.pgs_key_standing.proofs.reach.keys_reach.Given as goal

abbrev pub invariant-loop-left : goal.invariant-loop-left
invariant-loop-left l = record {
  valid : list_all (is_valid_key_of l.schema) l.left ≡ true;
  reached : (rest : List Reach) → AreReached l.schema l.left rest → AreReached l.schema l.schema.guard.keys (l.all.items ++ rest);
}

abbrev pub decreases-loop-left : goal.decreases-loop-left
decreases-loop-left l = length l.left
