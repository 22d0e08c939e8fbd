use Rattle.std.proofs.Common.{◌≡◌, ◌++◌, true, List, length}
use Rattle.std.specs.List.{list_all}
use Rattle.pgs_syntax.specs.Valid.{is_valid_key_of}
use Rattle.pgs_advice.specs.declared.subtypes.Subtype.{Subtype}
use Rattle.pgs_advice.specs.Apart.{AreApartOf}
use Rattle.pgs_advice.proofs.apart.keys_apart.Given as goal

abbrev pub invariant-loop-left : goal.invariant-loop-left
invariant-loop-left l = record {
  valid : list_all (is_valid_key_of l.schema) l.left ≡ true;
  apart : (rest : List (List Subtype)) → AreApartOf l.schema l.left rest → AreApartOf l.schema l.schema.guard.keys (l.all.items ++ rest);
}

abbrev pub decreases-loop-left : goal.decreases-loop-left
decreases-loop-left l = length l.left
