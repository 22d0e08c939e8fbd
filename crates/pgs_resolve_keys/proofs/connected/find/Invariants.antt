use Rattle.std.proofs.Common.{◌≡◌, ℕ, ◌<◌, List, length, get_or}
use Rattle.pgs_resolve_keys.specs.Groups.{AreParents, Keep}
use Rattle.pgs_resolve_keys.proofs.connected.find.Given as goal

abbrev pub invariant-loop-parents : goal.invariant-loop-parents
invariant-loop-parents l = record {
  within : l.at < length l.parents;
  parents : AreParents l.parents;
  others : (i : ℕ) → get_or l.fn.parents i 0 ≡ i → get_or l.parents i 0 ≡ i;
  groups : (groups : List ℕ) → Keep groups l.fn.parents → Keep groups l.parents × (get_or groups l.at 0 ≡ get_or groups l.variable 0);
}

abbrev pub decreases-loop-parents : goal.decreases-loop-parents
decreases-loop-parents l = l.at
