use Rattle.std.proofs.Common.{◌≡◌, ℕ, List, length, take}
use Rattle.pgs_syntax.specs.Valid.{groups_after}
use Rattle.pgs_resolve_keys.specs.Groups.{AreParents, Keep}
use Rattle.pgs_resolve_keys.proofs.connected.unite_all.Given as goal

abbrev pub invariant-loop-atom : goal.invariant-loop-atom
invariant-loop-atom l = record {
  count : length l.parents ≡ length l.fn.parents;
  parents : AreParents l.parents;
  groups : (groups : List ℕ) → Keep groups l.fn.parents → Keep (groups_after groups (take l.atom-index l.atoms)) l.parents;
}
