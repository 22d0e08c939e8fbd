use Rattle.std.proofs.Common.{◌≡◌, map, take}
use Rattle.pgs_keyindex.specs.declared.change.KeyChange.{KeyChange}
use Rattle.pgs_check.proofs.checking.elems_of.Given as goal

abbrev pub invariant-loop-row : goal.invariant-loop-row
invariant-loop-row l = l.elems.items ≡ map (λ (row : KeyChange). row.elem) (take l.row-index l.rows)
