use Rattle.std.proofs.Common.{◌≡◌, false, take}
use Rattle.pgs_keyindex.specs.Table.{has_elem}
use Rattle.pgs_keyindex.proofs.holders.has_elem.Given as goal

abbrev pub invariant-loop-other : goal.invariant-loop-other
invariant-loop-other l = has_elem l.elem (take l.other-index l.elems) ≡ false
