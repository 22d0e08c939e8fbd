use Rattle.std.proofs.Common.{◌≡◌, false, take}
use Rattle.std.specs.List.{list_any}
use Rattle.pgs_keyindex.specs.Rows.{has_value}
use Rattle.pgs_keyindex.proofs.table.KeyTable.owner.Given as goal

abbrev pub invariant-loop-elem : goal.invariant-loop-elem
invariant-loop-elem l = list_any (λ elem. has_value l.self.rows.rows l.key elem l.tuple) (take l.elem-index l.elems) ≡ false
