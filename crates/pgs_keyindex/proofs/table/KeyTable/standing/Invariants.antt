use Rattle.std.proofs.Common.{◌≡◌, take}
use Rattle.std.specs.List.{filter}
use Rattle.pgs_keyindex.specs.Table.{stands}
use Rattle.pgs_keyindex.proofs.table.KeyTable.standing.Given as goal

abbrev pub invariant-loop-elem : goal.invariant-loop-elem
invariant-loop-elem l = l.standing.items ≡ filter (stands l.self l.digest) (take l.elem-index l.elems)
