use Rattle.std.proofs.Common.{◌≡◌, false, take}
use Rattle.pgs_keyindex.specs.Table.{has_digest}
use Rattle.pgs_keyindex.proofs.table.KeyTable.has_digest.Given as goal

abbrev pub invariant-loop-tuple : goal.invariant-loop-tuple
invariant-loop-tuple l = has_digest l.self.seed l.digest (take l.tuple-index l.tuples) ≡ false
