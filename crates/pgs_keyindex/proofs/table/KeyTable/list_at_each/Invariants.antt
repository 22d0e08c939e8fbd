use Rattle.std.proofs.Common.{◌≡◌, true, take}
use Rattle.std.specs.List.{list_all}
use Rattle.pgs_keyindex.specs.Table.{Grows, is_listed}
use Rattle.pgs_keyindex.proofs.table.KeyTable.list_at_each.Given as goal

abbrev pub invariant-loop-tuple : goal.invariant-loop-tuple
invariant-loop-tuple l = record {
  grows : Grows l.fn.self l.self;
  there : list_all (λ tuple. is_listed l.self l.key tuple l.elem) (take l.tuple-index l.tuples) ≡ true;
}
