use Rattle.std.proofs.Common.{◌≡◌, ◌++◌, take}
use Rattle.pgs_product.proofs.labels.push_names.Given as goal

abbrev pub invariant-loop-name : goal.invariant-loop-name
invariant-loop-name l = l.united.items ≡ l.fn.united.items ++ take l.name-index l.names
