use Rattle.std.proofs.Common.{◌≡◌, ◌++◌, map, take}
use Rattle.pgs_product.specs.Merged.{of_first}
use Rattle.pgs_product.proofs.keys.push_first.Given as goal

abbrev pub invariant-loop-key : goal.invariant-loop-key
invariant-loop-key l = l.keys.items ≡ l.fn.keys.items ++ map (of_first l.second_free) (take l.key-index l.first)
