use Rattle.std.proofs.Common.{◌≡◌, ◌++◌, map, take}
use Rattle.std.specs.List.{filter_map}
use Rattle.pgs_advice.specs.Used.{type_in}
use Rattle.pgs_advice.proofs.used.push_named.Given as goal

abbrev pub invariant-loop-part : goal.invariant-loop-part
invariant-loop-part l = l.types.items ≡ l.fn.types.items ++ filter_map (type_in l.is_edge) (map (λ part. part.now) (take l.part-index l.parts))
