use Rattle.std.proofs.Common.{◌≡◌, take}
use Rattle.std.specs.Prelude.{filter_map}
use Rattle.pgs_match.specs.Planned.{first_elem}
use Rattle.pgs_match.proofs.calls.first_elems.Given as goal

abbrev pub invariant-loop-tuple : goal.invariant-loop-tuple
invariant-loop-tuple l = l.firsts.items ≡ filter_map first_elem (take l.tuple-index l.tuples)
