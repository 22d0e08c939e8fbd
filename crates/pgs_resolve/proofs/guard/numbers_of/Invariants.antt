use Rattle.std.proofs.Common.{◌≡◌, take}
use Rattle.std.specs.List.{filter_map}
use Rattle.pgs_resolve.specs.Guard.{type_no}
use Rattle.pgs_resolve.proofs.guard.numbers_of.Given as goal

abbrev pub invariant-loop-name : goal.invariant-loop-name
invariant-loop-name l = l.types.items ≡ filter_map (type_no l.numbering) (take l.name-index l.names)
