use Rattle.std.proofs.Common.{◌≡◌, map, take}
use Rattle.pgs_standing.specs.Common.{common_key}
use Rattle.pgs_standing.proofs.in_common.common_keys.Given as goal

abbrev pub invariant-loop-name : goal.invariant-loop-name
invariant-loop-name l = l.keys.items ≡ map (common_key l.first l.second) (take l.name-index l.names)
