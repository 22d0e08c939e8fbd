use Rattle.std.proofs.Common.{◌≡◌, ◌++◌, flat_map, take}
use Rattle.pgs_differences.specs.Differences.{of_key}
use Rattle.pgs_differences.proofs.keys.push_further.Given as goal

abbrev pub invariant-loop-entry : goal.invariant-loop-entry
invariant-loop-entry l = l.found.items ≡ l.fn.found.items ++ flat_map (of_key l.more l.keys) (take l.entry-index l.props)
