use Rattle.std.proofs.Common.{◌≡◌, ◌++◌, flat_map, take}
use Rattle.pgs_differences.specs.Differences.{of_asked_label}
use Rattle.pgs_differences.proofs.labels.push_missing.Given as goal

abbrev pub invariant-loop-label : goal.invariant-loop-label
invariant-loop-label l = l.found.items ≡ l.fn.found.items ++ flat_map (of_asked_label l.labels) (take l.label-index l.asked)
