use Rattle.std.proofs.Common.{◌≡◌, ℕ, List, ◌++◌, flat_map, take}
use Rattle.pgs_base.specs.Pair.{value_at}
use Rattle.pgs_conform.specs.declared.options.Options.{Options}
use Rattle.pgs_differences.specs.Differences.{of_present}
use Rattle.pgs_differences.proofs.keys.push_other_kinds.Given as goal

abbrev pub invariant-loop-key : goal.invariant-loop-key
invariant-loop-key l = l.found.items
    ≡ l.fn.found.items ++ flat_map (λ (key : List ℕ × Options). of_present key (value_at key.0 l.props)) (take l.key-index l.keys)
