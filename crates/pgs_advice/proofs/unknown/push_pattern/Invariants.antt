use Rattle.std.proofs.Common.{◌≡◌, take}
use Rattle.std.specs.List.{filter_map, fold}
use Rattle.pgs_advice.specs.Unknown.{unknown_in, with_word}
use Rattle.pgs_advice.proofs.unknown.push_pattern.Given as goal

abbrev pub invariant-loop-atom : goal.invariant-loop-atom
invariant-loop-atom l =
    l.found.items ≡ fold with_word l.fn.found.items (filter_map (unknown_in l.words l.edge_vars) (take l.atom-index l.atom-items))
