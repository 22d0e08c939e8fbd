use Rattle.std.proofs.Common.{◌≡◌, false, take}
use Rattle.std.specs.List.{list_any}
use Rattle.pgs_match.specs.Asks.{asks_edge_type}
use Rattle.pgs_match.proofs.asked.asks_some_edge_type.Given as goal

abbrev pub invariant-loop-atom : goal.invariant-loop-atom
invariant-loop-atom l = list_any (asks_edge_type l.var) (take l.atom-index l.atoms) ≡ false
