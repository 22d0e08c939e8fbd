use Rattle.std.proofs.Common.{◌≡◌, take}
use Rattle.pgs_match.specs.Spread.{elems_at, not_at}
use Rattle.pgs_match.proofs.spreading.parted.Given as goal

abbrev pub invariant-loop-stand : goal.invariant-loop-stand
invariant-loop-stand l = record {
  here : l.here.items ≡ elems_at l.var (take l.stand-index l.stands);
  others : l.others.items ≡ not_at l.var (take l.stand-index l.stands);
}
