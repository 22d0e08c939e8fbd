use Rattle.std.proofs.Common.{take}
use Rattle.pgs_contain.specs.Threes.{AreInOtherTriples}
use Rattle.pgs_contain.proofs.triples.outside_of_triples.Given as goal

abbrev pub invariant-loop-triple : goal.invariant-loop-triple
invariant-loop-triple l = AreInOtherTriples (take l.triple-index l.triples) l.others
