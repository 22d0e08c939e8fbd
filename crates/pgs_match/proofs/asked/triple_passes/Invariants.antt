use Rattle.std.proofs.Common.{◌≡◌, true, take, Some}
use Rattle.std.specs.List.{list_all}
use Rattle.pgs_conform.specs.Shapes.{triple_of}
use Rattle.pgs_match.specs.Tests.{triple_meets}
use Rattle.pgs_match.proofs.asked.triple_passes.Given as goal

abbrev pub invariant-loop-atom : goal.invariant-loop-atom
invariant-loop-atom l = list_all (triple_meets l.compiled l.var (Some (triple_of l.source l.middle l.target))) (take l.atom-index l.atoms) ≡ true
