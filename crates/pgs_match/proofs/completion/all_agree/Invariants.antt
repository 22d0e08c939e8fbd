use Rattle.std.proofs.Common.{◌≡◌, true, take}
use Rattle.std.specs.List.{list_all}
use Rattle.pgs_match.specs.Tests.{agrees}
use Rattle.pgs_match.proofs.completion.all_agree.Given as goal

abbrev pub invariant-loop-atom : goal.invariant-loop-atom
invariant-loop-atom l = list_all (agrees l.bindings) (take l.atom-index l.atoms) ≡ true
