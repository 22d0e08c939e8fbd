use Rattle.std.proofs.Common.{◌≡◌, ◌++◌, take}
use Rattle.pgs_contain.specs.Known.{labels_in_triples}
use Rattle.pgs_contain.proofs.further.push_labels_of_triples.Given as goal

abbrev pub invariant-loop-triple : goal.invariant-loop-triple
invariant-loop-triple l = l.all.items ≡ l.fn.all.items ++ labels_in_triples (take l.triple-index l.triples)
