use Rattle.std.proofs.Common.{◌≡◌, ◌++◌, take}
use Rattle.pgs_contain.specs.Known.{labels_in}
use Rattle.pgs_contain.proofs.further.push_labels.Given as goal

abbrev pub invariant-loop-shape : goal.invariant-loop-shape
invariant-loop-shape l = l.all.items ≡ l.fn.all.items ++ labels_in (take l.shape-index l.shapes)
