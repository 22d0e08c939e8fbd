use Rattle.std.proofs.Common.{◌≡◌, [], take}
use Rattle.std.specs.List.{filter_map}
use Rattle.pgs_resolve_declared.specs.Refused.{seconds_after}
use Rattle.pgs_resolve_declared.specs.Refused.{element_in, graph_in}
use Rattle.pgs_resolve_declared.proofs.duplicates.first_second.Given as goal

abbrev pub invariant-loop-mark : goal.invariant-loop-mark
invariant-loop-mark l = record {
  none : seconds_after [] (take l.mark-index l.marks) ≡ [];
  elements : l.elements ≡ filter_map element_in (take l.mark-index l.marks);
  graphs : l.graphs ≡ filter_map graph_in (take l.mark-index l.marks);
}
