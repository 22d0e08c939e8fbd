use Rattle.std.proofs.Common.{◌≡◌, ◌≤◌, true, take}
use Rattle.std.specs.List.{list_all}
use Rattle.pgs_pattern_end.specs.End.{is_placed}
use Rattle.pgs_pattern_end.proofs.ending.place_end.Given as goal

abbrev pub invariant-loop-part : goal.invariant-loop-part
invariant-loop-part g l = record {
  met : list_all (is_placed l.compiled (g.G.GraphRead.meaning l.graph) l.elem) (take l.part l.fronts) ≡ true;
  no_step_back : l.fn.steps ≤ l.steps;
}
