use Rattle.std.proofs.Common.{◌≡◌, List, map}
use Rattle.std.specs.List.{fold}
use Rattle.pgs_syntax.specs.declared.resolved.TypeNo.{TypeNo}
use Rattle.pgs_syntax.specs.declared.resolved.TypeNo.TheVariants.{Node}
use Rattle.pgs_advice.specs.Used.{AreMarks, numbers_below, with_named, nodes_back}
use Rattle.pgs_advice.proofs.used.Marks.mark_nodes.Given as goal

abbrev pub invariant-loop-place : goal.invariant-loop-place
invariant-loop-place l = (used : List TypeNo) → AreMarks l.resolved used l.fn.self →
    (now : List TypeNo) × AreMarks l.resolved now l.self × (fold (with_named l.resolved) now (map Node (numbers_below l.place)) ≡ fold (with_named l.resolved) used (nodes_back l.resolved))
