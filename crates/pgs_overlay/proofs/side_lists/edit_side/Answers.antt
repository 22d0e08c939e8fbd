use Rattle.std.proofs.Common.{arith}
use Rattle.pgs_overlay.specs.Passed.{is_here}
use Rattle.pgs_overlay.specs.Sides.{edges_at}
use Rattle.pgs_overlay.proofs.Passing.{follows_none, follows_both, there_at, absent_at}
use Rattle.pgs_overlay.proofs.side_lists.edit_side.Goals as goal

pub returns-then-are_same-clause-edited : goal.returns-then-are_same-clause-edited
returns-then-are_same-clause-edited g c id =
    rw (c.are_same.ensures.same c.if-are_same.true) (follows_none (edges_at c.args.side id (g.B.GraphRead.meaning c.args.base.now).edges) c.args.edge (is_here id c.args.ends.1) _)

pub edit_at-requires-clause-fits : goal.edit_at-requires-clause-fits
edit_at-requires-clause-fits g c =
    there_at c.args.side (g.B.GraphRead.meaning c.args.base.now) c.requires.graph c.args.edge c.args.ends.0 c.requires.old_end

pub edit_at-requires-2-clause-fits : goal.edit_at-requires-2-clause-fits
edit_at-requires-2-clause-fits g c =
    absent_at c.args.side (g.B.GraphRead.meaning c.args.base.now) c.requires.graph c.args.edge c.args.ends.0 c.args.ends.1 c.requires.old_end
    (c.are_same.ensures.apart c.if-are_same.false)

pub returns-clause-edited : goal.returns-clause-edited
returns-clause-edited g c id =
    follows_both (edges_at c.args.side id (g.B.GraphRead.meaning c.args.base.now).edges) c.args.edge (is_here id c.args.ends.0) (is_here id c.args.ends.1)
    (c.are_same.ensures.apart c.if-are_same.false id) _ _ _ (c.in_ok-edit_at.ensures.edited id) (c.in_ok-edit_at-2.ensures.edited id)

pub returns-in_err-edit_at-clause-cost : goal.returns-in_err-edit_at-clause-cost
returns-in_err-edit_at-clause-cost g c most k low old new = omega (arith, c.edit_at.ensures.cost most k low old)

pub returns-in_err-edit_at-2-clause-cost : goal.returns-in_err-edit_at-2-clause-cost
returns-in_err-edit_at-2-clause-cost g c most k low old new = omega (arith, c.edit_at.ensures.cost most k low old, c.edit_at-2.ensures.cost most k low new)

pub returns-clause-cost : goal.returns-clause-cost
returns-clause-cost g c most k low old new = omega (arith, c.edit_at.ensures.cost most k low old, c.edit_at-2.ensures.cost most k low new)
