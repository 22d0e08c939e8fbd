use Rattle.std.proofs.Common.{arith}
use Rattle.pgs_overlay.specs.declared.side.Side.TheVariants.{Out, In}
use Rattle.pgs_overlay.proofs.Looping.{holds_on_ok, all_follow, few_before, few_after}
use Rattle.pgs_overlay.proofs.node_lists.NodeLists.edit_edge.Goals as goal

pub returns-in_err-edit_side-clause-cost : goal.returns-in_err-edit_side-clause-cost
returns-in_err-edit_side-clause-cost g c most k low few =
    let graph = g.B.GraphRead.meaning c.args.base.now in
    omega (
      arith,
      c.old_ends-old.ensures.tick,
      c.edit_side.ensures.cost most k low
          (few_before Out graph most c.args.change.now few _ c.old_ends-old.ensures.source) (few_after Out graph most c.args.change.now few _ c.new_ends-new.ensures.source),
    )

pub returns-in_err-edit_side-2-clause-cost : goal.returns-in_err-edit_side-2-clause-cost
returns-in_err-edit_side-2-clause-cost g c most k low few =
    let graph = g.B.GraphRead.meaning c.args.base.now in
    omega (
      arith,
      c.old_ends-old.ensures.tick,
      c.edit_side.ensures.cost most k low
          (few_before Out graph most c.args.change.now few _ c.old_ends-old.ensures.source) (few_after Out graph most c.args.change.now few _ c.new_ends-new.ensures.source),
      c.edit_side-2.ensures.cost most k low
          (few_before In graph most c.args.change.now few _ c.old_ends-old.ensures.target) (few_after In graph most c.args.change.now few _ c.new_ends-new.ensures.target),
    )

pub returns-clause-cost : goal.returns-clause-cost
returns-clause-cost g c most k low few =
    let graph = g.B.GraphRead.meaning c.args.base.now in
    omega (
      arith,
      c.old_ends-old.ensures.tick,
      c.edit_side.ensures.cost most k low
          (few_before Out graph most c.args.change.now few _ c.old_ends-old.ensures.source) (few_after Out graph most c.args.change.now few _ c.new_ends-new.ensures.source),
      c.edit_side-2.ensures.cost most k low
          (few_before In graph most c.args.change.now few _ c.old_ends-old.ensures.target) (few_after In graph most c.args.change.now few _ c.new_ends-new.ensures.target),
    )

pub returns-clause-outgoing : goal.returns-clause-outgoing
returns-clause-outgoing g c =
    holds_on_ok c.count_changed.result (all_follow Out (g.B.GraphRead.meaning c.args.base.now) c.args.change.now _ _ c.args.self.now.outgoing _
    c.old_ends-old.ensures.source c.new_ends-new.ensures.source c.in_ok-edit_side.ensures.edited)

pub returns-clause-incoming : goal.returns-clause-incoming
returns-clause-incoming g c =
    holds_on_ok c.count_changed.result (all_follow In (g.B.GraphRead.meaning c.args.base.now) c.args.change.now _ _ c.args.self.now.incoming _
    c.old_ends-old.ensures.target c.new_ends-new.ensures.target c.in_ok-edit_side-2.ensures.edited)
