use Rattle.std.proofs.Common.{◌+◌, length, take, ◌∷◌, [], sym, ◌∙◌, ap, subst, length-append}
use Rattle.pgs_syntax.specs.Valid.{is_valid_spec}
use Rattle.pgs_syntax.specs.Width.{node_widths}
use Rattle.pgs_conform.specs.Counts.{AreWithin}
use Rattle.pgs_conform.specs.Standing.{EachDenotes}
use Rattle.pgs_shapes.proofs.Counted.{node_within}
use Rattle.pgs_shapes.proofs.Types.{node_more}
use Rattle.pgs_shapes.proofs.nodes.node_shapes.Goals as goal

pub loop-node-preserved : goal.loop-node-preserved
loop-node-preserved c =
    let old = c.loop-node.lists.items in
    let shapes = c.in_ok-shapes.shapes in
    let longer = ap length c.in_ok-push.ensures.items ∙ length-append old (shapes ∷ []) in
    let count = c.loop-node.invariant.count in
    record {
      count = longer ∙ ap (λ n. n + 1) count;
      denote = λ valid.
          node_more c.args.resolved.now valid c.as_slice-nodes.result.now c.loop-node.node-index c.node-item.result old _ shapes c.as_slice-nodes.ensures
          c.loop-node-test.true c.node-item.is count (c.loop-node.invariant.denote valid)
          (λ own test each. c.in_ok-shapes.ensures.denote (ap (λ lists. is_valid_spec (length lists) c.node-item.result.spec) c.deref.ensures.value ∙ own) test
          (subst (λ lists. EachDenotes lists test) (sym c.deref.ensures.value) each)) c.in_ok-push.ensures.items;
      within =
          let nodes = c.as_slice-nodes.result.now in
          let known = node_widths [] (take c.loop-node.node-index nodes) in
          node_within nodes c.loop-node.node-index c.node-item.result old _ shapes c.loop-node-test.true c.node-item.is c.loop-node.invariant.within
          (c.in_ok-shapes.ensures.within known (subst (AreWithin known) (sym c.deref.ensures.value) c.loop-node.invariant.within)) c.in_ok-push.ensures.items;
    }
