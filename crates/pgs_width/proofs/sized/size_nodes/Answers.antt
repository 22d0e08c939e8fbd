use Rattle.std.proofs.Common.{[], ◌∷◌, ◌++◌, take, ◌∙◌, ap}
use Rattle.pgs_syntax.specs.Width.{node_widths}
use Rattle.pgs_width.specs.declared.sized.SizedType.{SizedType}
use Rattle.pgs_width.proofs.Sizes.{node_widths_more, sized_nodes_more}
use Rattle.pgs_width.proofs.sized.size_nodes.Goals as goal

pub loop-node-preserved : goal.loop-node-preserved
loop-node-preserved c =
    let types = c.args.types.now in
    let i = c.loop-node.node-index in
    let type = c.node-item.result in
    let width = c.width_of-width.result in
    let known = c.loop-node.invariant.widths in
    let own = c.width_of-width.ensures (node_widths [] (take i types)) (c.deref.ensures.value ∙ known) in
    record {
      widths = node_widths_more types i type width _ _ c.loop-node-test.true c.node-item.is known own c.in_ok-push.ensures.items;
      sized = sized_nodes_more types i type width c.args.sized.now.items c.loop-node.sized.items _ c.loop-node-test.true c.node-item.is c.loop-node.invariant.sized own
          (c.in_ok-push-2.ensures.items
          ∙ ap (λ name. let entry : SizedType = record { name = name; place = type.place; width = width } in c.loop-node.sized.items ++ entry ∷ []) c.in_ok-name.ensures);
    }
