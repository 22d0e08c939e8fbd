use Rattle.std.proofs.Common.{[], ◌∷◌, ◌++◌, take, ◌∙◌, ap}
use Rattle.pgs_syntax.specs.Width.{edge_widths}
use Rattle.pgs_width.specs.declared.sized.SizedType.{SizedType}
use Rattle.pgs_width.proofs.Sizes.{edge_widths_more, sized_edges_more}
use Rattle.pgs_width.proofs.sized.size_edges.Goals as goal

pub loop-edge-preserved : goal.loop-edge-preserved
loop-edge-preserved c =
    let types = c.args.types.now in
    let i = c.loop-edge.edge-index in
    let type = c.edge-item.result in
    let width = c.edge_width-width.result in
    record {
      widths = λ exact nodes.
          let known = c.loop-edge.invariant.widths exact nodes in
          let own = c.edge_width-width.ensures exact (edge_widths exact [] (take i types)) nodes (c.deref.ensures.value ∙ known) in
          edge_widths_more exact types i type width _ _ c.loop-edge-test.true c.edge-item.is known own c.in_ok-push.ensures.items;
      sized = λ exact nodes.
          let own = c.edge_width-width.ensures exact (edge_widths exact [] (take i types)) nodes (c.deref.ensures.value ∙ c.loop-edge.invariant.widths exact nodes) in
          sized_edges_more exact types i type width c.args.sized.now.items c.loop-edge.sized.items _ c.loop-edge-test.true c.edge-item.is (c.loop-edge.invariant.sized exact nodes) own
          (c.in_ok-push-2.ensures.items
          ∙ ap (λ name. let entry : SizedType = record { name = name; place = type.place; width = width } in c.loop-edge.sized.items ++ entry ∷ []) c.in_ok-name.ensures);
    }
