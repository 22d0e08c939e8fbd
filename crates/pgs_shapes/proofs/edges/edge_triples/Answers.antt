use Rattle.std.proofs.Common.{◌+◌, length, take, ◌∷◌, [], sym, ◌∙◌, ap, subst, length-append}
use Rattle.pgs_syntax.specs.Valid.{is_valid_spec}
use Rattle.pgs_syntax.specs.Width.{edge_widths}
use Rattle.pgs_conform.specs.Counts.{AreWithin}
use Rattle.pgs_conform.specs.Standing.{EachDenotesTriples}
use Rattle.pgs_shapes.proofs.Counted.{edge_within}
use Rattle.pgs_shapes.proofs.Types.{edge_more}
use Rattle.pgs_shapes.proofs.edges.edge_triples.Goals as goal

pub loop-edge-preserved : goal.loop-edge-preserved
loop-edge-preserved c =
    let old = c.loop-edge.lists.items in
    let triples = c.in_ok-triples.triples in
    let longer = ap length c.in_ok-push.ensures.items ∙ length-append old (triples ∷ []) in
    let count = c.loop-edge.invariant.count in
    record {
      count = longer ∙ ap (λ n. n + 1) count;
      denote = λ valid node_count node_each.
          edge_more c.args.resolved.now valid c.args.nodes.now c.as_slice-edges.result.now c.loop-edge.edge-index c.edge-item.result old _ triples
          node_count node_each c.as_slice-edges.ensures c.loop-edge-test.true c.edge-item.is count
          (c.loop-edge.invariant.denote valid node_count node_each)
          (λ source middle target schema each test own. c.in_ok-triples.ensures.denote source
          (ap (λ lists. is_valid_spec (length lists) c.edge-item.result.middle) c.deref.ensures.value ∙ middle) target schema each test
          (subst (λ lists. EachDenotesTriples lists test) (sym c.deref.ensures.value) own)) c.in_ok-push.ensures.items;
      within = λ widths all.
          let edges = c.as_slice-edges.result.now in
          let known = edge_widths widths [] (take c.loop-edge.edge-index edges) in
          let before = c.loop-edge.invariant.within widths all in
          edge_within widths edges c.loop-edge.edge-index c.edge-item.result old _ triples c.loop-edge-test.true c.edge-item.is before
          (c.in_ok-triples.ensures.within widths known all (subst (AreWithin known) (sym c.deref.ensures.value) before)) c.in_ok-push.ensures.items;
    }
