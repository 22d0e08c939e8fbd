use Rattle.std.proofs.Common.{◌≡◌, ◌+◌, ◌*◌, length, ap, arith}
use Rattle.pgs_base.specs.Graph.{edge_cmp}
use Rattle.pgs_graph.proofs.Deltas.{edge_cmp_total, ascending_edges}
use Rattle.pgs_overlay.specs.declared.side.Side.TheVariants.{Out, In}
use Rattle.pgs_overlay.proofs.Before.{some_left, counted}
use Rattle.pgs_overlay.proofs.Looping.{ready_next, passed_next, few_of_one, one_more, all_of_them}
use Rattle.pgs_overlay.proofs.node_lists.NodeLists.edit_edges.Goals as goal

pub edit_edge-requires-clause-outgoing : goal.edit_edge-requires-clause-outgoing
edit_edge-requires-clause-outgoing g c =
    ready_next Out (g.B.GraphRead.meaning c.args.base.now) c.requires.graph c.args.changes.now c.loop-change.change-index c.change-item.result
    c.requires.ascending c.loop-change-test.true c.change-item.is c.loop-change.self.outgoing c.loop-change.invariant.outgoing

pub edit_edge-requires-clause-incoming : goal.edit_edge-requires-clause-incoming
edit_edge-requires-clause-incoming g c =
    ready_next In (g.B.GraphRead.meaning c.args.base.now) c.requires.graph c.args.changes.now c.loop-change.change-index c.change-item.result
    c.requires.ascending c.loop-change-test.true c.change-item.is c.loop-change.self.incoming c.loop-change.invariant.incoming

pub edit_edge-requires-clause-counted : goal.edit_edge-requires-clause-counted
edit_edge-requires-clause-counted g c had =
    let graph = g.B.GraphRead.meaning c.args.base.now in
    let left = some_left edge_cmp edge_cmp_total graph.edges c.args.changes.now c.loop-change.change-index c.change-item.result c.loop-change-test.true c.change-item.is
    (ascending_edges graph c.requires.graph) c.requires.ascending had in
    omega (arith, left, c.loop-change.invariant.count, c.requires.counted)

pub loop-change-preserved : goal.loop-change-preserved
loop-change-preserved g c = record {
  outgoing = passed_next Out (g.B.GraphRead.meaning c.args.base.now) c.requires.graph c.args.changes.now c.loop-change.change-index c.change-item.result
      c.requires.ascending c.loop-change-test.true c.change-item.is c.loop-change.self.outgoing c.loop-change.invariant.outgoing _ c.in_ok-count.ensures.outgoing;
  incoming = passed_next In (g.B.GraphRead.meaning c.args.base.now) c.requires.graph c.args.changes.now c.loop-change.change-index c.change-item.result
      c.requires.ascending c.loop-change-test.true c.change-item.is c.loop-change.self.incoming c.loop-change.invariant.incoming _ c.in_ok-count.ensures.incoming;
  count =
      let graph = g.B.GraphRead.meaning c.args.base.now in
      let more = counted edge_cmp edge_cmp_total graph.edges c.args.changes.now c.loop-change.change-index c.change-item.result c.loop-change-test.true c.change-item.is
      (ascending_edges graph c.requires.graph) c.requires.ascending in
      omega (arith, c.in_ok-count.ensures.count, more, c.loop-change.invariant.count);
  never_back = omega (arith, c.loop-change.invariant.never_back, c.edit_edge.ensures.never_back);
  cost = λ most k low few. omega (
    arith,
    c.loop-change.invariant.cost most k low few,
    one_more (8 * k + 17) c.loop-change.change-index,
    c.edit_edge.ensures.cost most k low (few_of_one (g.B.GraphRead.meaning c.args.base.now) most c.args.changes.now c.loop-change.change-index c.change-item.result
        c.loop-change-test.true c.change-item.is few),
  );
}

pub returns-in_err-count-clause-cost : goal.returns-in_err-count-clause-cost
returns-in_err-count-clause-cost g c most k low few =
    omega (
      arith,
      c.loop-change.invariant.cost most k low few,
      all_of_them (8 * k + 17) c.loop-change.change-index (length c.args.changes.now) c.loop-change-test.true,
      c.edit_edge.ensures.cost most k low (few_of_one (g.B.GraphRead.meaning c.args.base.now) most c.args.changes.now c.loop-change.change-index c.change-item.result
          c.loop-change-test.true c.change-item.is few),
    )

pub returns-clause-cost : goal.returns-clause-cost
returns-clause-cost g c most k low few =
    let all : c.loop-change.change-index ≡ length c.args.changes.now = omega (arith, c.loop-change-test.false, c.loop-change.auto.change-index-end) in
    omega (arith, c.loop-change.invariant.cost most k low few, ap (λ n. (8 * k + 17) * n) all)
