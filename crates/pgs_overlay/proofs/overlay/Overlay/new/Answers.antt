use Rattle.std.proofs.Common.{◌+◌, ◌*◌, length, ap, arith}
use Rattle.pgs_graph.proofs.Deltas.{ascending_changed_nodes, ascending_changed_edges}
use Rattle.pgs_overlay.proofs.Costs.{cost_bound, rows_bound, few_touched}
use Rattle.pgs_overlay.proofs.Halving.{below_power}
use Rattle.pgs_overlay.proofs.overlay.Overlay.new.Goals as goal

pub count_nodes-requires-clause-ascending : goal.count_nodes-requires-clause-ascending
count_nodes-requires-clause-ascending g c =
    rw c.as_slice.ensures (ascending_changed_nodes (g.B.GraphRead.meaning c.args.base.now) c.args.delta.now c.requires)

pub edited-requires-clause-ascending : goal.edited-requires-clause-ascending
edited-requires-clause-ascending g c =
    rw c.as_slice-2.ensures (ascending_changed_edges (g.B.GraphRead.meaning c.args.base.now) c.args.delta.now c.requires)

pub returns-in_err-nodes_counted-clause-logarithmic : goal.returns-in_err-nodes_counted-clause-logarithmic
returns-in_err-nodes_counted-clause-logarithmic g c most k low within =
    omega (
      arith,
      rows_bound k (length c.args.delta.now.nodes) (length c.args.delta.now.edges),
      ap (λ l. length l) c.as_slice.ensures,
      c.count_nodes.ensures.cost,
    )

pub returns-in_err-nodes_counted-clause-cost : goal.returns-in_err-nodes_counted-clause-cost
returns-in_err-nodes_counted-clause-cost g c most within =
    omega (
      arith,
      cost_bound most (length c.args.delta.now.nodes) (length c.args.delta.now.edges),
      ap (λ l. length l) c.as_slice.ensures,
      c.count_nodes.ensures.cost,
    )

pub returns-in_err-lists-clause-logarithmic : goal.returns-in_err-lists-clause-logarithmic
returns-in_err-lists-clause-logarithmic g c most k low within =
    let graph = g.B.GraphRead.meaning c.args.base.now in
    omega (
      arith,
      rows_bound k (length c.args.delta.now.nodes) (length c.args.delta.now.edges),
      ap (λ l. length l) c.as_slice.ensures,
      ap (λ l. (8 * k + 17) * length l) c.as_slice-2.ensures,
      c.count_nodes.ensures.cost,
      c.edited.ensures.cost most k low (few_touched graph c.args.delta.now most within c.as_slice-2.result.now c.as_slice-2.ensures),
    )

pub returns-in_err-lists-clause-cost : goal.returns-in_err-lists-clause-cost
returns-in_err-lists-clause-cost g c most within =
    let graph = g.B.GraphRead.meaning c.args.base.now in
    omega (
      arith,
      cost_bound most (length c.args.delta.now.nodes) (length c.args.delta.now.edges),
      ap (λ l. length l) c.as_slice.ensures,
      ap (λ l. (8 * most + 17) * length l) c.as_slice-2.ensures,
      c.count_nodes.ensures.cost,
      c.edited.ensures.cost most most (below_power most) (few_touched graph c.args.delta.now most within c.as_slice-2.result.now c.as_slice-2.ensures),
    )

pub returns-clause-logarithmic : goal.returns-clause-logarithmic
returns-clause-logarithmic g c most k low within =
    let graph = g.B.GraphRead.meaning c.args.base.now in
    omega (
      arith,
      rows_bound k (length c.args.delta.now.nodes) (length c.args.delta.now.edges),
      ap (λ l. length l) c.as_slice.ensures,
      ap (λ l. (8 * k + 17) * length l) c.as_slice-2.ensures,
      c.count_nodes.ensures.cost,
      c.edited.ensures.cost most k low (few_touched graph c.args.delta.now most within c.as_slice-2.result.now c.as_slice-2.ensures),
    )

pub returns-clause-cost : goal.returns-clause-cost
returns-clause-cost g c most within =
    let graph = g.B.GraphRead.meaning c.args.base.now in
    omega (
      arith,
      cost_bound most (length c.args.delta.now.nodes) (length c.args.delta.now.edges),
      ap (λ l. length l) c.as_slice.ensures,
      ap (λ l. (8 * most + 17) * length l) c.as_slice-2.ensures,
      c.count_nodes.ensures.cost,
      c.edited.ensures.cost most most (below_power most) (few_touched graph c.args.delta.now most within c.as_slice-2.result.now c.as_slice-2.ensures),
    )
