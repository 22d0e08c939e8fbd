use Rattle.std.proofs.Common.{◌∙◌, ap, sym, arith}
use Rattle.std.specs.List.{list_all}
use Rattle.std.proofs.lemmas.Option.{slice_get_within}
use Rattle.pgs_txn.specs.Looks.{edges_of}
use Rattle.pgs_txn.specs.Rows.{is_changed}
use Rattle.pgs_txn.proofs.Edges.{one_more_passes}
use Rattle.pgs_txn.proofs.Looking.{least_unchanged, none_unchanged, all_before, all_walked}
use Rattle.pgs_txn.proofs.edges_at_node.first_unchanged.Goals as goal

pub returns-in_default-clause-least : goal.returns-in_default-clause-least
returns-in_default-clause-least g c =
    let m = g.G.GraphRead.meaning c.args.graph.now in
    let edges = edges_of c.args.direction m c.args.id in
    none_unchanged c.args.direction c.args.id m c.args.rows.now
    (ap (list_all (is_changed c.args.rows.now)) (sym (all_before edges c.loop-nth.nth (sym c.in_default.ensures.value))) ∙ c.loop-nth.invariant.changed)

pub returns-then-not-contains-clause-least : goal.returns-then-not-contains-clause-least
returns-then-not-contains-clause-least g c =
    least_unchanged c.args.direction c.args.id (g.G.GraphRead.meaning c.args.graph.now) c.args.rows.now c.count-nth-end.ensures.graph c.loop-nth.nth c.in-Some.edge
    (sym c.in-Some.ensures.value) c.loop-nth.invariant.changed c.in-Some.ensures.direction (sym c.contains.ensures ∙ c.if-not-contains.true)

pub loop-nth-preserved : goal.loop-nth-preserved
loop-nth-preserved g c =
    let edges = edges_of c.args.direction (g.G.GraphRead.meaning c.args.graph.now) c.args.id in
    let inside = slice_get_within edges c.loop-nth.nth c.in-Some.edge (sym c.in-Some.ensures.value) in
    let before = c.loop-nth.invariant.looks in
    let tick = c.edge_in.ensures.tick in
    record {
      looks = omega arith;
      within = omega arith;
      changed = one_more_passes (is_changed c.args.rows.now) edges c.loop-nth.nth c.in-Some.edge (sym c.in-Some.ensures.value) c.loop-nth.invariant.changed
          (sym c.contains.ensures ∙ c.if-not-contains.false);
    }

pub returns-clause-least : goal.returns-clause-least
returns-clause-least g c =
    let m = g.G.GraphRead.meaning c.args.graph.now in
    none_unchanged c.args.direction c.args.id m c.args.rows.now
    (ap (list_all (is_changed c.args.rows.now)) (sym (all_walked c.args.direction c.args.id m c.loop-nth.nth c.count-nth-end.result c.count-nth-end.ensures.value c.loop-nth-test.false))
    ∙ c.loop-nth.invariant.changed)
