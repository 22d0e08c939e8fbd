use Rattle.std.proofs.Common.{◌∙◌, ap, sym, arith}
use Rattle.std.specs.List.{list_all}
use Rattle.std.proofs.lemmas.Option.{slice_get_within}
use Rattle.pgs_txn.specs.Looks.{edges_of}
use Rattle.pgs_txn.specs.Rows.{is_changed}
use Rattle.pgs_txn.proofs.Edges.{all_weaker, one_more_passes}
use Rattle.pgs_txn.proofs.Looking.{all_changed, all_before, all_walked, direction_end}
use Rattle.pgs_txn.proofs.Removed.{only_then}
use Rattle.pgs_txn.proofs.working.Working.drop_direction.Goals as goal

pub returns-in_default-clause-changed : goal.returns-in_default-clause-changed
returns-in_default-clause-changed g c =
    let m = g.G.GraphRead.meaning c.args.graph.now in
    all_changed c.args.direction c.args.id m c.loop-nth.self.rows
    (ap (list_all (is_changed c.loop-nth.self.rows)) (sym (all_before (edges_of c.args.direction m c.args.id) c.loop-nth.nth (sym c.in_default.ensures.value)))
    ∙ c.loop-nth.invariant.changed)

pub loop-nth-preserved : goal.loop-nth-preserved
loop-nth-preserved g c =
    let m = g.G.GraphRead.meaning c.args.graph.now in
    let edges = edges_of c.args.direction m c.args.id in
    let edge = c.in-Some.edge in
    let at = sym c.in-Some.ensures.value in
    let inside = slice_get_within edges c.loop-nth.nth edge at in
    let before = c.loop-nth.invariant in
    let looks = before.looks in
    let tick = c.edge_in.ensures.tick in
    let step = c.in_ok-drop_unchanged.ensures.only m c.args.id before.only.stands (direction_end c.args.direction c.args.id m edge c.in-Some.ensures.direction) in
    let next = c.drop_unchanged.new.self in
    record {
      looks = omega arith;
      within = omega arith;
      only = only_then m c.args.id c.args.self.now c.loop-nth.self next before.only step;
      changed = one_more_passes (is_changed next.rows) edges c.loop-nth.nth edge at
          (all_weaker (is_changed c.loop-nth.self.rows) (is_changed next.rows) step.stay_changed _ before.changed) c.in_ok-drop_unchanged.ensures.changed;
    }

pub returns-clause-changed : goal.returns-clause-changed
returns-clause-changed g c =
    let m = g.G.GraphRead.meaning c.args.graph.now in
    all_changed c.args.direction c.args.id m c.loop-nth.self.rows
    (ap (list_all (is_changed c.loop-nth.self.rows))
    (sym (all_walked c.args.direction c.args.id m c.loop-nth.nth c.count-nth-end.result c.count-nth-end.ensures.value c.loop-nth-test.false))
    ∙ c.loop-nth.invariant.changed)
