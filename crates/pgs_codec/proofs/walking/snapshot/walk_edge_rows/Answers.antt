use Rattle.std.proofs.Common.{sym, ◌∙◌, refl}
use Rattle.std.proofs.lemmas.Result.{err_from_is_err_and}
use Rattle.pgs_base.specs.Graph.{edge_cmp}
use Rattle.pgs_base.specs.Order.{ascends}
use Rattle.pgs_codec.specs.Reading.{tested_at, many_at}
use Rattle.pgs_codec.specs.Unread.{end_of}
use Rattle.pgs_codec.specs.Walking.{edge_id_in}
use Rattle.pgs_codec.proofs.Walks.{ascent_start, ascent_on, ascent_unread, ascent_falls, ascent_done, edges_total}
use Rattle.pgs_codec.proofs.walking.snapshot.walk_edge_rows.Goals as goal

pub loop-init : goal.loop-init
loop-init c = ascent_start edge_cmp (edge_id_in c.args.nodes.now) edges_total c.args.count 0 c.args.reader.now.rest.now refl

pub returns-in_err-id : goal.returns-in_err-id
returns-in_err-id c =
    let p = err_from_is_err_and c.from_residual.result c.from_residual.ensures.1 in
    rw p.1 (ascent_unread edge_cmp (edge_id_in c.args.nodes.now) c.loop.before c.args.count c.loop.counter c.loop.reader.rest.now
    (end_of (tested_at (ascends edge_cmp) (many_at (edge_id_in c.args.nodes.now) c.args.count) c.args.reader.now.rest.now))
    c.loop-test.true c.in_err-id.ensures c.loop.invariant)

pub returns-then-not-is_after : goal.returns-then-not-is_after
returns-then-not-is_after c =
    ascent_falls edge_cmp (edge_id_in c.args.nodes.now) c.loop.before c.args.count c.loop.counter c.loop.reader.rest.now
    (end_of (tested_at (ascends edge_cmp) (many_at (edge_id_in c.args.nodes.now) c.args.count) c.args.reader.now.rest.now))
    c.in_ok-id.id c.walk_edge.new.reader.rest.now c.loop-test.true c.in_ok-id.ensures (sym c.is_after.ensures ∙ c.if-not-is_after.true) c.loop.invariant

pub loop-preserved : goal.loop-preserved
loop-preserved c =
    ascent_on edge_cmp (edge_id_in c.args.nodes.now) c.loop.before c.args.count c.loop.counter c.loop.reader.rest.now
    (end_of (tested_at (ascends edge_cmp) (many_at (edge_id_in c.args.nodes.now) c.args.count) c.args.reader.now.rest.now))
    c.in_ok-id.id c.walk_edge.new.reader.rest.now c.loop-test.true c.in_ok-id.ensures (sym c.is_after.ensures ∙ c.if-not-is_after.false) c.loop.invariant

pub returns : goal.returns
returns c =
    ascent_done edge_cmp (edge_id_in c.args.nodes.now) c.loop.before c.args.count c.loop.counter c.loop.reader.rest.now
    (end_of (tested_at (ascends edge_cmp) (many_at (edge_id_in c.args.nodes.now) c.args.count) c.args.reader.now.rest.now))
    c.loop-test.false c.loop.invariant
