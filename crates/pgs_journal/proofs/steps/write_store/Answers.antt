use Rattle.std.proofs.Common.{length, ◌∙◌, ap}
use Rattle.std.proofs.lemmas.Result.{on_ok_weaker}
use Rattle.pgs_world.specs.World.{Triple, part}
use Rattle.pgs_world.proofs.Moments.{passes_on, stops_quiet, settled_step}
use Rattle.pgs_journal.specs.Stops.{Turns, KeepsGate}
use Rattle.pgs_journal.proofs.Composing.{beside_on}
use Rattle.pgs_journal.proofs.Creating.{both_writes, store_written}
use Rattle.pgs_journal.proofs.steps.write_store.Goals as goal

pub returns-in_err-write_at-2-clause-stops : goal.returns-in_err-write_at-2-clause-stops
returns-in_err-write_at-2-clause-stops g c =
    let one = c.write_at.ensures in
    let two = c.write_at-2.ensures in
    both_writes c.args.area (length c.head_bytes.result) (length c.args.first.now) (g.W.World.view c.args.world.now) (g.W.World.view c.write_at.new.self) (g.W.World.view c.write_at-2.new.self) one.passes two.passes one.stops two.stops

pub returns-clause-stops : goal.returns-clause-stops
returns-clause-stops g c =
    let one = c.write_at.ensures in
    let two = c.write_at-2.ensures in
    let old = g.W.World.view c.args.world.now in
    let mid = g.W.World.view c.write_at-2.new.self in
    stops_quiet old mid (g.W.World.view c.sync.new.self) (Turns c.args.area KeepsGate) (passes_on old (g.W.World.view c.write_at.new.self) mid one.passes two.passes)
    (both_writes c.args.area (length c.head_bytes.result) (length c.args.first.now) old (g.W.World.view c.write_at.new.self) mid one.passes two.passes one.stops two.stops) c.sync.ensures.quiet

pub returns-clause-settled : goal.returns-clause-settled
returns-clause-settled g c =
    let one = c.write_at.ensures in
    let two = c.write_at-2.ensures in
    let old = g.W.World.view c.args.world.now in
    let mid = g.W.World.view c.write_at-2.new.self in
    on_ok_weaker c.sync.result (λ synced s.
    settled_step c.args.area old mid (g.W.World.view c.sync.new.self) (Turns c.args.area KeepsGate) (λ d e turns. turns.same) s (passes_on old (g.W.World.view c.write_at.new.self) mid one.passes two.passes)
    (both_writes c.args.area (length c.head_bytes.result) (length c.args.first.now) old (g.W.World.view c.write_at.new.self) mid one.passes two.passes one.stops two.stops)
    (beside_on c.args.area old.shown (g.W.World.view c.write_at.new.self).shown mid.shown one.beside two.beside) c.sync.ensures.quiet synced) c.sync.ensures.synced

pub returns-clause-written : goal.returns-clause-written
returns-clause-written g c =
    let area = c.args.area in
    let old = g.W.World.view c.args.world.now in
    let first = g.W.World.view c.write_at.new.self in
    let mid = g.W.World.view c.write_at-2.new.self in
    on_ok_weaker c.sync.result (λ synced told.
    ap (λ (t : Triple). part area t) c.sync.ensures.quiet.shown
    ∙ store_written c.args.epoch c.args.first.now (part area old.shown) (part area first.shown) (part area mid.shown) c.head_bytes.result (c.requires told) c.head_bytes.ensures (c.in_ok-write_at.ensures.written told)
    (c.in_ok-write_at-2.ensures.written (c.write_at.ensures.passes.tells_bytes ∙ told))) c.sync.ensures.synced
