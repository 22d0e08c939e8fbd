use Rattle.std.proofs.Common.{sym, ◌∙◌}
use Rattle.pgs_world.proofs.Moments.{passes_on}
use Rattle.pgs_journal.proofs.Creating.{closing_stops, closing_beside}
use Rattle.pgs_journal.proofs.steps.close_gate.Goals as goal

pub returns-in_err-write_synced-clause-stops : goal.returns-in_err-write_synced-clause-stops
returns-in_err-write_synced-clause-stops g c = λ told.
    closing_stops c.args.area (g.W.World.view c.args.world.now) (g.W.World.view c.must_close.new.world) (g.W.World.view c.write_synced.new.world) c.must_close.ensures.quiet c.write_synced.ensures.passes
    (sym (c.in_ok-must_close.ensures.answer told) ∙ c.if-branch.true) c.write_synced.ensures.stops told

pub returns-in_err-write_synced-clause-stops_beside : goal.returns-in_err-write_synced-clause-stops_beside
returns-in_err-write_synced-clause-stops_beside g c =
    closing_beside c.args.area (g.W.World.view c.args.world.now) (g.W.World.view c.must_close.new.world) (g.W.World.view c.write_synced.new.world) c.must_close.ensures.quiet c.write_synced.ensures.passes c.write_synced.ensures.stops

pub returns-in_ok-write_synced-clause-stops : goal.returns-in_ok-write_synced-clause-stops
returns-in_ok-write_synced-clause-stops g c = λ told.
    closing_stops c.args.area (g.W.World.view c.args.world.now) (g.W.World.view c.must_close.new.world) (g.W.World.view c.write_synced.new.world) c.must_close.ensures.quiet c.write_synced.ensures.passes
    (sym (c.in_ok-must_close.ensures.answer told) ∙ c.if-branch.true) c.write_synced.ensures.stops told

pub returns-in_ok-write_synced-clause-stops_beside : goal.returns-in_ok-write_synced-clause-stops_beside
returns-in_ok-write_synced-clause-stops_beside g c =
    closing_beside c.args.area (g.W.World.view c.args.world.now) (g.W.World.view c.must_close.new.world) (g.W.World.view c.write_synced.new.world) c.must_close.ensures.quiet c.write_synced.ensures.passes c.write_synced.ensures.stops

pub returns-in_ok-write_synced-clause-step : goal.returns-in_ok-write_synced-clause-step
returns-in_ok-write_synced-clause-step g c =
    let read = c.must_close.ensures in
    let write = c.write_synced.ensures in
    record {
      passes = passes_on (g.W.World.view c.args.world.now) (g.W.World.view c.must_close.new.world) (g.W.World.view c.write_synced.new.world) read.quiet.passes write.passes;
      image = write.call.image;
      faults = record { cause = tt; last = tt; no_cause = c.in_ok-write_synced.ensures.call.no_cause ∙ c.in_ok-must_close.ensures.faults.no_cause };
      no_put = record { puts = write.call.no_put.puts ∙ read.no_put.puts; put_faults = write.call.no_put.put_faults ∙ read.no_put.put_faults };
    }
