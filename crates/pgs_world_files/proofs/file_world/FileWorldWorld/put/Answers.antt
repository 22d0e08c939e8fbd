use Rattle.std.proofs.Common.{◌&&◌, Ok, Err, inl, inr, refl, sym, ap, subst, arith, is_some}
use Rattle.std.specs.declared.io.Error.{Error}
use Rattle.pgs_world.specs.declared.fault.PutFault.{PutFault}
use Rattle.pgs_world_streams.specs.Pieces.{PieceIs, FailsWith}
use Rattle.pgs_world_files.specs.Laws.{tells_first, tells_second}
use Rattle.pgs_world_files.proofs.Failing.{failed_piece}
use Rattle.pgs_world_files.proofs.Worlds.{stops_called_put, passes_called_put, call_called_put}
use Rattle.pgs_world_files.proofs.file_world.FileWorldWorld.put.Goals as goal

pub returns-then-is_full-clause-passes : goal.returns-then-is_full-clause-passes
returns-then-is_full-clause-passes g c =
    passes_called_put (record { tells_output = g.W.SteadyWrite.tells; written = g.W.Write.contents; tells_bytes = g.H.Handle.tells; bytes = g.H.Handle.contents; tells_stops = g.W.SteadyWrite.tells_stops && g.H.Handle.tells_stops; output_past = g.W.SteadyWrite.past; file_past = g.H.Handle.past })
    (record { lengths = g.H.Handle.length_gives; reads = g.H.Handle.read_gives; writes = g.H.Handle.write_gives; cuts = g.H.Handle.cut_gives; syncs = g.H.Handle.sync_gives }) g.W.SteadyWrite.write_gives g.W.SteadyWrite.flush_gives
    (λ tells. record { writer = g.met.W.SteadyWrite.stops (tells_first g.W.SteadyWrite.tells_stops g.H.Handle.tells_stops tells); file = g.met.H.Handle.stops (tells_second g.W.SteadyWrite.tells_stops g.H.Handle.tells_stops tells) })
    c.args.self.now c.put_fault.new.self c.moment-moment.result
    (record { begun = c.moment-moment.ensures; areas = c.put_fault.ensures.areas; calls = c.put_fault.ensures.later_than; rose = c.put_fault.ensures.rose_from; area_faults = c.put_fault.ensures.area_faults; put_faults = c.put_fault.ensures.later; puts = omega (arith, c.put_fault.ensures.puts) })
    c.args.piece.now {A = Unit {0}} (Err c.put_fault.result) (inl (c.if-is_full.ensures.full refl, c.put_fault.ensures.writer))

pub returns-in-Ok-clause-passes : goal.returns-in-Ok-clause-passes
returns-in-Ok-clause-passes g c =
    passes_called_put (record { tells_output = g.W.SteadyWrite.tells; written = g.W.Write.contents; tells_bytes = g.H.Handle.tells; bytes = g.H.Handle.contents; tells_stops = g.W.SteadyWrite.tells_stops && g.H.Handle.tells_stops; output_past = g.W.SteadyWrite.past; file_past = g.H.Handle.past })
    (record { lengths = g.H.Handle.length_gives; reads = g.H.Handle.read_gives; writes = g.H.Handle.write_gives; cuts = g.H.Handle.cut_gives; syncs = g.H.Handle.sync_gives }) g.W.SteadyWrite.write_gives g.W.SteadyWrite.flush_gives
    (λ tells. record { writer = g.met.W.SteadyWrite.stops (tells_first g.W.SteadyWrite.tells_stops g.H.Handle.tells_stops tells); file = g.met.H.Handle.stops (tells_second g.W.SteadyWrite.tells_stops g.H.Handle.tells_stops tells) })
    c.args.self.now (record { areas = c.args.self.now.areas; writer = c.write_whole.new.writer; counts = c.put.new.self; seed = c.args.self.now.seed; put_cause = c.args.self.now.put_cause }) c.moment-moment.result
    (record { begun = c.moment-moment.ensures; areas = refl; calls = c.put.ensures.later_than; rose = c.put.ensures.rose_from; area_faults = c.put.ensures.area_faults; put_faults = omega (arith, c.put.ensures.put_faults); puts = omega (arith, c.put.ensures.puts) })
    c.args.piece.now {A = Unit {0}} {F = Error} (Ok tt) c.in-Ok.ensures.given

pub returns-in-Err-clause-passes : goal.returns-in-Err-clause-passes
returns-in-Err-clause-passes g c =
    passes_called_put (record { tells_output = g.W.SteadyWrite.tells; written = g.W.Write.contents; tells_bytes = g.H.Handle.tells; bytes = g.H.Handle.contents; tells_stops = g.W.SteadyWrite.tells_stops && g.H.Handle.tells_stops; output_past = g.W.SteadyWrite.past; file_past = g.H.Handle.past })
    (record { lengths = g.H.Handle.length_gives; reads = g.H.Handle.read_gives; writes = g.H.Handle.write_gives; cuts = g.H.Handle.cut_gives; syncs = g.H.Handle.sync_gives }) g.W.SteadyWrite.write_gives g.W.SteadyWrite.flush_gives
    (λ tells. record { writer = g.met.W.SteadyWrite.stops (tells_first g.W.SteadyWrite.tells_stops g.H.Handle.tells_stops tells); file = g.met.H.Handle.stops (tells_second g.W.SteadyWrite.tells_stops g.H.Handle.tells_stops tells) })
    c.args.self.now c.put_fault-in-Err.new.self c.moment-moment.result
    (record { begun = c.moment-moment.ensures; areas = c.put_fault-in-Err.ensures.areas; calls = c.put_fault-in-Err.ensures.later_than; rose = c.put_fault-in-Err.ensures.rose_from; area_faults = c.put_fault-in-Err.ensures.area_faults; put_faults = c.put_fault-in-Err.ensures.later; puts = omega (arith, c.put_fault-in-Err.ensures.puts) })
    c.args.piece.now {A = Unit {0}} (Err c.in-Err.error)
    (inr (subst (λ w. PieceIs {A = Unit {0}} (g.W.SteadyWrite.write_gives c.moment-moment.result) (g.W.SteadyWrite.flush_gives c.moment-moment.result) c.args.self.now.writer c.args.piece.now (Err c.in-Err.error) w) (sym c.put_fault-in-Err.ensures.writer) c.in-Err.ensures.given))

pub returns-in-Ok-clause-stops : goal.returns-in-Ok-clause-stops
returns-in-Ok-clause-stops g c =
    stops_called_put (record { tells_output = g.W.SteadyWrite.tells; written = g.W.Write.contents; tells_bytes = g.H.Handle.tells; bytes = g.H.Handle.contents; tells_stops = g.W.SteadyWrite.tells_stops && g.H.Handle.tells_stops; output_past = g.W.SteadyWrite.past; file_past = g.H.Handle.past })
    (record { lengths = g.H.Handle.length_gives; reads = g.H.Handle.read_gives; writes = g.H.Handle.write_gives; cuts = g.H.Handle.cut_gives; syncs = g.H.Handle.sync_gives }) g.W.SteadyWrite.write_gives g.W.SteadyWrite.flush_gives
    (λ tells. record { writer = g.met.W.SteadyWrite.stops (tells_first g.W.SteadyWrite.tells_stops g.H.Handle.tells_stops tells); file = g.met.H.Handle.stops (tells_second g.W.SteadyWrite.tells_stops g.H.Handle.tells_stops tells) })
    c.args.self.now (record { areas = c.args.self.now.areas; writer = c.write_whole.new.writer; counts = c.put.new.self; seed = c.args.self.now.seed; put_cause = c.args.self.now.put_cause }) c.moment-moment.result
    (record { begun = c.moment-moment.ensures; areas = refl; calls = c.put.ensures.later_than; rose = c.put.ensures.rose_from; area_faults = c.put.ensures.area_faults; put_faults = omega (arith, c.put.ensures.put_faults); puts = omega (arith, c.put.ensures.puts) })
    c.args.piece.now {A = Unit {0}} {F = Error} (Ok tt) c.in-Ok.ensures.given

pub returns-in-Err-clause-stops : goal.returns-in-Err-clause-stops
returns-in-Err-clause-stops g c =
    stops_called_put (record { tells_output = g.W.SteadyWrite.tells; written = g.W.Write.contents; tells_bytes = g.H.Handle.tells; bytes = g.H.Handle.contents; tells_stops = g.W.SteadyWrite.tells_stops && g.H.Handle.tells_stops; output_past = g.W.SteadyWrite.past; file_past = g.H.Handle.past })
    (record { lengths = g.H.Handle.length_gives; reads = g.H.Handle.read_gives; writes = g.H.Handle.write_gives; cuts = g.H.Handle.cut_gives; syncs = g.H.Handle.sync_gives }) g.W.SteadyWrite.write_gives g.W.SteadyWrite.flush_gives
    (λ tells. record { writer = g.met.W.SteadyWrite.stops (tells_first g.W.SteadyWrite.tells_stops g.H.Handle.tells_stops tells); file = g.met.H.Handle.stops (tells_second g.W.SteadyWrite.tells_stops g.H.Handle.tells_stops tells) })
    c.args.self.now c.put_fault-in-Err.new.self c.moment-moment.result
    (record { begun = c.moment-moment.ensures; areas = c.put_fault-in-Err.ensures.areas; calls = c.put_fault-in-Err.ensures.later_than; rose = c.put_fault-in-Err.ensures.rose_from; area_faults = c.put_fault-in-Err.ensures.area_faults; put_faults = c.put_fault-in-Err.ensures.later; puts = omega (arith, c.put_fault-in-Err.ensures.puts) })
    c.args.piece.now {A = Unit {0}} (Err c.in-Err.error)
    (inr (subst (λ w. PieceIs {A = Unit {0}} (g.W.SteadyWrite.write_gives c.moment-moment.result) (g.W.SteadyWrite.flush_gives c.moment-moment.result) c.args.self.now.writer c.args.piece.now (Err c.in-Err.error) w) (sym c.put_fault-in-Err.ensures.writer) c.in-Err.ensures.given))

pub returns-then-is_full-clause-call : goal.returns-then-is_full-clause-call
returns-then-is_full-clause-call g c =
    call_called_put (record { tells_output = g.W.SteadyWrite.tells; written = g.W.Write.contents; tells_bytes = g.H.Handle.tells; bytes = g.H.Handle.contents; tells_stops = g.W.SteadyWrite.tells_stops && g.H.Handle.tells_stops; output_past = g.W.SteadyWrite.past; file_past = g.H.Handle.past })
    (record { lengths = g.H.Handle.length_gives; reads = g.H.Handle.read_gives; writes = g.H.Handle.write_gives; cuts = g.H.Handle.cut_gives; syncs = g.H.Handle.sync_gives }) g.W.SteadyWrite.write_gives g.W.SteadyWrite.flush_gives
    (λ tells. record { writer = g.met.W.SteadyWrite.stops (tells_first g.W.SteadyWrite.tells_stops g.H.Handle.tells_stops tells); file = g.met.H.Handle.stops (tells_second g.W.SteadyWrite.tells_stops g.H.Handle.tells_stops tells) })
    c.args.self.now c.put_fault.new.self c.moment-moment.result
    (record { begun = c.moment-moment.ensures; areas = c.put_fault.ensures.areas; calls = c.put_fault.ensures.later_than; rose = c.put_fault.ensures.rose_from; area_faults = c.put_fault.ensures.area_faults; put_faults = c.put_fault.ensures.later; puts = omega (arith, c.put_fault.ensures.puts) })
    {A = Unit {0}} (Err c.put_fault.result) c.put_fault.ensures.raised tt tt c.put_fault.ensures.puts

pub returns-in-Ok-clause-call : goal.returns-in-Ok-clause-call
returns-in-Ok-clause-call g c =
    call_called_put (record { tells_output = g.W.SteadyWrite.tells; written = g.W.Write.contents; tells_bytes = g.H.Handle.tells; bytes = g.H.Handle.contents; tells_stops = g.W.SteadyWrite.tells_stops && g.H.Handle.tells_stops; output_past = g.W.SteadyWrite.past; file_past = g.H.Handle.past })
    (record { lengths = g.H.Handle.length_gives; reads = g.H.Handle.read_gives; writes = g.H.Handle.write_gives; cuts = g.H.Handle.cut_gives; syncs = g.H.Handle.sync_gives }) g.W.SteadyWrite.write_gives g.W.SteadyWrite.flush_gives
    (λ tells. record { writer = g.met.W.SteadyWrite.stops (tells_first g.W.SteadyWrite.tells_stops g.H.Handle.tells_stops tells); file = g.met.H.Handle.stops (tells_second g.W.SteadyWrite.tells_stops g.H.Handle.tells_stops tells) })
    c.args.self.now (record { areas = c.args.self.now.areas; writer = c.write_whole.new.writer; counts = c.put.new.self; seed = c.args.self.now.seed; put_cause = c.args.self.now.put_cause }) c.moment-moment.result
    (record { begun = c.moment-moment.ensures; areas = refl; calls = c.put.ensures.later_than; rose = c.put.ensures.rose_from; area_faults = c.put.ensures.area_faults; put_faults = omega (arith, c.put.ensures.put_faults); puts = omega (arith, c.put.ensures.puts) })
    {A = Unit {0}} {F = PutFault} (Ok tt) tt c.put.ensures.put_faults c.put.ensures.puts tt

pub returns-in-Err-clause-call : goal.returns-in-Err-clause-call
returns-in-Err-clause-call g c =
    call_called_put (record { tells_output = g.W.SteadyWrite.tells; written = g.W.Write.contents; tells_bytes = g.H.Handle.tells; bytes = g.H.Handle.contents; tells_stops = g.W.SteadyWrite.tells_stops && g.H.Handle.tells_stops; output_past = g.W.SteadyWrite.past; file_past = g.H.Handle.past })
    (record { lengths = g.H.Handle.length_gives; reads = g.H.Handle.read_gives; writes = g.H.Handle.write_gives; cuts = g.H.Handle.cut_gives; syncs = g.H.Handle.sync_gives }) g.W.SteadyWrite.write_gives g.W.SteadyWrite.flush_gives
    (λ tells. record { writer = g.met.W.SteadyWrite.stops (tells_first g.W.SteadyWrite.tells_stops g.H.Handle.tells_stops tells); file = g.met.H.Handle.stops (tells_second g.W.SteadyWrite.tells_stops g.H.Handle.tells_stops tells) })
    c.args.self.now c.put_fault-in-Err.new.self c.moment-moment.result
    (record { begun = c.moment-moment.ensures; areas = c.put_fault-in-Err.ensures.areas; calls = c.put_fault-in-Err.ensures.later_than; rose = c.put_fault-in-Err.ensures.rose_from; area_faults = c.put_fault-in-Err.ensures.area_faults; put_faults = c.put_fault-in-Err.ensures.later; puts = omega (arith, c.put_fault-in-Err.ensures.puts) })
    {A = Unit {0}} (Err c.put_fault-in-Err.result) c.put_fault-in-Err.ensures.raised tt tt c.put_fault-in-Err.ensures.puts

pub returns-in-Err-clause-last : goal.returns-in-Err-clause-last
returns-in-Err-clause-last g c =
    failed_piece (record { lengths = g.H.Handle.length_gives; reads = g.H.Handle.read_gives; writes = g.H.Handle.write_gives; cuts = g.H.Handle.cut_gives; syncs = g.H.Handle.sync_gives }) g.W.SteadyWrite.write_gives g.W.SteadyWrite.flush_gives
    c.put_fault-in-Err.new.self c.moment-moment.result c.args.self.now.writer c.args.piece.now c.in-Err.error (ap is_some c.put_fault-in-Err.ensures.cause)
    (subst (λ w. FailsWith (g.W.SteadyWrite.write_gives c.moment-moment.result) (g.W.SteadyWrite.flush_gives c.moment-moment.result) c.args.self.now.writer c.args.piece.now c.in-Err.error w) (sym c.put_fault-in-Err.ensures.writer) c.in-Err.ensures.error)
