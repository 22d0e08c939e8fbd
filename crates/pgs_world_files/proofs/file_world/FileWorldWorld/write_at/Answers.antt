use Rattle.std.proofs.Common.{◌&&◌}
use Rattle.pgs_world_files.specs.Causes.{WriteFails}
use Rattle.pgs_world_files.specs.Failing.{at_write}
use Rattle.pgs_world_files.specs.Handles.{WriteIs}
use Rattle.pgs_world_files.specs.Laws.{tells_first, tells_second}
use Rattle.pgs_world_files.proofs.Failing.{failed_called}
use Rattle.pgs_world_files.proofs.Worlds.{passes_write, stops_write, write_called, call_called}
use Rattle.pgs_world_files.proofs.file_world.FileWorldWorld.write_at.Goals as goal

pub returns-clause-passes : goal.returns-clause-passes
returns-clause-passes g c =
    passes_write (record { tells_output = g.W.SteadyWrite.tells; written = g.W.Write.contents; tells_bytes = g.H.Handle.tells; bytes = g.H.Handle.contents; tells_stops = g.W.SteadyWrite.tells_stops && g.H.Handle.tells_stops; output_past = g.W.SteadyWrite.past; file_past = g.H.Handle.past })
    (record { lengths = g.H.Handle.length_gives; reads = g.H.Handle.read_gives; writes = g.H.Handle.write_gives; cuts = g.H.Handle.cut_gives; syncs = g.H.Handle.sync_gives }) g.W.SteadyWrite.write_gives g.W.SteadyWrite.flush_gives g.met.H.Handle.over
    (λ tells. record { writer = g.met.W.SteadyWrite.stops (tells_first g.W.SteadyWrite.tells_stops g.H.Handle.tells_stops tells); file = g.met.H.Handle.stops (tells_second g.W.SteadyWrite.tells_stops g.H.Handle.tells_stops tells) })
    c.args.area c.args.self.now c.counted.new.self c.write_at-answer.new.self c.moment-moment.result
    (record { begun = c.moment-moment.ensures; areas = c.counted.ensures.areas; beside = c.write_at-answer.ensures.beside; writer = c.counted.ensures.writer; calls = c.counted.ensures.later_than; rose = c.counted.ensures.rose_from; area_faults = c.counted.ensures.area_faults; put_faults = c.counted.ensures.put_faults; puts = c.counted.ensures.puts })
    c.write_at-answer.result c.write_at-answer.result c.args.at c.args.bytes.now c.write_at-answer.ensures.given

pub returns-clause-stops : goal.returns-clause-stops
returns-clause-stops g c =
    stops_write (record { tells_output = g.W.SteadyWrite.tells; written = g.W.Write.contents; tells_bytes = g.H.Handle.tells; bytes = g.H.Handle.contents; tells_stops = g.W.SteadyWrite.tells_stops && g.H.Handle.tells_stops; output_past = g.W.SteadyWrite.past; file_past = g.H.Handle.past })
    (record { lengths = g.H.Handle.length_gives; reads = g.H.Handle.read_gives; writes = g.H.Handle.write_gives; cuts = g.H.Handle.cut_gives; syncs = g.H.Handle.sync_gives }) g.W.SteadyWrite.write_gives g.W.SteadyWrite.flush_gives g.met.H.Handle.over
    (λ tells. record { writer = g.met.W.SteadyWrite.stops (tells_first g.W.SteadyWrite.tells_stops g.H.Handle.tells_stops tells); file = g.met.H.Handle.stops (tells_second g.W.SteadyWrite.tells_stops g.H.Handle.tells_stops tells) })
    c.args.area c.args.self.now c.counted.new.self c.write_at-answer.new.self c.moment-moment.result
    (record { begun = c.moment-moment.ensures; areas = c.counted.ensures.areas; beside = c.write_at-answer.ensures.beside; writer = c.counted.ensures.writer; calls = c.counted.ensures.later_than; rose = c.counted.ensures.rose_from; area_faults = c.counted.ensures.area_faults; put_faults = c.counted.ensures.put_faults; puts = c.counted.ensures.puts })
    c.write_at-answer.result c.write_at-answer.result c.args.at c.args.bytes.now c.write_at-answer.ensures.given

pub returns-clause-written : goal.returns-clause-written
returns-clause-written g c =
    write_called (record { tells_output = g.W.SteadyWrite.tells; written = g.W.Write.contents; tells_bytes = g.H.Handle.tells; bytes = g.H.Handle.contents; tells_stops = g.W.SteadyWrite.tells_stops && g.H.Handle.tells_stops; output_past = g.W.SteadyWrite.past; file_past = g.H.Handle.past })
    (record { lengths = g.H.Handle.length_gives; reads = g.H.Handle.read_gives; writes = g.H.Handle.write_gives; cuts = g.H.Handle.cut_gives; syncs = g.H.Handle.sync_gives }) g.W.SteadyWrite.write_gives g.W.SteadyWrite.flush_gives g.met.H.Handle.over
    (λ tells. record { writer = g.met.W.SteadyWrite.stops (tells_first g.W.SteadyWrite.tells_stops g.H.Handle.tells_stops tells); file = g.met.H.Handle.stops (tells_second g.W.SteadyWrite.tells_stops g.H.Handle.tells_stops tells) })
    c.args.area c.args.self.now c.counted.new.self c.write_at-answer.new.self c.moment-moment.result
    (record { begun = c.moment-moment.ensures; areas = c.counted.ensures.areas; beside = c.write_at-answer.ensures.beside; writer = c.counted.ensures.writer; calls = c.counted.ensures.later_than; rose = c.counted.ensures.rose_from; area_faults = c.counted.ensures.area_faults; put_faults = c.counted.ensures.put_faults; puts = c.counted.ensures.puts })
    c.write_at-answer.result c.counted.result c.args.at c.args.bytes.now c.write_at-answer.ensures.given c.counted.ensures.answer c.requires

pub returns-clause-call : goal.returns-clause-call
returns-clause-call g c =
    call_called (record { tells_output = g.W.SteadyWrite.tells; written = g.W.Write.contents; tells_bytes = g.H.Handle.tells; bytes = g.H.Handle.contents; tells_stops = g.W.SteadyWrite.tells_stops && g.H.Handle.tells_stops; output_past = g.W.SteadyWrite.past; file_past = g.H.Handle.past })
    (record { lengths = g.H.Handle.length_gives; reads = g.H.Handle.read_gives; writes = g.H.Handle.write_gives; cuts = g.H.Handle.cut_gives; syncs = g.H.Handle.sync_gives }) g.W.SteadyWrite.write_gives g.W.SteadyWrite.flush_gives g.met.H.Handle.over
    (λ tells. record { writer = g.met.W.SteadyWrite.stops (tells_first g.W.SteadyWrite.tells_stops g.H.Handle.tells_stops tells); file = g.met.H.Handle.stops (tells_second g.W.SteadyWrite.tells_stops g.H.Handle.tells_stops tells) })
    c.args.area c.args.self.now c.counted.new.self c.write_at-answer.new.self c.moment-moment.result
    (record { begun = c.moment-moment.ensures; areas = c.counted.ensures.areas; beside = c.write_at-answer.ensures.beside; writer = c.counted.ensures.writer; calls = c.counted.ensures.later_than; rose = c.counted.ensures.rose_from; area_faults = c.counted.ensures.area_faults; put_faults = c.counted.ensures.put_faults; puts = c.counted.ensures.puts })
    c.write_at-answer.result c.counted.result c.counted.ensures.answer c.counted.ensures.raised c.counted.ensures.no_cause

pub returns-clause-last : goal.returns-clause-last
returns-clause-last g c =
    failed_called (record { lengths = g.H.Handle.length_gives; reads = g.H.Handle.read_gives; writes = g.H.Handle.write_gives; cuts = g.H.Handle.cut_gives; syncs = g.H.Handle.sync_gives })
    (λ old answer new. WriteIs (g.H.Handle.write_gives c.moment-moment.result) old c.args.at c.args.bytes.now answer new) (λ old cause new. WriteFails (g.H.Handle.write_gives c.moment-moment.result) old c.args.at c.args.bytes.now cause new) (λ before cause after. at_write c.moment-moment.result before c.args.at c.args.bytes.now)
    g.W.SteadyWrite.write_gives g.W.SteadyWrite.flush_gives c.args.area c.args.self.now.areas c.write_at-answer.new.self c.counted.new.self c.counted.ensures.areas
    c.moment-moment.result c.counted.ensures.rose_from c.write_at-answer.result c.counted.result c.counted.ensures.answer c.write_at-answer.ensures.given c.write_at-answer.ensures.caused c.write_at-answer.ensures.failed
