use Rattle.std.proofs.Common.{◌&&◌}
use Rattle.pgs_world_files.specs.Causes.{CallFails}
use Rattle.pgs_world_files.specs.Failing.{at_sync}
use Rattle.pgs_world_files.specs.Handles.{CallIs}
use Rattle.pgs_world_files.specs.Laws.{tells_first, tells_second}
use Rattle.pgs_world_files.proofs.Failing.{failed_called}
use Rattle.pgs_world_files.proofs.Worlds.{quiet_sync, durable_sync, call_called}
use Rattle.pgs_world_files.proofs.file_world.FileWorldWorld.sync.Goals as goal

pub returns-clause-quiet : goal.returns-clause-quiet
returns-clause-quiet g c =
    quiet_sync (record { tells_output = g.W.SteadyWrite.tells; written = g.W.Write.contents; tells_bytes = g.H.Handle.tells; bytes = g.H.Handle.contents; tells_stops = g.W.SteadyWrite.tells_stops && g.H.Handle.tells_stops; output_past = g.W.SteadyWrite.past; file_past = g.H.Handle.past })
    (record { lengths = g.H.Handle.length_gives; reads = g.H.Handle.read_gives; writes = g.H.Handle.write_gives; cuts = g.H.Handle.cut_gives; syncs = g.H.Handle.sync_gives }) g.W.SteadyWrite.write_gives g.W.SteadyWrite.flush_gives g.met.H.Handle.over
    (λ tells. record { writer = g.met.W.SteadyWrite.stops (tells_first g.W.SteadyWrite.tells_stops g.H.Handle.tells_stops tells); file = g.met.H.Handle.stops (tells_second g.W.SteadyWrite.tells_stops g.H.Handle.tells_stops tells) })
    c.args.area c.args.self.now c.counted.new.self c.sync-answer.new.self c.moment-moment.result
    (record { begun = c.moment-moment.ensures; areas = c.counted.ensures.areas; beside = c.sync-answer.ensures.beside; writer = c.counted.ensures.writer; calls = c.counted.ensures.later_than; rose = c.counted.ensures.rose_from; area_faults = c.counted.ensures.area_faults; put_faults = c.counted.ensures.put_faults; puts = c.counted.ensures.puts })
    c.sync-answer.result c.sync-answer.result c.sync-answer.ensures.given

pub returns-clause-synced : goal.returns-clause-synced
returns-clause-synced g c =
    durable_sync (record { tells_output = g.W.SteadyWrite.tells; written = g.W.Write.contents; tells_bytes = g.H.Handle.tells; bytes = g.H.Handle.contents; tells_stops = g.W.SteadyWrite.tells_stops && g.H.Handle.tells_stops; output_past = g.W.SteadyWrite.past; file_past = g.H.Handle.past })
    (record { lengths = g.H.Handle.length_gives; reads = g.H.Handle.read_gives; writes = g.H.Handle.write_gives; cuts = g.H.Handle.cut_gives; syncs = g.H.Handle.sync_gives }) g.W.SteadyWrite.write_gives g.W.SteadyWrite.flush_gives g.met.H.Handle.over
    (λ tells. record { writer = g.met.W.SteadyWrite.stops (tells_first g.W.SteadyWrite.tells_stops g.H.Handle.tells_stops tells); file = g.met.H.Handle.stops (tells_second g.W.SteadyWrite.tells_stops g.H.Handle.tells_stops tells) })
    c.args.area c.args.self.now c.counted.new.self c.sync-answer.new.self c.moment-moment.result
    (record { begun = c.moment-moment.ensures; areas = c.counted.ensures.areas; beside = c.sync-answer.ensures.beside; writer = c.counted.ensures.writer; calls = c.counted.ensures.later_than; rose = c.counted.ensures.rose_from; area_faults = c.counted.ensures.area_faults; put_faults = c.counted.ensures.put_faults; puts = c.counted.ensures.puts })
    c.sync-answer.result c.counted.result c.sync-answer.ensures.given c.counted.ensures.answer

pub returns-clause-call : goal.returns-clause-call
returns-clause-call g c =
    call_called (record { tells_output = g.W.SteadyWrite.tells; written = g.W.Write.contents; tells_bytes = g.H.Handle.tells; bytes = g.H.Handle.contents; tells_stops = g.W.SteadyWrite.tells_stops && g.H.Handle.tells_stops; output_past = g.W.SteadyWrite.past; file_past = g.H.Handle.past })
    (record { lengths = g.H.Handle.length_gives; reads = g.H.Handle.read_gives; writes = g.H.Handle.write_gives; cuts = g.H.Handle.cut_gives; syncs = g.H.Handle.sync_gives }) g.W.SteadyWrite.write_gives g.W.SteadyWrite.flush_gives g.met.H.Handle.over
    (λ tells. record { writer = g.met.W.SteadyWrite.stops (tells_first g.W.SteadyWrite.tells_stops g.H.Handle.tells_stops tells); file = g.met.H.Handle.stops (tells_second g.W.SteadyWrite.tells_stops g.H.Handle.tells_stops tells) })
    c.args.area c.args.self.now c.counted.new.self c.sync-answer.new.self c.moment-moment.result
    (record { begun = c.moment-moment.ensures; areas = c.counted.ensures.areas; beside = c.sync-answer.ensures.beside; writer = c.counted.ensures.writer; calls = c.counted.ensures.later_than; rose = c.counted.ensures.rose_from; area_faults = c.counted.ensures.area_faults; put_faults = c.counted.ensures.put_faults; puts = c.counted.ensures.puts })
    c.sync-answer.result c.counted.result c.counted.ensures.answer c.counted.ensures.raised c.counted.ensures.no_cause

pub returns-clause-last : goal.returns-clause-last
returns-clause-last g c =
    failed_called (record { lengths = g.H.Handle.length_gives; reads = g.H.Handle.read_gives; writes = g.H.Handle.write_gives; cuts = g.H.Handle.cut_gives; syncs = g.H.Handle.sync_gives })
    (CallIs (g.H.Handle.sync_gives c.moment-moment.result)) (CallFails (g.H.Handle.sync_gives c.moment-moment.result)) (λ before cause after. at_sync c.moment-moment.result before)
    g.W.SteadyWrite.write_gives g.W.SteadyWrite.flush_gives c.args.area c.args.self.now.areas c.sync-answer.new.self c.counted.new.self c.counted.ensures.areas
    c.moment-moment.result c.counted.ensures.rose_from c.sync-answer.result c.counted.result c.counted.ensures.answer c.sync-answer.ensures.given c.sync-answer.ensures.caused c.sync-answer.ensures.failed
