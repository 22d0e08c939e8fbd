use Rattle.std.proofs.Common.{◌&&◌}
use Rattle.pgs_world_files.specs.Causes.{CallFails}
use Rattle.pgs_world_files.specs.Failing.{at_cut}
use Rattle.pgs_world_files.specs.Handles.{CallIs}
use Rattle.pgs_world_files.specs.Laws.{tells_first, tells_second}
use Rattle.pgs_world_files.proofs.Failing.{failed_called}
use Rattle.pgs_world_files.proofs.Worlds.{passes_cut, stops_cut, cut_called, call_called}
use Rattle.pgs_world_files.proofs.file_world.FileWorldWorld.cut.Goals as goal

pub returns-clause-passes : goal.returns-clause-passes
returns-clause-passes g c =
    passes_cut (record { tells_output = g.W.SteadyWrite.tells; written = g.W.Write.contents; tells_bytes = g.H.Handle.tells; bytes = g.H.Handle.contents; tells_stops = g.W.SteadyWrite.tells_stops && g.H.Handle.tells_stops; output_past = g.W.SteadyWrite.past; file_past = g.H.Handle.past })
    (record { lengths = g.H.Handle.length_gives; reads = g.H.Handle.read_gives; writes = g.H.Handle.write_gives; cuts = g.H.Handle.cut_gives; syncs = g.H.Handle.sync_gives }) g.W.SteadyWrite.write_gives g.W.SteadyWrite.flush_gives g.met.H.Handle.over
    (λ tells. record { writer = g.met.W.SteadyWrite.stops (tells_first g.W.SteadyWrite.tells_stops g.H.Handle.tells_stops tells); file = g.met.H.Handle.stops (tells_second g.W.SteadyWrite.tells_stops g.H.Handle.tells_stops tells) })
    c.args.area c.args.self.now c.counted.new.self c.cut-answer.new.self c.moment-moment.result
    (record { begun = c.moment-moment.ensures; areas = c.counted.ensures.areas; beside = c.cut-answer.ensures.beside; writer = c.counted.ensures.writer; calls = c.counted.ensures.later_than; rose = c.counted.ensures.rose_from; area_faults = c.counted.ensures.area_faults; put_faults = c.counted.ensures.put_faults; puts = c.counted.ensures.puts })
    c.cut-answer.result c.cut-answer.result c.args.len c.cut-answer.ensures.given

pub returns-clause-stops : goal.returns-clause-stops
returns-clause-stops g c =
    stops_cut (record { tells_output = g.W.SteadyWrite.tells; written = g.W.Write.contents; tells_bytes = g.H.Handle.tells; bytes = g.H.Handle.contents; tells_stops = g.W.SteadyWrite.tells_stops && g.H.Handle.tells_stops; output_past = g.W.SteadyWrite.past; file_past = g.H.Handle.past })
    (record { lengths = g.H.Handle.length_gives; reads = g.H.Handle.read_gives; writes = g.H.Handle.write_gives; cuts = g.H.Handle.cut_gives; syncs = g.H.Handle.sync_gives }) g.W.SteadyWrite.write_gives g.W.SteadyWrite.flush_gives g.met.H.Handle.over
    (λ tells. record { writer = g.met.W.SteadyWrite.stops (tells_first g.W.SteadyWrite.tells_stops g.H.Handle.tells_stops tells); file = g.met.H.Handle.stops (tells_second g.W.SteadyWrite.tells_stops g.H.Handle.tells_stops tells) })
    c.args.area c.args.self.now c.counted.new.self c.cut-answer.new.self c.moment-moment.result
    (record { begun = c.moment-moment.ensures; areas = c.counted.ensures.areas; beside = c.cut-answer.ensures.beside; writer = c.counted.ensures.writer; calls = c.counted.ensures.later_than; rose = c.counted.ensures.rose_from; area_faults = c.counted.ensures.area_faults; put_faults = c.counted.ensures.put_faults; puts = c.counted.ensures.puts })
    c.cut-answer.result c.cut-answer.result c.args.len c.cut-answer.ensures.given

pub returns-clause-cut : goal.returns-clause-cut
returns-clause-cut g c =
    cut_called (record { tells_output = g.W.SteadyWrite.tells; written = g.W.Write.contents; tells_bytes = g.H.Handle.tells; bytes = g.H.Handle.contents; tells_stops = g.W.SteadyWrite.tells_stops && g.H.Handle.tells_stops; output_past = g.W.SteadyWrite.past; file_past = g.H.Handle.past })
    (record { lengths = g.H.Handle.length_gives; reads = g.H.Handle.read_gives; writes = g.H.Handle.write_gives; cuts = g.H.Handle.cut_gives; syncs = g.H.Handle.sync_gives }) g.W.SteadyWrite.write_gives g.W.SteadyWrite.flush_gives g.met.H.Handle.over
    (λ tells. record { writer = g.met.W.SteadyWrite.stops (tells_first g.W.SteadyWrite.tells_stops g.H.Handle.tells_stops tells); file = g.met.H.Handle.stops (tells_second g.W.SteadyWrite.tells_stops g.H.Handle.tells_stops tells) })
    c.args.area c.args.self.now c.counted.new.self c.cut-answer.new.self c.moment-moment.result
    (record { begun = c.moment-moment.ensures; areas = c.counted.ensures.areas; beside = c.cut-answer.ensures.beside; writer = c.counted.ensures.writer; calls = c.counted.ensures.later_than; rose = c.counted.ensures.rose_from; area_faults = c.counted.ensures.area_faults; put_faults = c.counted.ensures.put_faults; puts = c.counted.ensures.puts })
    c.cut-answer.result c.counted.result c.args.len c.cut-answer.ensures.given c.counted.ensures.answer c.requires

pub returns-clause-call : goal.returns-clause-call
returns-clause-call g c =
    call_called (record { tells_output = g.W.SteadyWrite.tells; written = g.W.Write.contents; tells_bytes = g.H.Handle.tells; bytes = g.H.Handle.contents; tells_stops = g.W.SteadyWrite.tells_stops && g.H.Handle.tells_stops; output_past = g.W.SteadyWrite.past; file_past = g.H.Handle.past })
    (record { lengths = g.H.Handle.length_gives; reads = g.H.Handle.read_gives; writes = g.H.Handle.write_gives; cuts = g.H.Handle.cut_gives; syncs = g.H.Handle.sync_gives }) g.W.SteadyWrite.write_gives g.W.SteadyWrite.flush_gives g.met.H.Handle.over
    (λ tells. record { writer = g.met.W.SteadyWrite.stops (tells_first g.W.SteadyWrite.tells_stops g.H.Handle.tells_stops tells); file = g.met.H.Handle.stops (tells_second g.W.SteadyWrite.tells_stops g.H.Handle.tells_stops tells) })
    c.args.area c.args.self.now c.counted.new.self c.cut-answer.new.self c.moment-moment.result
    (record { begun = c.moment-moment.ensures; areas = c.counted.ensures.areas; beside = c.cut-answer.ensures.beside; writer = c.counted.ensures.writer; calls = c.counted.ensures.later_than; rose = c.counted.ensures.rose_from; area_faults = c.counted.ensures.area_faults; put_faults = c.counted.ensures.put_faults; puts = c.counted.ensures.puts })
    c.cut-answer.result c.counted.result c.counted.ensures.answer c.counted.ensures.raised c.counted.ensures.no_cause

pub returns-clause-last : goal.returns-clause-last
returns-clause-last g c =
    failed_called (record { lengths = g.H.Handle.length_gives; reads = g.H.Handle.read_gives; writes = g.H.Handle.write_gives; cuts = g.H.Handle.cut_gives; syncs = g.H.Handle.sync_gives })
    (CallIs (λ old succeeds new. g.H.Handle.cut_gives c.moment-moment.result old c.args.len succeeds new)) (CallFails (λ old succeeds new. g.H.Handle.cut_gives c.moment-moment.result old c.args.len succeeds new)) (λ before cause after. at_cut c.moment-moment.result before c.args.len)
    g.W.SteadyWrite.write_gives g.W.SteadyWrite.flush_gives c.args.area c.args.self.now.areas c.cut-answer.new.self c.counted.new.self c.counted.ensures.areas
    c.moment-moment.result c.counted.ensures.rose_from c.cut-answer.result c.counted.result c.counted.ensures.answer c.cut-answer.ensures.given c.cut-answer.ensures.caused c.cut-answer.ensures.failed
