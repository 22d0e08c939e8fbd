use Rattle.std.proofs.Common.{rules, arith, ◌-◌, ap, ◌∙◌, sym, subst, take, List, ℕ, Bool, [], Some}
use Rattle.std.proofs.lemmas.Grind.{common_steps}
use Rattle.pgs_run_lines.specs.Calls.{MakesReads, gave_none, gave_more, so_far, to_end, to_fault}
use Rattle.pgs_run_lines.specs.Input.{Lines}
use Rattle.pgs_run_lines.specs.Machine.{scene_of}
use Rattle.pgs_run_lines.proofs.Begun.{begun_none}
use Rattle.pgs_run_lines.proofs.Causes.{not_of_source}
use Rattle.pgs_run_lines.proofs.Cutting.{kept_nothing}
use Rattle.pgs_run_lines.proofs.Driven.{runs_none, takes_in, stops_in}
use Rattle.pgs_run_lines.proofs.ReadingOn.{read_none, read_on, read_stops, room_read}
use Rattle.pgs_run_lines.proofs.reading.read_all.Goals as goal

pub loop-left-init : goal.loop-left-init
loop-left-init g c = record {
  on = read_none g.T.LineTaker.machine g.T.LineTaker.rule c.args.line.now.limit _ (scene_of (g.W.World.view c.args.world.now) (g.T.LineTaker.kept c.args.taker.now)) c.args.line.now.bytes c.args.budget _ (runs_none g.T.LineTaker.machine g.T.LineTaker.rule c.args.line.now.limit _ _ [] c.args.line.now.bytes (g.met.W.World.timed c.args.world.now) c.requires.holds (kept_nothing c.args.line.now.limit ∙ ap (λ (text : List ℕ). let r : Lines = record { ended = []; rest = text } in r) (sym c.requires.line)));
  limit = search rules;
  room = search rules;
  begun = begun_none c.args.line.now c.requires.line;
  holds = search rules;
  bytes = search rules;
  reads = search rules;
  faults = search rules;
  calls = gave_none;
}

pub returns-in-Err-take_bytes-clause-reads : goal.returns-in-Err-take_bytes-clause-reads
returns-in-Err-take_bytes-clause-reads g c =
    read_stops g.T.LineTaker.machine g.T.LineTaker.rule c.args.line.now.limit _ (g.T.LineTaker.stands c.loop-left.taker) _ _ (scene_of (g.W.World.view c.loop-left.world) (g.T.LineTaker.kept c.loop-left.taker)) _ c.loop-left.line.bytes _ (take c.in-Ok.count c.read_some.new.buffer) c.args.budget c.loop-left.left c.in-Ok.count _ _ _ c.in-Err-take_bytes.stop (grind (arith, common_steps)) c.in-Ok.ensures.budget c.loop-left.invariant.on c.in-Ok.ensures.taken c.in-Err-take_bytes.ensures.cause (stops_in g.T.LineTaker.machine g.T.LineTaker.rule c.args.line.now.limit c.loop-left.line.limit _ _ _ _ _ c.loop-left.invariant.limit c.in-Err-take_bytes.ensures.takes)

pub loop-left-preserved : goal.loop-left-preserved
loop-left-preserved g c = record {
  on = read_on g.T.LineTaker.machine g.T.LineTaker.rule c.args.line.now.limit _ (g.T.LineTaker.stands c.loop-left.taker) _ _ (scene_of (g.W.World.view c.loop-left.world) (g.T.LineTaker.kept c.loop-left.taker)) _ c.loop-left.line.bytes _ (take c.in-Ok.count c.read_some.new.buffer) c.args.budget c.loop-left.left c.in-Ok.count _ _ _ (grind (arith, common_steps)) c.in-Ok.ensures.budget c.loop-left.invariant.on c.in-Ok.ensures.taken (takes_in g.T.LineTaker.machine g.T.LineTaker.rule c.args.line.now.limit c.loop-left.line.limit _ _ _ _ _ _ c.loop-left.invariant.limit c.in-Ok-take_bytes.ensures.takes);
  limit = c.take_bytes.ensures.limit ∙ c.loop-left.invariant.limit;
  room = room_read g.T.LineTaker.machine c.loop-left.left c.in-Ok.count (take c.in-Ok.count c.read_some.new.buffer) (g.T.LineTaker.stands c.loop-left.taker) _ (grind (arith, common_steps)) c.in-Ok.ensures.budget c.in-Ok-take_bytes.ensures.room c.loop-left.invariant.room;
  begun = search rules;
  holds = search rules;
  bytes = search rules;
  reads = c.in-Ok.ensures.no_cause ∙ c.loop-left.invariant.reads;
  faults = c.in-Ok-take_bytes.ensures.cause ∙ c.loop-left.invariant.faults;
  calls = gave_more c.loop-left.invariant.calls c.in-Ok.ensures.made.1 (grind (arith, common_steps)) (grind (arith, common_steps)) c.in-Ok.ensures.made.2;
}

pub returns-in-Err-clause-calls : goal.returns-in-Err-clause-calls
returns-in-Err-clause-calls g c = to_fault c.loop-left.invariant.calls c.in-Err.ensures.made.1 c.in-Err.ensures.made.2

pub returns-then-count-eq0-clause-calls : goal.returns-then-count-eq0-clause-calls
returns-then-count-eq0-clause-calls g c =
    to_end c.loop-left.invariant.calls c.in-Ok.ensures.made.1 (subst (λ (count : ℕ). g.S.Source.read_made c.loop-left.source c.in-Ok.ensures.made.0 (Some count) c.read_some.new.source) (search rules) c.in-Ok.ensures.made.2)

pub returns-in-Err-take_bytes-clause-calls : goal.returns-in-Err-take_bytes-clause-calls
returns-in-Err-take_bytes-clause-calls g c =
    subst (λ (fails : Bool). MakesReads g.S.Source.read_made c.args.budget c.args.source.now fails c.read_some.new.source)
    (sym (not_of_source (g.W.World.view c.loop-left.world) (g.W.World.view c.take_bytes.new.world) c.in-Err-take_bytes.stop c.in-Err-take_bytes.ensures.cause))
    (so_far {left = c.loop-left.left - c.in-Ok.count} (gave_more c.loop-left.invariant.calls c.in-Ok.ensures.made.1 (grind (arith, common_steps)) (grind (arith, common_steps)) c.in-Ok.ensures.made.2))

pub returns-clause-calls : goal.returns-clause-calls
returns-clause-calls g c = so_far c.loop-left.invariant.calls
