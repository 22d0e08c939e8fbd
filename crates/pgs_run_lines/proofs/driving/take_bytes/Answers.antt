use Rattle.std.proofs.Common.{rules, arith, ◌≡◌, ◌+◌, ◌++◌, length, take, true, sym, ap, subst, ◌∙◌}
use Rattle.std.proofs.lemmas.Grind.{common_steps}
use Rattle.pgs_run_lines.specs.Driving.{Runs}
use Rattle.pgs_run_lines.specs.Input.{has_no_feed, front_of}
use Rattle.pgs_run_lines.specs.Machine.{scene_of}
use Rattle.pgs_run_lines.proofs.Begun.{begun_more, kept_alone}
use Rattle.pgs_run_lines.proofs.LineEnd.{none_left}
use Rattle.pgs_run_lines.proofs.Driven.{room_fewer, room_line, so_far_none, so_far_line, so_far_stops, so_far_rest, so_far_memory, takes_in, stops_in}
use Rattle.pgs_run_lines.proofs.driving.take_bytes.Goals as goal

pub loop-end-init : goal.loop-end-init
loop-end-init g c = record {
  runs = so_far_none g.T.LineTaker.machine g.T.LineTaker.rule c.args.buffer.now.limit _ _ c.args.buffer.now.bytes c.args.bytes.now (g.met.W.World.timed c.args.world.now) c.requires.holds (kept_alone c.args.buffer.now c.requires.begun);
  limit = search rules;
  room = λ more has. has;
  begun = search rules;
  holds = search rules;
  faults = search rules;
}

pub take_line-requires-clause-room : goal.take_line-requires-clause-room
take_line-requires-clause-room g c =
    let m = g.T.LineTaker.machine in
    let h = c.in-Some.ensures.within in
    room_fewer m 1 (length c.loop-end.rest.now + 0) (g.T.LineTaker.stands c.loop-end.taker) (omega arith)
    (c.loop-end.invariant.room 0 (room_fewer m (length c.args.bytes.now + 0) (length c.args.bytes.now) (g.T.LineTaker.stands c.args.taker.now) (omega arith) c.requires.room))

pub returns-in-Err-clause-takes : goal.returns-in-Err-clause-takes
returns-in-Err-clause-takes g c =
    let stopped = stops_in g.T.LineTaker.machine g.T.LineTaker.rule c.args.buffer.now.limit c.loop-end.buffer.limit _ _ _ _ _ c.loop-end.invariant.limit c.in-Err.ensures.takes in
    so_far_stops g.T.LineTaker.machine g.T.LineTaker.rule c.args.buffer.now.limit _ (g.T.LineTaker.stands c.loop-end.taker) _ _ _ c.args.buffer.now.bytes c.args.bytes.now c.loop-end.rest.now (take c.in-Some.end c.loop-end.rest.now) _ c.loop-end.buffer.bytes c.in-Err.stop c.loop-end.invariant.runs c.in-Some.ensures.parts stopped

pub loop-end-preserved : goal.loop-end-preserved
loop-end-preserved g c = record {
  runs = so_far_line g.T.LineTaker.machine g.T.LineTaker.rule c.args.buffer.now.limit _ (g.T.LineTaker.stands c.loop-end.taker) _ _ _ _ c.args.buffer.now.bytes c.args.bytes.now c.loop-end.rest.now (take c.in-Some.end c.loop-end.rest.now) _ c.loop-end.buffer.bytes _ c.loop-end.invariant.runs (grind (arith, common_steps)) (takes_in g.T.LineTaker.machine g.T.LineTaker.rule c.args.buffer.now.limit c.loop-end.buffer.limit _ _ _ _ _ _ c.loop-end.invariant.limit c.in-Ok.ensures.takes);
  limit = c.take_line.ensures.limit ∙ c.loop-end.invariant.limit;
  room = λ more has. room_line g.T.LineTaker.machine more (g.T.LineTaker.stands c.loop-end.taker) _ c.loop-end.rest.now (take c.in-Some.end c.loop-end.rest.now) _ (grind (arith, common_steps)) c.in-Ok.ensures.room (c.loop-end.invariant.room more has);
  begun = search rules;
  holds = search rules;
  faults = c.in-Ok.ensures.cause ∙ c.loop-end.invariant.faults;
}

pub returns-in-Ok-push_all-clause-takes : goal.returns-in-Ok-push_all-clause-takes
returns-in-Ok-push_all-clause-takes g c =
    let none : has_no_feed c.loop-end.rest.now ≡ true = none_left c.loop-end.rest.now c.line_end.result c.line_end.ensures c.in_default.not-Some in
    let limit = c.args.buffer.now.limit in
    let line = c.loop-end.buffer.bytes in
    let is : c.push_all.new.self.bytes ≡ front_of limit (line ++ c.loop-end.rest.now) = c.in-Ok-push_all.ensures.ok ∙ ap (λ n. front_of n (line ++ c.loop-end.rest.now)) c.loop-end.invariant.limit in
    subst (λ left. Runs g.T.LineTaker.machine g.T.LineTaker.rule limit (g.T.LineTaker.stands c.args.taker.now) (scene_of (g.W.World.view c.args.world.now) (g.T.LineTaker.kept c.args.taker.now)) (c.args.buffer.now.bytes ++ c.args.bytes.now) (g.T.LineTaker.stands c.loop-end.taker) left (scene_of (g.W.World.view c.loop-end.world) (g.T.LineTaker.kept c.loop-end.taker))) (sym is) (so_far_rest g.T.LineTaker.machine g.T.LineTaker.rule limit _ (g.T.LineTaker.stands c.loop-end.taker) _ (scene_of (g.W.World.view c.loop-end.world) (g.T.LineTaker.kept c.loop-end.taker)) c.args.buffer.now.bytes c.args.bytes.now c.loop-end.rest.now line (g.met.W.World.timed c.loop-end.world) c.loop-end.invariant.begun.no_feed none c.loop-end.invariant.runs)

pub returns-in-Ok-push_all-clause-begun : goal.returns-in-Ok-push_all-clause-begun
returns-in-Ok-push_all-clause-begun g c =
    begun_more c.loop-end.buffer c.push_all.new.self c.loop-end.rest.now c.loop-end.invariant.begun (none_left c.loop-end.rest.now c.line_end.result c.line_end.ensures c.in_default.not-Some) c.push_all.ensures.limit c.in-Ok-push_all.ensures.ok

pub returns-in-Ok-push_all-clause-room : goal.returns-in-Ok-push_all-clause-room
returns-in-Ok-push_all-clause-room g c =
    λ more has. room_fewer g.T.LineTaker.machine more (length c.loop-end.rest.now + more) (g.T.LineTaker.stands c.loop-end.taker) (omega arith) (c.loop-end.invariant.room more has)

pub returns-in-Err-push_all-clause-takes : goal.returns-in-Err-push_all-clause-takes
returns-in-Err-push_all-clause-takes g c =
    so_far_memory g.T.LineTaker.machine g.T.LineTaker.rule c.args.buffer.now.limit _ (g.T.LineTaker.stands c.loop-end.taker) _ (scene_of (g.W.World.view c.loop-end.world) (g.T.LineTaker.kept c.loop-end.taker)) c.args.buffer.now.bytes c.args.bytes.now c.loop-end.rest.now c.loop-end.buffer.bytes (g.met.W.World.timed c.loop-end.world) c.loop-end.invariant.runs
