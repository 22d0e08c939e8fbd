use Rattle.std.proofs.Common.{◌≡◌, ◌+◌, ℕ, length}
use Rattle.pgs_run_lines.specs.Buffer.{IsBegun}
use Rattle.pgs_run_lines.specs.Driving.{RunsSoFar}
use Rattle.pgs_run_lines.specs.Ending.{faults_of}
use Rattle.pgs_run_lines.specs.Machine.{HasRoomFor, scene_of}
use Rattle.pgs_run_lines.proofs.driving.take_bytes.Given as goal

abbrev pub invariant-loop-end : goal.invariant-loop-end
invariant-loop-end g l = record {
  runs : RunsSoFar g.T.LineTaker.machine g.T.LineTaker.rule l.fn.buffer.limit (g.T.LineTaker.stands l.fn.taker) (scene_of (g.W.World.view l.fn.world) (g.T.LineTaker.kept l.fn.taker)) l.fn.buffer.bytes l.fn.bytes l.rest (g.T.LineTaker.stands l.taker) l.buffer.bytes (scene_of (g.W.World.view l.world) (g.T.LineTaker.kept l.taker));
  limit : l.buffer.limit ≡ l.fn.buffer.limit;
  room : (more : ℕ) → HasRoomFor g.T.LineTaker.machine (length l.fn.bytes + more) (g.T.LineTaker.stands l.fn.taker) → HasRoomFor g.T.LineTaker.machine (length l.rest + more) (g.T.LineTaker.stands l.taker);
  begun : IsBegun l.buffer;
  holds : g.T.LineTaker.rule.holds (g.T.LineTaker.stands l.taker) (g.W.World.view l.world);
  faults : faults_of 0 (g.W.World.view l.world) ≡ faults_of 0 (g.W.World.view l.fn.world);
}

abbrev pub decreases-loop-end : goal.decreases-loop-end
decreases-loop-end g l = length l.rest
