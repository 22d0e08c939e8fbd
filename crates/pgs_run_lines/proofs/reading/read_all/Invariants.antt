use Rattle.std.proofs.Common.{◌≡◌, ◌<◌, ◌≤◌, ◌+◌, length}
use Rattle.pgs_run_lines.specs.Buffer.{IsBegun}
use Rattle.pgs_run_lines.specs.Calls.{Gave}
use Rattle.pgs_run_lines.specs.Ending.{faults_of}
use Rattle.pgs_run_lines.specs.Machine.{HasRoomFor, scene_of}
use Rattle.pgs_run_lines.specs.Reading.{ReadSoFar}
use Rattle.pgs_run_lines.proofs.reading.read_all.Given as goal

abbrev pub invariant-loop-left : goal.invariant-loop-left
invariant-loop-left g l = record {
  on : ReadSoFar g.T.LineTaker.machine g.T.LineTaker.rule l.fn.line.limit (g.T.LineTaker.stands l.fn.taker) (scene_of (g.W.World.view l.fn.world) (g.T.LineTaker.kept l.fn.taker)) l.fn.budget l.left (g.S.Source.left l.fn.source) (g.S.Source.left l.source) (g.T.LineTaker.stands l.taker) l.line.bytes (scene_of (g.W.World.view l.world) (g.T.LineTaker.kept l.taker));
  limit : l.line.limit ≡ l.fn.line.limit;
  room : HasRoomFor g.T.LineTaker.machine (l.left + 1) (g.T.LineTaker.stands l.taker);
  begun : IsBegun l.line;
  holds : g.T.LineTaker.rule.holds (g.T.LineTaker.stands l.taker) (g.W.World.view l.world);
  bytes : (0 < length l.bytes) × (length l.bytes ≤ 65536);
  calls : Gave g.S.Source.read_made l.fn.budget l.fn.source l.left l.source;
  reads : g.S.Source.faults l.source ≡ g.S.Source.faults l.fn.source;
  faults : faults_of 0 (g.W.World.view l.world) ≡ faults_of 0 (g.W.World.view l.fn.world);
}

abbrev pub decreases-loop-left : goal.decreases-loop-left
decreases-loop-left g l = l.left
