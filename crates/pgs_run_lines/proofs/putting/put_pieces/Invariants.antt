use Rattle.std.proofs.Common.{◌≡◌, take}
use Rattle.pgs_run_lines.specs.AreasKept.{KeepsAreas}
use Rattle.pgs_run_lines.specs.Ending.{faults_of}
use Rattle.pgs_run_lines.specs.Pieces.{shown_of, ShowsAll}
use Rattle.pgs_run_lines.proofs.putting.put_pieces.Given as goal

abbrev pub invariant-loop-piece : goal.invariant-loop-piece
invariant-loop-piece g l = record {
  shows : ShowsAll (shown_of (g.W.World.view l.fn.world)) (take l.piece-index l.pieces) (shown_of (g.W.World.view l.world));
  areas : KeepsAreas (g.W.World.view l.fn.world) (g.W.World.view l.world);
  faults : faults_of 0 (g.W.World.view l.world) ≡ faults_of 0 (g.W.World.view l.fn.world);
}
