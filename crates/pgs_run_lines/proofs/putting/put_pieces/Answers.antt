use Rattle.std.proofs.Common.{◌∷◌, ◌∙◌, [], subst, List, ℕ}
use Rattle.pgs_run_lines.specs.AreasKept.{keeps_on}
use Rattle.pgs_run_lines.specs.Ending.{Shows}
use Rattle.pgs_run_lines.specs.Pieces.{shown_of, ShowsAll}
use Rattle.pgs_run_lines.proofs.Showing.{pieces_on, pieces_stop}
use Rattle.pgs_run_lines.proofs.putting.put_pieces.Goals as goal

pub returns-in-Err-clause-shows : goal.returns-in-Err-clause-shows
returns-in-Err-clause-shows g c =
    let is = c.as_slice.ensures ∙ c.piece-item.is in
    pieces_stop (shown_of (g.W.World.view c.args.world.now)) (shown_of (g.W.World.view c.loop-piece.world)) _ c.args.pieces.now c.loop-piece.piece-index c.piece-item.result c.in-Err.stop c.loop-piece-test.true c.in-Err.ensures.fault c.loop-piece.invariant.shows
    (subst (λ (piece : List ℕ). Shows (shown_of (g.W.World.view c.loop-piece.world)) (piece ∷ []) c.in-Err.stop (shown_of (g.W.World.view c.put_piece.new.world))) is c.in-Err.ensures.shows)

pub returns-in-Err-clause-areas : goal.returns-in-Err-clause-areas
returns-in-Err-clause-areas g c = keeps_on _ (g.W.World.view c.loop-piece.world) _ c.loop-piece.invariant.areas c.put_piece.ensures.areas

pub loop-piece-preserved : goal.loop-piece-preserved
loop-piece-preserved g c = record {
  shows =
      let is = c.as_slice.ensures ∙ c.piece-item.is in
      pieces_on (shown_of (g.W.World.view c.args.world.now)) (shown_of (g.W.World.view c.loop-piece.world)) _ c.args.pieces.now c.loop-piece.piece-index c.piece-item.result c.loop-piece-test.true c.loop-piece.invariant.shows
      (subst (λ (piece : List ℕ). ShowsAll (shown_of (g.W.World.view c.loop-piece.world)) (piece ∷ []) (shown_of (g.W.World.view c.put_piece.new.world))) is c.in-Ok.ensures.shows);
  areas = keeps_on _ (g.W.World.view c.loop-piece.world) _ c.loop-piece.invariant.areas c.put_piece.ensures.areas;
  faults = c.in-Ok.ensures.cause ∙ c.loop-piece.invariant.faults;
}
