use Rattle.std.proofs.Common.{◌∷◌, [], ℕ, List, inl, inr, refl, subst}
use Rattle.pgs_run_lines.specs.Ending.{Shows}
use Rattle.pgs_run_lines.specs.Pieces.{shown_of, ShowsAll}
use Rattle.pgs_world.specs.Disk.{PutsFront}
use Rattle.pgs_world.specs.Moment.{StopsBy}
use Rattle.pgs_run_lines.proofs.reply.put_reply.Goals as goal

pub returns-in-Ok-clause-ends : goal.returns-in-Ok-clause-ends
returns-in-Ok-clause-ends g c =
    let old = g.W.World.view c.args.world.now in
    let new = g.W.World.view c.put_piece.new.world in
    inl (refl, subst (λ (line : List ℕ). ShowsAll (shown_of old) (line ∷ []) (shown_of new)) c.as_slice.ensures c.in-Ok.ensures.shows, c.in-Ok.ensures.cause)

pub returns-in-Ok-clause-stops : goal.returns-in-Ok-clause-stops
returns-in-Ok-clause-stops g c =
    subst (λ (line : List ℕ). StopsBy (PutsFront line) (g.W.World.view c.args.world.now) (g.W.World.view c.put_piece.new.world)) c.as_slice.ensures c.put_piece.ensures.stops

pub returns-in-Err-clause-ends : goal.returns-in-Err-clause-ends
returns-in-Err-clause-ends g c =
    let old = g.W.World.view c.args.world.now in
    let new = g.W.World.view c.put_piece.new.world in
    let is = c.in-Err.ensures.fault in
    let shows = subst (λ (line : List ℕ). Shows (shown_of old) (line ∷ []) c.in-Err.field-0 (shown_of new)) c.as_slice.ensures c.in-Err.ensures.shows in
    inr (
      c.put_fault.ensures,
      rw is at shows,
      rw is at c.in-Err.ensures.cause,
    )

pub returns-in-Err-clause-stops : goal.returns-in-Err-clause-stops
returns-in-Err-clause-stops g c =
    subst (λ (line : List ℕ). StopsBy (PutsFront line) (g.W.World.view c.args.world.now) (g.W.World.view c.put_piece.new.world)) c.as_slice.ensures c.put_piece.ensures.stops
