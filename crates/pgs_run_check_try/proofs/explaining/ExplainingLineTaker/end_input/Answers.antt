use Rattle.std.proofs.Common.{ap, sym, subst, ◌∙◌}
use Rattle.pgs_run_lines.specs.Pieces.{shown_of}
use Rattle.pgs_run_check_try.specs.Explaining.{after_end, after_part, status_of}
use Rattle.pgs_run_check_try.specs.Telling.{TellsLast}
use Rattle.pgs_run_check_try.proofs.Spoken.{ends_done, ends_stopped, may_put, spoken_last, unspoken_last}
use Rattle.pgs_run_check_try.proofs.explaining.ExplainingLineTaker.end_input.Goals as goal

pub returns-in-Err-clause-allows : goal.returns-in-Err-clause-allows
returns-in-Err-clause-allows g c = unspoken_last c.args.self.now.phase c.args.rest.now (g.W.World.view c.args.world.now) (g.met.W.World.timed c.args.world.now)

pub returns-in-Ok-put_pieces-clause-allows : goal.returns-in-Ok-put_pieces-clause-allows
returns-in-Ok-put_pieces-clause-allows g c =
    let s = c.args.self.now.phase in
    let rest = c.args.rest.now in
    let old = g.W.World.view c.args.world.now in
    let new = g.W.World.view c.put_pieces.new.world in
    let pieces = c.deref.result.now in
    spoken_last s rest old new c.put_pieces.ensures.areas pieces (subst (TellsLast s rest) (sym c.deref.ensures.value) c.in-Ok.ensures.lines) _ tt
    (ends_done pieces c.status.result (status_of (after_part (after_end s rest))) (shown_of old) (shown_of new) c.in-Ok-put_pieces.ensures.shows (c.status.ensures ∙ ap status_of c.in-Ok.ensures.phase))

pub returns-clause-allows : goal.returns-clause-allows
returns-clause-allows g c =
    let s = c.args.self.now.phase in
    let rest = c.args.rest.now in
    let old = g.W.World.view c.args.world.now in
    let new = g.W.World.view c.put_pieces.new.world in
    let pieces = c.deref.result.now in
    let stop = c.in-Err-put_pieces.stop in
    spoken_last s rest old new c.put_pieces.ensures.areas pieces (subst (TellsLast s rest) (sym c.deref.ensures.value) c.in-Ok.ensures.lines) stop (may_put stop c.in-Err-put_pieces.ensures.fault)
    (ends_stopped pieces stop (status_of (after_part (after_end s rest))) (shown_of old) (shown_of new) c.in-Err-put_pieces.ensures.fault c.in-Err-put_pieces.ensures.shows)
