use Rattle.std.proofs.Common.{◌≡◌, ◌∙◌, ◌∷◌, [], Result, ap, sym, subst}
use Rattle.pgs_command.specs.declared.status.Status.{Status}
use Rattle.pgs_run_lines.specs.declared.stop.Stop.{Stop}
use Rattle.pgs_run_lines.specs.Machine.{extent_of}
use Rattle.pgs_run_check_try.specs.declared.explaining.Explaining.{Explaining}
use Rattle.pgs_run_check_try.specs.Explaining.{after_end}
use Rattle.pgs_run_check_try.specs.Rule.{Explains}
use Rattle.pgs_run_check_try.specs.Telling.{TellsEnd}
use Rattle.pgs_run_check_try.proofs.Spoken.{may_put, spoken, spoken_exit, unspoken_exit}
use Rattle.pgs_run_check_try.proofs.Stepped.{room_result}
use Rattle.pgs_run_check_try.proofs.explaining.ExplainingLineTaker.end_line.Goals.{in-Schema, in-Schema-2}
use Rattle.pgs_run_check_try.proofs.explaining.ExplainingLineTaker.end_line.Goals as goal

pub returns-in_err-lines-clause-allows : goal.returns-in_err-lines-clause-allows
returns-in_err-lines-clause-allows g c =
    unspoken_exit c.args.self.now.phase c.args.line.now (g.W.World.view c.args.world.now) (g.met.W.World.timed c.args.world.now) c.from_residual.result c.from_residual.ensures.1

pub returns-in_err-put_pieces-clause-allows : goal.returns-in_err-put_pieces-clause-allows
returns-in_err-put_pieces-clause-allows g c =
    let s = c.args.self.now.phase in
    let line = c.args.line.now in
    let stop = c.in_err-put_pieces.field-0.0 in
    spoken_exit s line (g.W.World.view c.args.world.now) (g.W.World.view c.put_pieces.new.world) c.put_pieces.ensures.areas c.deref.result.now (subst (TellsEnd s line) (sym c.deref.ensures.value) c.in_ok-lines.ensures.lines)
    c.from_residual-in_err-put_pieces.result stop c.from_residual-in_err-put_pieces.ensures.1 (may_put stop c.in_err-put_pieces.ensures.fault) c.in_err-put_pieces.ensures.shows

pub returns-clause-room : goal.returns-clause-room
returns-clause-room g c =
    let phase : c.match-self.self.phase ≡ after_end c.args.self.now.phase c.args.line.now =
    elim c.match-self.branch [ in-Schema w ↦ ap (λ (it : Explaining). it.phase) w.self-is ∙ c.in_ok-lines.ensures.phase | in-Schema-2 w ↦ ap (λ (it : Explaining). it.phase) w.self-is ∙ c.in_ok-lines.ensures.phase ] in
    room_result c.match-self.result c.args.self.now.phase c.match-self.self.phase c.args.line.now phase

pub returns-clause-allows : goal.returns-clause-allows
returns-clause-allows g c =
    let s = c.args.self.now.phase in
    let line = c.args.line.now in
    let old = g.W.World.view c.args.world.now in
    let new = g.W.World.view c.put_pieces.new.world in
    let done = spoken s line old new c.put_pieces.ensures.areas c.deref.result.now (subst (TellsEnd s line) (sym c.deref.ensures.value) c.in_ok-lines.ensures.lines) c.in_ok-put_pieces.ensures.shows in
    let so = λ (result : Result (Unit {0}) (Stop Status)). Explains s (line ∷ []) (extent_of result) old new in
    elim c.match-self.branch [ in-Schema w ↦ subst so (sym w.result-is) done | in-Schema-2 w ↦ subst so (sym w.result-is) done ]
