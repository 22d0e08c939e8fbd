use Rattle.std.proofs.Common.{◌≡◌, ◌∙◌, Bool, true, false, true≢false, refl, sym, subst}
use Rattle.pgs_run_lines.specs.Calls.{MakesReads}
use Rattle.pgs_run_lines.specs.Ending.{faults_of}
use Rattle.pgs_command.specs.Calls.{fails_world}
use Rattle.pgs_command.specs.Setting.{setting_of}
use Rattle.pgs_command.specs.declared.status.Status.{Status}
use Rattle.pgs_command.proofs.Unread.{unread_status}
use Rattle.pgs_run_input.specs.Text.{state_of}
use Rattle.pgs_run_input.proofs.WholeInput.{by_unread}
use Rattle.pgs_run_renewal.specs.LoadLeaving.{LoadsText}
use Rattle.pgs_run_renewal.proofs.LoadPromised.{promised_none, promised_text}
use Rattle.pgs_run_renewal.proofs.load_run.run_load.Goals as goal

pub returns-in-Ok-clause-promise : goal.returns-in-Ok-clause-promise
returns-in-Ok-clause-promise g c = λ places.
    let old = g.W.World.view c.args.world.now in
    let new = g.W.World.view c.load_text.new.world in
    promised_text c.args.budget (setting_of (g.S.Source.left c.args.source.now) (g.S.Source.faults c.args.source.now) old places)
    (setting_of (g.S.Source.left c.read_text.new.source) (g.S.Source.faults c.read_text.new.source) new places) c.load_text.result refl c.in-Ok.text.bytes c.in-Ok.ensures.whole
    (subst (λ text. LoadsText text old new c.load_text.result) c.as_slice.ensures.bytes c.load_text.ensures.answer)

pub returns-in-Err-clause-promise : goal.returns-in-Err-clause-promise
returns-in-Err-clause-promise g c = λ places.
    promised_none c.args.budget (setting_of (g.S.Source.left c.args.source.now) (g.S.Source.faults c.args.source.now) (g.W.World.view c.args.world.now) places)
    (state_of (g.S.Source.left c.read_text.new.source) (g.S.Source.faults c.read_text.new.source)) c.in-Err.status (g.met.W.World.timed c.args.world.now) c.in-Err.ensures.unread

pub returns-in-Ok-clause-calls : goal.returns-in-Ok-clause-calls
returns-in-Ok-clause-calls g c =
    let old = g.W.World.view c.args.world.now in
    subst (λ (fails : Bool). MakesReads g.S.Source.read_made c.args.budget c.args.source.now fails c.read_text.new.source)
    (sym (unread_status false true (faults_of 0 old) (faults_of 0 (g.W.World.view c.load_text.new.world)) c.load_text.result refl (c.load_text.ensures.answer.answers.cause false 0))) (rw c.in-Ok.is at c.read_text.ensures.calls)

pub returns-in-Err-clause-last : goal.returns-in-Err-clause-last
returns-in-Err-clause-last g c = λ fails.
    absurd (true≢false (sym fails ∙ by_unread (λ (s : Status). fails_world s ≡ false) c.args.budget _ _ c.in-Err.status refl refl refl c.in-Err.ensures.unread))
