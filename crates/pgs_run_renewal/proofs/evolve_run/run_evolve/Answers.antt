use Rattle.std.proofs.Common.{◌≡◌, ◌∙◌, Bool, true, false, true≢false, refl, sym, ap, subst}
use Rattle.pgs_run_lines.specs.Calls.{MakesReads}
use Rattle.pgs_run_lines.specs.Ending.{faults_of}
use Rattle.pgs_command.specs.declared.status.Status.{Status}
use Rattle.pgs_command.specs.Calls.{fails_world}
use Rattle.pgs_command.specs.Setting.{setting_of}
use Rattle.pgs_command.proofs.Unread.{reads_nothing, unread_status}
use Rattle.pgs_run_input.specs.Text.{state_of}
use Rattle.pgs_run_input.proofs.OneLine.{silent_quiet}
use Rattle.pgs_run_input.proofs.WholeInput.{by_unread}
use Rattle.pgs_run_store.proofs.Unread.{RunsUnopened, last_unopened, unopened_unread}
use Rattle.pgs_run_renewal.specs.EvolveLeaving.{EvolvesText}
use Rattle.pgs_run_renewal.specs.EvolveTold.{told_new}
use Rattle.pgs_run_renewal.proofs.EvolvePromised.{evolvable, promised_none, promised_text, promised_unopened}
use Rattle.pgs_run_renewal.proofs.evolve_run.run_evolve.Goals as goal

-- ---- a store was opened

pub evolve_text-requires : goal.evolve_text-requires
evolve_text-requires g c = evolvable c.in-Ok.store (g.W.World.view c.args.world.now) (g.W.World.view c.open_store.new.world) c.in-Ok.ensures.answer

pub returns-in-Ok-read_text-clause-promise : goal.returns-in-Ok-read_text-clause-promise
returns-in-Ok-read_text-clause-promise g c = λ places.
    let it = c.in-Ok.store in
    let old = g.W.World.view c.args.world.now in
    let mid = g.W.World.view c.open_store.new.world in
    let new = g.W.World.view c.evolve_text.new.world in
    let quiet = c.open_store.ensures.quiet in
    promised_text it c.args.budget (setting_of (g.S.Source.left c.args.source.now) (g.S.Source.faults c.args.source.now) old places) mid
    (record { opened = c.in-Ok.ensures.answer; timed = g.met.W.World.timed c.args.world.now; quiet = quiet; silent = silent_quiet old mid quiet c.open_store.ensures.no_put c.in-Ok.ensures.faults })
    (state_of (g.S.Source.left c.read_text.new.source) (g.S.Source.faults c.read_text.new.source)) new c.evolve_text.result c.in-Ok-read_text.text.bytes c.in-Ok-read_text.ensures.whole
    (subst (λ text. EvolvesText (told_new it.journal.next text it.guard.graph) text mid new c.evolve_text.result) c.as_slice.ensures.bytes c.evolve_text.ensures.answer)

pub returns-clause-promise : goal.returns-clause-promise
returns-clause-promise g c = λ places.
    let old = g.W.World.view c.args.world.now in
    let mid = g.W.World.view c.open_store.new.world in
    let quiet = c.open_store.ensures.quiet in
    promised_none c.in-Ok.store c.args.budget (setting_of (g.S.Source.left c.args.source.now) (g.S.Source.faults c.args.source.now) old places) mid
    (record { opened = c.in-Ok.ensures.answer; timed = g.met.W.World.timed c.args.world.now; quiet = quiet; silent = silent_quiet old mid quiet c.open_store.ensures.no_put c.in-Ok.ensures.faults })
    (state_of (g.S.Source.left c.read_text.new.source) (g.S.Source.faults c.read_text.new.source)) c.in-Err-read_text.status c.in-Err-read_text.ensures.unread

pub returns-in-Ok-read_text-clause-calls : goal.returns-in-Ok-read_text-clause-calls
returns-in-Ok-read_text-clause-calls g c =
    subst (λ (fails : Bool). MakesReads g.S.Source.read_made c.args.budget c.args.source.now fails c.read_text.new.source)
    (sym (unread_status false true (faults_of 0 (g.W.World.view c.open_store.new.world)) (faults_of 0 (g.W.World.view c.evolve_text.new.world)) c.evolve_text.result refl (c.evolve_text.ensures.answer.answers.cause false 0)))
    (rw c.in-Ok-read_text.is at c.read_text.ensures.calls)

pub returns-clause-last : goal.returns-clause-last
returns-clause-last g c = λ fails.
    absurd (true≢false (sym fails ∙ by_unread (λ (s : Status). fails_world s ≡ false) c.args.budget _ _ c.in-Err-read_text.status refl refl refl c.in-Err-read_text.ensures.unread))

-- ---- none was

pub returns-in-Err-clause-promise : goal.returns-in-Err-clause-promise
returns-in-Err-clause-promise g c = λ places.
    let view = g.W.World.view in
    let old = view c.args.world.now in
    let mid = view c.open_store.new.world in
    let new = view c.end_unopened.new.world in
    promised_unopened c.in-Err.unopened c.args.budget (setting_of (g.S.Source.left c.args.source.now) (g.S.Source.faults c.args.source.now) old places) mid new c.end_unopened.result (g.met.W.World.timed c.args.world.now)
    (record { opens = c.in-Err.ensures.answer; counts = c.in-Err.ensures.faults; quiet = c.open_store.ensures.quiet; no_put = c.open_store.ensures.no_put; ends = c.end_unopened.ensures.ends; areas = c.end_unopened.ensures.areas })
    (λ early. ap view (c.end_unopened.ensures.early early))

pub returns-in-Err-clause-last : goal.returns-in-Err-clause-last
returns-in-Err-clause-last g c =
    last_unopened g.W.World.failed c.open_store.new.world c.end_unopened.new.world _ _ _ c.in-Err.unopened c.end_unopened.result c.in-Err.ensures.answer c.end_unopened.ensures.ends c.end_unopened.ensures.last c.in-Err.ensures.last c.end_unopened.ensures.early

pub returns-in-Err-clause-calls : goal.returns-in-Err-clause-calls
returns-in-Err-clause-calls g c =
    let view = g.W.World.view in
    let ran : RunsUnopened c.in-Err.unopened (view c.args.world.now) (view c.open_store.new.world) (view c.end_unopened.new.world) c.end_unopened.result =
    record { opens = c.in-Err.ensures.answer; counts = c.in-Err.ensures.faults; quiet = c.open_store.ensures.quiet; no_put = c.open_store.ensures.no_put; ends = c.end_unopened.ensures.ends; areas = c.end_unopened.ensures.areas } in
    reads_nothing g.S.Source.read_made c.args.budget c.args.source.now _ (unopened_unread c.in-Err.unopened _ _ _ c.end_unopened.result ran)
