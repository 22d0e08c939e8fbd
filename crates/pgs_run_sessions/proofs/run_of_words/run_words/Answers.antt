use Rattle.std.proofs.Common.{Bool, [], refl, sym, subst, ◌∙◌}
use Rattle.pgs_answer.specs.Lines.{words_refused_line}
use Rattle.pgs_run_lines.specs.Calls.{MakesReads}
use Rattle.pgs_command.specs.Promise.{Promise}
use Rattle.pgs_command.specs.Setting.{setting_of}
use Rattle.pgs_command.specs.Words.{refused_words}
use Rattle.pgs_command.proofs.OwnEnds.{fails_alone}
use Rattle.pgs_command.proofs.Unread.{unread_status, reads_nothing}
use Rattle.pgs_run_sessions.specs.InputMachine.{input_machine, stand_of}
use Rattle.pgs_run_sessions.specs.Spec.{spec_where}
use Rattle.pgs_run_sessions.proofs.Promised.{alone, promised}
use Rattle.pgs_run_sessions.proofs.run_of_words.run_words.Goals as goal

pub returns-then-not-asks_run-clause-promise : goal.returns-then-not-asks_run-clause-promise
returns-then-not-asks_run-clause-promise g c = λ places.
    let at = setting_of (g.S.Source.left c.args.source.now) (g.S.Source.faults c.args.source.now) in
    subst (λ (runs : Bool). Promise (spec_where runs) c.args.budget (at (g.W.World.view c.args.world.now) places) (at (g.W.World.view c.refuse_words.new.world) places) c.refuse_words.result)
    (sym (sym c.asks_run.ensures ∙ c.if-not-asks_run.true))
    (c.refuse_words.ensures.promise words_refused_line c.words_refused_line.ensures c.args.budget (record { left = g.S.Source.left c.args.source.now; faults = g.S.Source.faults c.args.source.now }) places)

pub returns-then-not-asks_run-clause-calls : goal.returns-then-not-asks_run-clause-calls
returns-then-not-asks_run-clause-calls g c =
    let kept = c.refuse_words.ensures.promise words_refused_line c.words_refused_line.ensures c.args.budget (record { left = g.S.Source.left c.args.source.now; faults = 0 }) [] in
    let spec = refused_words words_refused_line in
    reads_nothing g.S.Source.read_made c.args.budget c.args.source.now _ (unread_status spec.reads_source spec.uses_areas _ _ c.refuse_words.result refl kept.cause)

pub returns-clause-promise : goal.returns-clause-promise
returns-clause-promise g c = λ places.
    let stop = c.run_lines-stop in
    let old = setting_of (g.S.Source.left c.args.source.now) (g.S.Source.faults c.args.source.now) (g.W.World.view c.args.world.now) places in
    let new = setting_of (g.S.Source.left c.run_lines-stop.new.source) (g.S.Source.faults c.run_lines-stop.new.source) (g.W.World.view c.run_lines-stop.new.world) places in
    subst (λ (runs : Bool). Promise (spec_where runs) c.args.budget
    (setting_of (g.S.Source.left c.args.source.now) (g.S.Source.faults c.args.source.now) (g.W.World.view c.args.world.now) places)
    (setting_of (g.S.Source.left c.run_lines-stop.new.source) (g.S.Source.faults c.run_lines-stop.new.source) (g.W.World.view c.run_lines-stop.new.world) places) c.status_at.result)
    (sym (sym c.asks_run.ensures ∙ c.if-not-asks_run.false))
    (promised c.args.budget old new (stand_of c.new-teller.result.part) stop.result c.status_at.result
    c.new-teller.ensures c.status_at.ensures stop.ensures.ends stop.ensures.by stop.ensures.may stop.ensures.cause stop.ensures.allows.allowed refl)

pub returns-clause-last : goal.returns-clause-last
returns-clause-last g c = λ fails.
    c.run_lines-stop.ensures.last (sym (fails_alone input_machine alone c.args.budget _ _ c.run_lines-stop.result c.status_at.result c.status_at.ensures c.run_lines-stop.ensures.by).1 ∙ fails)

pub returns-clause-calls : goal.returns-clause-calls
returns-clause-calls g c =
    subst (λ (fails : Bool). MakesReads g.S.Source.read_made c.args.budget c.args.source.now fails c.run_lines-stop.new.source)
    (sym (fails_alone input_machine alone c.args.budget _ _ c.run_lines-stop.result c.status_at.result c.status_at.ensures c.run_lines-stop.ensures.by).0) c.run_lines-stop.ensures.calls
