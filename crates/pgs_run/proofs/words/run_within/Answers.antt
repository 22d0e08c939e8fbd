use Rattle.std.proofs.Common.{[], inl, inr, ap, refl, sym, ◌∙◌}
use Rattle.pgs_answer.specs.Lines.{words_refused_line}
use Rattle.pgs_command.specs.Setting.{SourceState}
use Rattle.pgs_command.specs.Words.{refused_words}
use Rattle.pgs_command.proofs.Promising.{unbegun}
use Rattle.pgs_command.proofs.Unread.{reads_nothing}
use Rattle.pgs_run.specs.Commands.{spec_named}
use Rattle.pgs_run.proofs.Named.{gives_as, promise_as, calls_of}
use Rattle.pgs_run.proofs.words.run_within.Goals as goal

pub returns-in-Ok-Some-clause-promise : goal.returns-in-Ok-Some-clause-promise
returns-in-Ok-Some-clause-promise g c =
    inr (promise_as _ _ c.args.budget _ _ c.run_command.result (ap spec_named (sym c.in-Ok-Some.ensures ∙ c.in-Ok-Some.field-0-is)) c.run_command.ensures.promise)

pub returns-in-Ok-None-clause-promise : goal.returns-in-Ok-None-clause-promise
returns-in-Ok-None-clause-promise g c =
    let source : SourceState = record { left = g.S.Source.left c.args.source.now; faults = g.S.Source.faults c.args.source.now } in
    inr (promise_as _ _ c.args.budget _ _ c.refuse_words.result (ap spec_named (sym c.in-Ok-None.ensures ∙ c.in-Ok-None.field-0-is))
    (c.refuse_words.ensures.promise words_refused_line c.words_refused_line.ensures c.args.budget source (g.L.Feeds.places c.args.feeds.now)))

pub returns-in-Err-clause-promise : goal.returns-in-Err-clause-promise
returns-in-Err-clause-promise g c = inl (unbegun _ (g.met.W.World.timed c.args.world.now))

pub returns-in-Ok-None-clause-calls : goal.returns-in-Ok-None-clause-calls
returns-in-Ok-None-clause-calls g c =
    calls_of g.S.Source.read_made c.args.source.now (refused_words words_refused_line) c.args.budget _ _ c.refuse_words.result refl
    (c.refuse_words.ensures.promise words_refused_line c.words_refused_line.ensures)

pub returns-in-Err-clause-calls : goal.returns-in-Err-clause-calls
returns-in-Err-clause-calls g c = reads_nothing g.S.Source.read_made c.args.budget c.args.source.now _ refl

pub returns-in-Ok-Some-clause-gives : goal.returns-in-Ok-Some-clause-gives
returns-in-Ok-Some-clause-gives g c =
    inr (gives_as _ _ _ _ _ c.args.feeds.now _ c.run_command.result (ap spec_named (sym c.in-Ok-Some.ensures ∙ c.in-Ok-Some.field-0-is)) c.run_command.ensures.gives)

pub returns-in-Ok-None-clause-gives : goal.returns-in-Ok-None-clause-gives
returns-in-Ok-None-clause-gives g c =
    inr (gives_as _ _ _ _ _ c.args.feeds.now c.args.feeds.now c.refuse_words.result (ap spec_named (sym c.in-Ok-None.ensures ∙ c.in-Ok-None.field-0-is)) (record { deliveries = []; right = refl; made = refl }))

pub returns-in-Err-clause-gives : goal.returns-in-Err-clause-gives
returns-in-Err-clause-gives g c = inl (refl, refl)
