use Rattle.std.proofs.Common.{Option, [], sym, subst, refl, ◌∙◌}
use Rattle.pgs_answer.specs.Lines.{words_refused_line}
use Rattle.pgs_command.specs.Promise.{Promise}
use Rattle.pgs_command.specs.Setting.{setting_of}
use Rattle.pgs_command.specs.Words.{refused_words}
use Rattle.pgs_command.proofs.Unread.{reads_nothing, unread_status}
use Rattle.pgs_run_check.specs.Commands.{spec_named}
use Rattle.pgs_run_check.specs.declared.command.CheckCommand.{CheckCommand}
use Rattle.pgs_run_check.proofs.run.run_check_within.Goals as goal

pub returns-in-Some-clause-promise : goal.returns-in-Some-clause-promise
returns-in-Some-clause-promise g c = λ places.
    subst (λ (named : Option CheckCommand). Promise (spec_named named) c.args.budget
    (setting_of (g.S.Source.left c.args.source.now) (g.S.Source.faults c.args.source.now) (g.W.World.view c.args.world.now) places)
    (setting_of (g.S.Source.left c.run_command.new.source) (g.S.Source.faults c.run_command.new.source) (g.W.World.view c.run_command.new.world) places) c.run_command.result)
    (sym c.in-Some.is ∙ c.command_of.ensures) (c.run_command.ensures.promise places)

pub returns-in-None-clause-promise : goal.returns-in-None-clause-promise
returns-in-None-clause-promise g c = λ places.
    let at = setting_of (g.S.Source.left c.args.source.now) (g.S.Source.faults c.args.source.now) in
    subst (λ (named : Option CheckCommand). Promise (spec_named named) c.args.budget (at (g.W.World.view c.args.world.now) places) (at (g.W.World.view c.refuse_words.new.world) places) c.refuse_words.result)
    (sym c.in-None.is ∙ c.command_of.ensures)
    (c.refuse_words.ensures.promise words_refused_line c.words_refused_line.ensures c.args.budget (record { left = g.S.Source.left c.args.source.now; faults = g.S.Source.faults c.args.source.now }) places)

pub returns-in-None-clause-calls : goal.returns-in-None-clause-calls
returns-in-None-clause-calls g c =
    let kept = c.refuse_words.ensures.promise words_refused_line c.words_refused_line.ensures c.args.budget (record { left = g.S.Source.left c.args.source.now; faults = 0 }) [] in
    let spec = refused_words words_refused_line in
    reads_nothing g.S.Source.read_made c.args.budget c.args.source.now _ (unread_status spec.reads_source spec.uses_areas _ _ c.refuse_words.result refl kept.cause)
