use Rattle.std.proofs.Common.{Bool, [], inl, inr, sym, subst, refl, ◌∙◌}
use Rattle.pgs_answer.specs.Lines.{words_refused_line}
use Rattle.pgs_command.specs.Promise.{Promise}
use Rattle.pgs_command.specs.Setting.{setting_of}
use Rattle.pgs_command.specs.Words.{refused_words}
use Rattle.pgs_command.proofs.Unread.{reads_nothing, unread_status}
use Rattle.pgs_run_follow.specs.Spec.{spec_where}
use Rattle.pgs_run_follow.proofs.run.run_words.Goals as goal

pub returns-then-is_follow-clause-promise : goal.returns-then-is_follow-clause-promise
returns-then-is_follow-clause-promise g c = λ places.
    subst (λ (follows : Bool). Promise (spec_where follows) c.args.budget
    (setting_of (g.S.Source.left c.args.source.now) (g.S.Source.faults c.args.source.now) (g.W.World.view c.args.world.now) places)
    (setting_of (g.S.Source.left c.follow.new.source) (g.S.Source.faults c.follow.new.source) (g.W.World.view c.follow.new.world) places) c.follow.result)
    (sym c.if-is_follow.true ∙ c.is_follow.ensures) (c.follow.ensures.promise places)

pub returns-then-is_follow-clause-answer : goal.returns-then-is_follow-clause-answer
returns-then-is_follow-clause-answer g c = inl (c.follow.ensures.promise []).ends

pub returns-else-is_follow-clause-promise : goal.returns-else-is_follow-clause-promise
returns-else-is_follow-clause-promise g c = λ places.
    let at = setting_of (g.S.Source.left c.args.source.now) (g.S.Source.faults c.args.source.now) in
    subst (λ (follows : Bool). Promise (spec_where follows) c.args.budget (at (g.W.World.view c.args.world.now) places) (at (g.W.World.view c.refuse_words.new.world) places) c.refuse_words.result)
    (sym c.if-is_follow.false ∙ c.is_follow.ensures)
    (c.refuse_words.ensures.promise words_refused_line c.words_refused_line.ensures c.args.budget (record { left = g.S.Source.left c.args.source.now; faults = g.S.Source.faults c.args.source.now }) places)

pub returns-else-is_follow-clause-answer : goal.returns-else-is_follow-clause-answer
returns-else-is_follow-clause-answer g c = inr (c.refuse_words.ensures.promise words_refused_line c.words_refused_line.ensures c.args.budget (record { left = g.S.Source.left c.args.source.now; faults = 0 }) []).ends

pub returns-else-is_follow-clause-calls : goal.returns-else-is_follow-clause-calls
returns-else-is_follow-clause-calls g c =
    let kept = c.refuse_words.ensures.promise words_refused_line c.words_refused_line.ensures c.args.budget (record { left = g.S.Source.left c.args.source.now; faults = 0 }) [] in
    let spec = refused_words words_refused_line in
    reads_nothing g.S.Source.read_made c.args.budget c.args.source.now _ (unread_status spec.reads_source spec.uses_areas _ _ c.refuse_words.result refl kept.cause)
