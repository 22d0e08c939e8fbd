use Rattle.std.proofs.Common.{[], ◌∙◌, sym, subst}
use Rattle.pgs_run_check_try.specs.declared.phase.Phase.{Phase}
use Rattle.pgs_run_check_try.specs.Telling.{TellsEnd}
use Rattle.pgs_run_check_try.proofs.Stepped.{tells_nothing, tells_on}
use Rattle.pgs_run_check_try.proofs.explaining.Explaining.step.Goals as goal

pub returns-then-not-branch-clause-lines : goal.returns-then-not-branch-clause-lines
returns-then-not-branch-clause-lines c =
    subst (TellsEnd c.args.self.now.phase c.args.line.now) (sym c.new.ensures.items)
    (subst (λ (phase : Phase). TellsEnd phase c.args.line.now []) (sym c.in-Schema.is) (tells_on c.in-Schema.part c.args.line.now (sym c.in_ok-take_line-in-Schema.ensures.ends ∙ c.if-not-branch.true)))

pub returns-in-Refused-clause-lines : goal.returns-in-Refused-clause-lines
returns-in-Refused-clause-lines c =
    subst (TellsEnd c.args.self.now.phase c.args.line.now) (sym c.new-in-Refused.ensures.items)
    (subst (λ (phase : Phase). TellsEnd phase c.args.line.now []) (sym c.in-Refused.is) (tells_nothing c.args.line.now))
