use Rattle.std.proofs.Common.{◌∙◌, sym, arith}
use Rattle.pgs_world_files.specs.FeedFaults.FailsToLook.{at_found, at_name, at_read, at_end}
use Rattle.pgs_world_files.proofs.Faults.{if_err}
use Rattle.pgs_world_files.proofs.FeedFaults.{looks}
use Rattle.pgs_world_files.proofs.feed_opening.end_of.Goals as goal

pub returns-in_err-this-clause-fault : goal.returns-in_err-this-clause-fault
returns-in_err-this-clause-fault g c =
    if_err _ c.from_residual.result c.from_residual.ensures.1 (λ made is. looks g.S.System.facts c.args.name.now made (at_found c.in_err-this.ensures))

pub returns-in_err-now-clause-fault : goal.returns-in_err-now-clause-fault
returns-in_err-now-clause-fault g c =
    if_err _ c.from_residual-in_err-now.result c.from_residual-in_err-now.ensures.1 (λ made is. looks g.S.System.facts c.args.name.now made (at_found c.in_err-now.ensures))

pub returns-then-not-is_same-clause-fault : goal.returns-then-not-is_same-clause-fault
returns-then-not-is_same-clause-fault g c = at_name c.in_ok-this.ensures c.in_ok-now.ensures (sym c.is_same.ensures ∙ c.if-not-is_same.true)

pub returns-in_err-count-clause-fault : goal.returns-in_err-count-clause-fault
returns-in_err-count-clause-fault g c =
    if_err _ c.from_residual-in_err-count.result c.from_residual-in_err-count.ensures.1 (λ made is. looks g.S.System.facts c.args.name.now made (at_read c.in_err-count.ensures.gives))

pub returns-then-count-len-clause-fault : goal.returns-then-count-len-clause-fault
returns-then-count-len-clause-fault g c = at_end c.in_ok-count.ensures.gives (grind arith)
