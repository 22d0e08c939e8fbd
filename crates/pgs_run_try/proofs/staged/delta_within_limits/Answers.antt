use Rattle.std.proofs.Common.{subst}
use Rattle.pgs_txn.specs.Answers.{IsRefusal}
use Rattle.pgs_violation.specs.Staging.{staged}
use Rattle.pgs_run_input.proofs.Standard.{standard_is}
use Rattle.pgs_run_try.proofs.Done.{done_accepted, undone_rejected}
use Rattle.pgs_run_try.proofs.staged.delta_within_limits.Goals as goal

pub returns-in-Ok-clause-accepted : goal.returns-in-Ok-clause-accepted
returns-in-Ok-clause-accepted c =
    done_accepted c.standard.result c.args.graph.now.graph _ c.args.txn.now (standard_is c.standard.result c.standard.ensures.ops c.standard.ensures.elements) c.in-Ok.ensures.staged

pub returns-in-Err-Refused-clause-rejected : goal.returns-in-Err-Refused-clause-rejected
returns-in-Err-Refused-clause-rejected c =
    undone_rejected c.standard.result c.args.graph.now.graph c.args.txn.now c.in-Err-Refused.structural (standard_is c.standard.result c.standard.ensures.ops c.standard.ensures.elements)
    (subst (λ fault. IsRefusal fault (staged c.standard.result c.args.graph.now.graph c.args.txn.now)) c.in-Err-Refused.field-0-is c.in-Err-Refused.ensures.refused)
