use Rattle.std.proofs.Common.{subst}
use Rattle.pgs_txn.specs.Answers.{IsRefusal}
use Rattle.pgs_violation.specs.Staging.{staged}
use Rattle.pgs_run_check_try.proofs.Decided.{causes_again, never_again}
use Rattle.pgs_run_check_try.proofs.causes.causes_behind.Goals as goal

pub returns-in-Ok : goal.returns-in-Ok
returns-in-Ok c =
    let guard = c.args.guard.now in
    causes_again c.standard.result guard.text guard.schema guard.graph c.graph.result.now.graph c.args.txn.now c.args.violation.now c.graph-in-Ok.result.now.graph c.in-Ok.delta
    c.changed_causes.result c.schema_text.result.now c.compiled.result.now c.standard.ensures.ops c.standard.ensures.elements c.graph.ensures.graph c.graph-in-Ok.ensures.graph c.schema_text.ensures.text c.compiled.ensures
    c.in-Ok.ensures.staged c.requires c.changed_causes.ensures

pub unreachable-requires : goal.unreachable-requires
unreachable-requires c =
    let guard = c.args.guard.now in
    never_again c.standard.result guard.text guard.schema guard.graph c.graph.result.now.graph c.args.txn.now c.args.violation.now _ c.standard.ensures.ops c.standard.ensures.elements c.graph.ensures.graph
    (subst (λ fault. IsRefusal fault (staged c.standard.result c.graph.result.now.graph c.args.txn.now)) c.in-Err-Refused.field-0-is c.in-Err-Refused.ensures.refused) c.requires
