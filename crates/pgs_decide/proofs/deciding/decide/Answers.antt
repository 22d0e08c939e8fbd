use Rattle.std.proofs.Common.{◌*◌, length, ap, arith}
use Rattle.std.proofs.lemmas.Result.{err_from_is_err_and}
use Rattle.pgs_violation.specs.Violations.{verdict}
use Rattle.pgs_decide.specs.Touched.{guarding_count, staged_after, touched_by}
use Rattle.pgs_decide.proofs.Degrees.{staging_low}
use Rattle.pgs_decide.proofs.Parts.{delta_sparse, whole_cost}
use Rattle.pgs_decide.proofs.Summed.{staged_only}
use Rattle.pgs_decide.proofs.deciding.decide.Goals as goal

pub returns-in_err-delta-clause-rejected : goal.returns-in_err-delta-clause-rejected
returns-in_err-delta-clause-rejected g c =
    let p = err_from_is_err_and c.from_residual.result c.from_residual.ensures.1 in rw (p.1, p.2) (c.in_err-delta.ensures.rejected (verdict c.args.compiled.now))

pub returns-in_err-delta-clause-cost : goal.returns-in_err-delta-clause-cost
returns-in_err-delta-clause-cost g c = λ edges most few sparse.
    let graph = c.args.graph.now.graph in
    let txn = c.args.txn.now in
    staged_only most edges (guarding_count c.args.compiled.now) (length txn.ops) (length (touched_by graph txn.ops)) c.args.steps.now c.staged_delta.new.steps
    (c.staged_delta.ensures.cost most (staging_low graph (staged_after c.args.limits.now graph txn) (2 * edges) most txn.ops sparse))

pub returns-in_err-changes-clause-cost : goal.returns-in_err-changes-clause-cost
returns-in_err-changes-clause-cost g c = λ edges most few sparse.
    let graph = c.args.graph.now.graph in
    let txn = c.args.txn.now in
    let limits = c.args.limits.now in
    let delta = c.in_ok-delta.delta in
    let only = c.in_ok-delta.ensures.lists_only in
    let same = ap length c.requires.keys in
    whole_cost limits graph txn delta only c.count-count.ensures.graph c.in_ok-delta.ensures.sound most edges (guarding_count c.args.compiled.now) (length c.args.keys.now) (omega arith)
    c.args.steps.now c.staged_delta.new.steps c.checked_changes.new.steps
    (c.staged_delta.ensures.cost most (staging_low graph (staged_after limits graph txn) (2 * edges) most txn.ops sparse))
    (c.checked_changes.ensures.cost edges most few (delta_sparse limits graph txn delta only c.in_ok-delta.ensures.staged (2 * edges) most sparse))

pub returns-clause-cost : goal.returns-clause-cost
returns-clause-cost g c = λ edges most few sparse.
    let graph = c.args.graph.now.graph in
    let txn = c.args.txn.now in
    let limits = c.args.limits.now in
    let delta = c.in_ok-delta.delta in
    let only = c.in_ok-delta.ensures.lists_only in
    let same = ap length c.requires.keys in
    whole_cost limits graph txn delta only c.count-count.ensures.graph c.in_ok-delta.ensures.sound most edges (guarding_count c.args.compiled.now) (length c.args.keys.now) (omega arith)
    c.args.steps.now c.staged_delta.new.steps c.checked_changes.new.steps
    (c.staged_delta.ensures.cost most (staging_low graph (staged_after limits graph txn) (2 * edges) most txn.ops sparse))
    (c.checked_changes.ensures.cost edges most few (delta_sparse limits graph txn delta only c.in_ok-delta.ensures.staged (2 * edges) most sparse))
