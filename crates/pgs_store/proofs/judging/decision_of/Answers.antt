use Rattle.std.proofs.Common.{rules, ◌≡◌, ◌+◌, ◌*◌, ◌^◌, ◌<◌, ◌≤◌, true, IfOk, IfErr, Ok, length, sym, ◌∙◌, ap, subst}
use Rattle.pgs_check.specs.Standing.{index_changed}
use Rattle.pgs_decide.specs.declared.deciding.Decided.{Decided}
use Rattle.pgs_decide.specs.Refused.{IsRejected}
use Rattle.pgs_decide.specs.Touched.{guarding_count, touched_by}
use Rattle.pgs_graph.specs.Changed.{changed}
use Rattle.pgs_keyindex.specs.Standing.{StandsFor}
use Rattle.pgs_syntax.specs.declared.resolved.Resolved.{Resolved}
use Rattle.pgs_violation.specs.Decision.{decide}
use Rattle.pgs_violation.specs.Violations.{conforms, verdict}
use Rattle.pgs_store.proofs.Decided.{by_verdict, each_guarded, each_sized}
use Rattle.pgs_store.proofs.judging.decision_of.Goals as goal

pub decide-requires-clause-conforms : goal.decide-requires-clause-conforms
decide-requires-clause-conforms g c =
    subst (λ (r : Resolved). conforms r c.args.graph.now.graph ≡ true) (sym c.compiled.ensures.schema) (by_verdict c.args.schema.now.resolved c.args.graph.now.graph c.requires.guarded.conforms)

pub decide-requires-clause-index : goal.decide-requires-clause-index
decide-requires-clause-index g c =
    subst (λ (r : Resolved). StandsFor r c.args.graph.now.graph r.guard.keys c.args.index.now) (sym c.compiled.ensures.schema) c.requires.stands

pub decide-requires-clause-keys : goal.decide-requires-clause-keys
decide-requires-clause-keys g c = c.keys.ensures ∙ ap (λ (r : Resolved). r.guard.keys) (sym c.compiled.ensures.schema)

pub returns-clause-guarded : goal.returns-clause-guarded
returns-clause-guarded g c =
    let limits = c.args.limits.now in
    let graph = c.args.graph.now.graph in
    let txn = c.args.txn.now in
    each_guarded c.args.schema.now.resolved limits graph txn c.decide.result c.requires.guarded.small
    (subst (λ (r : Resolved). IfOk c.decide.result (λ (it : Decided). conforms r (changed graph it.delta) ≡ true)) c.compiled.ensures.schema c.decide.ensures.conforms)
    (subst (λ (r : Resolved). IfOk c.decide.result (λ (it : Decided). decide limits (verdict r) graph txn ≡ Ok (changed graph it.delta))) c.compiled.ensures.schema c.decide.ensures.accepted)

pub returns-clause-accepted : goal.returns-clause-accepted
returns-clause-accepted g c =
    subst (λ (r : Resolved). IfOk c.decide.result (λ (it : Decided). decide c.args.limits.now (verdict r) c.args.graph.now.graph c.args.txn.now ≡ Ok (changed c.args.graph.now.graph it.delta)))
    c.compiled.ensures.schema c.decide.ensures.accepted

pub returns-clause-rejected : goal.returns-clause-rejected
returns-clause-rejected g c =
    subst (λ (r : Resolved). IfErr c.decide.result (IsRejected (decide c.args.limits.now (verdict r) c.args.graph.now.graph c.args.txn.now))) c.compiled.ensures.schema c.decide.ensures.rejected

pub returns-clause-sized : goal.returns-clause-sized
returns-clause-sized g c =
    let limits = c.args.limits.now in
    let graph = c.args.graph.now.graph in
    let txn = c.args.txn.now in
    let few : limits.ops < 2 ^ 32 = search rules in
    each_sized c.args.schema.now.resolved limits graph txn c.decide.result few
    (subst (λ (r : Resolved). IfOk c.decide.result (λ (it : Decided). decide limits (verdict r) graph txn ≡ Ok (changed graph it.delta))) c.compiled.ensures.schema c.decide.ensures.accepted)

pub returns-clause-stands : goal.returns-clause-stands
returns-clause-stands g c =
    subst
    (λ (r : Resolved). IfOk c.decide.result
    (λ (it : Decided). StandsFor r (changed c.args.graph.now.graph it.delta) r.guard.keys (index_changed c.args.index.now it.changes)))
    c.compiled.ensures.schema c.decide.ensures.stands

pub returns-clause-cost : goal.returns-clause-cost
returns-clause-cost g c = λ edges most few sparse.
    let graph = c.args.graph.now.graph in
    let ops = c.args.txn.now.ops in
    subst
    (λ (r : Resolved). c.decide.new.steps
    ≤ c.args.steps.now + 4096 * (guarding_count r + 1) * (length ops + length (touched_by graph ops) + 1) * (most + 2) ^ (2 * edges + 2))
    c.compiled.ensures.schema (c.decide.ensures.cost edges most (rw c.keys.ensures few) sparse)
