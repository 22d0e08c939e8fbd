use Rattle.std.proofs.Common.{◌≡◌, ◌+◌, ◌∙◌, Ok, refl, sym, ap, subst}
use Rattle.std.proofs.lemmas.Result.{err_from_is_err_and}
use Rattle.pgs_decide.specs.Refused.{IsRejected}
use Rattle.pgs_graph.specs.Changed.{changed}
use Rattle.pgs_store.specs.Applies.{decided}
use Rattle.pgs_store.specs.Costs.{IsWithin}
use Rattle.pgs_store.specs.State.{GuardState}
use Rattle.pgs_store.specs.Stored.{committed}
use Rattle.pgs_store.proofs.Exits.{same_guard}
use Rattle.pgs_store.proofs.Indexed.{done_indexed, still_indexed}
use Rattle.pgs_store.proofs.guard.Guard.apply.Goals as goal

-- ---- the decision refuses

pub returns-in_err-decided-clause-number : goal.returns-in_err-decided-clause-number
returns-in_err-decided-clause-number g c = let p = err_from_is_err_and c.from_residual.result c.from_residual.ensures.1 in rw p.1 tt

pub returns-in_err-decided-clause-accepted : goal.returns-in_err-decided-clause-accepted
returns-in_err-decided-clause-accepted g c = let p = err_from_is_err_and c.from_residual.result c.from_residual.ensures.1 in rw p.1 tt

pub returns-in_err-decided-clause-rejected : goal.returns-in_err-decided-clause-rejected
returns-in_err-decided-clause-rejected g c =
    let p = err_from_is_err_and c.from_residual.result c.from_residual.ensures.1 in
    rw (p.1, p.2) (subst (λ (s : GuardState). IsRejected (decided s c.args.txn.now) c.in_err-decided.field-0.0) c.self.view_is c.in_err-decided.ensures.rejected)

pub returns-in_err-decided-clause-kept : goal.returns-in_err-decided-clause-kept
returns-in_err-decided-clause-kept g c = let p = err_from_is_err_and c.from_residual.result c.from_residual.ensures.1 in rw p.1 tt

pub returns-in_err-decided-clause-unchanged : goal.returns-in_err-decided-clause-unchanged
returns-in_err-decided-clause-unchanged g c = let p = err_from_is_err_and c.from_residual.result c.from_residual.ensures.1 in rw p.1 refl

pub returns-in_err-decided-clause-cost : goal.returns-in_err-decided-clause-cost
returns-in_err-decided-clause-cost g c =
    subst (λ (s : GuardState). IsWithin s c.args.txn.now c.args.steps.now c.decision_of.new.steps) c.self.view_is c.decision_of.ensures.cost

-- ---- there is no memory to do it

pub returns-in_err-change-clause-number : goal.returns-in_err-change-clause-number
returns-in_err-change-clause-number g c = let p = err_from_is_err_and c.from_residual-in_err-change.result c.from_residual-in_err-change.ensures.1 in rw p.1 tt

pub returns-in_err-change-clause-accepted : goal.returns-in_err-change-clause-accepted
returns-in_err-change-clause-accepted g c = let p = err_from_is_err_and c.from_residual-in_err-change.result c.from_residual-in_err-change.ensures.1 in rw p.1 tt

pub returns-in_err-change-clause-rejected : goal.returns-in_err-change-clause-rejected
returns-in_err-change-clause-rejected g c =
    let p = err_from_is_err_and c.from_residual-in_err-change.result c.from_residual-in_err-change.ensures.1 in rw (p.1, p.2) tt

pub returns-in_err-change-clause-kept : goal.returns-in_err-change-clause-kept
returns-in_err-change-clause-kept g c = let p = err_from_is_err_and c.from_residual-in_err-change.result c.from_residual-in_err-change.ensures.1 in rw p.1 tt

pub returns-in_err-change-clause-unchanged : goal.returns-in_err-change-clause-unchanged
returns-in_err-change-clause-unchanged g c =
    let p = err_from_is_err_and c.from_residual-in_err-change.result c.from_residual-in_err-change.ensures.1 in
    let inside = c.self.inside in
    rw p.1
    (same_guard inside.schema.text inside.schema.resolved inside.limits inside.commits inside.seed inside.graph.graph c.change.new.tables.graph c.args.self.now c.in_err-change.ensures.same_graph c.self.view_is)

pub returns-in_err-change-clause-cost : goal.returns-in_err-change-clause-cost
returns-in_err-change-clause-cost g c =
    subst (λ (s : GuardState). IsWithin s c.args.txn.now c.args.steps.now c.decision_of.new.steps) c.self.view_is c.decision_of.ensures.cost

pub invariant_of-self : goal.invariant_of-self
invariant_of-self g c =
    let inside = c.self.inside in
    let kept = c.change.new in (
      still_indexed inside.schema.resolved inside.limits inside.graph.graph kept.tables.graph inside.index kept.index c.in_err-change.ensures.same_graph c.in_err-change.ensures.exclusive
          c.in_err-change.ensures.same_rows c.self.invariant.0,
      (c.in_err-change.ensures.seeds ∙ c.self.invariant.1.0, c.in_err-change.ensures.seed ∙ c.self.invariant.1.1),
    )

-- ---- it is done

pub returns-clause-number : goal.returns-clause-number
returns-clause-number g c = ap (λ (s : GuardState). s.commits + 1) c.self.view_is

pub returns-clause-accepted : goal.returns-clause-accepted
returns-clause-accepted g c =
    let graph = c.self.inside.graph.graph in
    subst (λ (s : GuardState). decided s c.args.txn.now ≡ Ok (changed graph c.in_ok-decided.decided.delta)) c.self.view_is c.in_ok-decided.ensures.accepted
    ∙ ap Ok (sym c.in_ok-change.ensures.graph)

pub returns-clause-kept : goal.returns-clause-kept
returns-clause-kept g c = ap (λ (s : GuardState). committed s c.change.new.tables.graph) c.self.view_is

pub returns-clause-cost : goal.returns-clause-cost
returns-clause-cost g c =
    subst (λ (s : GuardState). IsWithin s c.args.txn.now c.args.steps.now c.decision_of.new.steps) c.self.view_is c.decision_of.ensures.cost

pub invariant_of-self-2 : goal.invariant_of-self-2
invariant_of-self-2 g c =
    let inside = c.self.inside in
    let next = c.change.new in (
      done_indexed inside.schema.resolved inside.limits inside.graph.graph next.tables.graph inside.index next.index c.in_ok-decided.decided c.in_ok-change.ensures.graph
          c.in_ok-change.ensures.exclusive c.in_ok-change.ensures.rows c.in_ok-decided.ensures.guarded c.in_ok-decided.ensures.stands,
      (c.in_ok-change.ensures.seeds ∙ c.self.invariant.1.0, c.in_ok-change.ensures.seed ∙ c.self.invariant.1.1),
    )
