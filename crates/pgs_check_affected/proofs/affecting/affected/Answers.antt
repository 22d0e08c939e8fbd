use Rattle.std.proofs.Common.{◌≤◌, ◌+◌, ◌*◌, length, sym, subst}
use Rattle.pgs_check_affected.proofs.Counting.{read_cost, affected_cost}
use Rattle.pgs_check_affected.proofs.affecting.affected.Goals as goal

pub returns-in_err-change-clause-cost : goal.returns-in_err-change-clause-cost
returns-in_err-change-clause-cost g c = λ edges most few sparse. read_cost c.args.old.now.graph _ most edges _ _ c.new.ensures.cost

pub returns-clause-holds : goal.returns-clause-holds
returns-clause-holds g c = rw (sym c.in_ok-change.ensures.before, sym c.in_ok-change.ensures.after) c.affected.ensures.holds

pub returns-clause-cost : goal.returns-clause-cost
returns-clause-cost g c =
    let change = c.in_ok-change.change in
    rw (sym c.in_ok-change.ensures.before, sym c.in_ok-change.ensures.after, sym c.in_ok-change.ensures.elems)
    (λ edges most few sparse.
    affected_cost change.before change.elems most edges c.args.steps.now c.new.new.steps c.affected.new.steps
    (subst (λ elems. c.new.new.steps ≤ c.args.steps.now + 2 * length elems) (sym c.in_ok-change.ensures.elems) c.new.ensures.cost)
    (c.affected.ensures.cost edges most few sparse))

pub returns-clause-few : goal.returns-clause-few
returns-clause-few g c =
    rw (sym c.in_ok-change.ensures.before, sym c.in_ok-change.ensures.after, sym c.in_ok-change.ensures.elems) (λ edges most few sparse. c.affected.ensures.few edges most few sparse)

pub returns-clause-near : goal.returns-clause-near
returns-clause-near g c =
    rw (sym c.in_ok-change.ensures.before, sym c.in_ok-change.ensures.after, sym c.in_ok-change.ensures.elems) (λ edges most few sparse. c.affected.ensures.near edges most few sparse)
