-- Decisions where every graph conforms: those of staging.
use Rattle.std.proofs.Common.{◌≡◌, Bool, true, false, nat_lt, length, Result, Ok, Err, refl, subst}
use Rattle.pgs_base.specs.declared.limits.Limits.{Limits}
use Rattle.pgs_base.specs.Graph.{Graph, element_count}
use Rattle.pgs_graph.specs.declared.operation.Txn.{Txn}
use Rattle.pgs_violation.specs.declared.rejection.Rejection.TheVariants.{Structural as ByStructure}
use Rattle.pgs_violation.specs.declared.structural.Structural.{Structural}
use Rattle.pgs_violation.specs.Staging.{◌>>=◌, after_ops, within_limit, staged}
use Rattle.pgs_run_input.specs.Session.{standard, decision_on}
use Rattle.pgs_run_try.specs.Judging.{judges_nothing}

abbrev IsWithin : Limits → Graph → Type 0
IsWithin limits g = nat_lt limits.elements (element_count g) ≡ false

within_by : (limits : Limits) (g after : Graph) (over : Bool) → nat_lt limits.elements (element_count g) ≡ over → within_limit limits g ≡ Ok after → IsWithin limits after
within_by limits g after true e is = let no = rw e at is in cc
within_by limits g after false e is = let same : g ≡ after = (let h = rw e at is in cc) in subst (IsWithin limits) same e

within_of : (limits : Limits) (so : Result Graph Structural) (after : Graph) → (so >>= within_limit limits) ≡ Ok after → IsWithin limits after
within_of limits (Ok g) after is = within_by limits g after (nat_lt limits.elements (element_count g)) refl is
within_of limits (Err structural) after is = cc

staged_by : (limits : Limits) (g after : Graph) (txn : Txn) (long : Bool) → nat_lt limits.ops (length txn.ops) ≡ long → staged limits g txn ≡ Ok after → IsWithin limits after
staged_by limits g after txn true e is = let no = rw e at is in cc
staged_by limits g after txn false e is = within_of limits (after_ops g 1 txn.ops) after (let h = rw e at is in h)

-- a staged graph is within the limits
within_staged : (limits : Limits) (g after : Graph) (txn : Txn) → staged limits g txn ≡ Ok after → IsWithin limits after
within_staged limits g after txn is = staged_by limits g after txn (nat_lt limits.ops (length txn.ops)) refl is

-- a transaction that can be done within the limits is accepted
pub done_accepted : (limits : Limits) (g after : Graph) (txn : Txn) → limits ≡ standard → staged limits g txn ≡ Ok after → decision_on judges_nothing g txn ≡ Ok after
unfolding decision_on
done_accepted limits g after txn same is =
    let done : staged standard g txn ≡ Ok after = subst (λ (l : Limits). staged l g txn ≡ Ok after) same is in
    rw (done, within_staged standard g after txn done) refl

-- and one that can't be done is rejected for that
pub undone_rejected : (limits : Limits) (g : Graph) (txn : Txn) (structural : Structural) → limits ≡ standard → staged limits g txn ≡ Err structural → decision_on judges_nothing g txn ≡ Err (ByStructure structural)
unfolding decision_on
undone_rejected limits g txn structural same is =
    let undone : staged standard g txn ≡ Err structural = subst (λ (l : Limits). staged l g txn ≡ Err structural) same is in
    rw undone refl
