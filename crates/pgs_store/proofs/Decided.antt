-- A staged graph that conforms is one that a guard may have.
use Rattle.std.proofs.Common.{◌≡◌, ℕ, ◌^◌, ◌<◌, ◌≤◌, Bool, true, false, IsTrue, List, Result, Ok, Err, refl, ◌∙◌, ap, subst, arith}
use Rattle.std.specs.Prelude.{if◌then◌else◌, nat_lt, length, IfOk, OnOk}
use Rattle.std.proofs.lemmas.Bool.{and_parts}
use Rattle.std.proofs.lemmas.Bool.Decides.{nat_tests}
use Rattle.pgs_base.specs.declared.limits.Limits.{Limits}
use Rattle.pgs_base.specs.declared.element.NodeId.{NodeId}
use Rattle.pgs_base.specs.declared.element.EdgeId.{EdgeId}
use Rattle.pgs_base.specs.declared.row.NodeRow.{NodeRow}
use Rattle.pgs_base.specs.declared.row.EdgeRow.{EdgeRow}
use Rattle.pgs_base.specs.Graph.{Graph, element_count, is_graph}
use Rattle.pgs_codec.specs.declared.command.Command.TheVariants.{Snapshot, Txn as Transaction}
use Rattle.pgs_codec.specs.Encodable.{is_sized, snapshot_graph}
use Rattle.pgs_decide.specs.declared.deciding.Decided.{Decided}
use Rattle.pgs_decide.specs.declared.refusal.GuardRefusal.{GuardRefusal}
use Rattle.pgs_graph.specs.Changed.{changed}
use Rattle.pgs_graph.specs.declared.operation.Txn.{Txn}
use Rattle.pgs_saved_graph.specs.Small.{has_small_rows}
use Rattle.pgs_saved_graph.proofs.Steps.{staged_small, staged_sized}
use Rattle.pgs_store.specs.State.{IsGuarded}
use Rattle.pgs_syntax.specs.declared.resolved.Resolved.{Resolved}
use Rattle.pgs_violation.specs.declared.structural.Structural.{Structural}
use Rattle.pgs_violation.specs.declared.structural.Structural.TheVariants.{TooManyElements, TooManyOps}
use Rattle.pgs_violation.specs.declared.rejection.Rejection.TheVariants.{Structural as ByStructure, Violation as ByViolation}
use Rattle.pgs_violation.specs.declared.violation.Verdict.{Verdict}
use Rattle.pgs_violation.specs.declared.violation.Verdict.TheVariants.{Conforms, Refused}
use Rattle.pgs_violation.specs.declared.violation.Violation.{Violation}
use Rattle.pgs_violation.specs.Decision.{conforming, decide, judged, judging}
use Rattle.pgs_violation.specs.Staging.{◌>>=◌, after_ops, within_limit, staged}
use Rattle.pgs_violation.specs.Violations.{conforms, verdict, violations}
use Rattle.pgs_violation.proofs.FirstOf.{empty_list, first_conforms}

fits : (count most : ℕ) → nat_lt most count ≡ false → count ≤ most
fits count most within = grind (arith, nat_tests)

within_done : (limits : Limits) (g h : Graph) → within_limit limits g ≡ Ok h → element_count h ≤ limits.elements
within_done limits g h e = by (nat_lt limits.elements (element_count g)) refl e
  where
    by : (b : Bool) → nat_lt limits.elements (element_count g) ≡ b → (if b then Err (TooManyElements (element_count g)) else Ok g) ≡ Ok h
        → element_count h ≤ limits.elements
    by true over e = cc
    by false over e =
        let same : g ≡ h = cc in
        let P : Graph → Type 0 = λ k. element_count k ≤ limits.elements in
        subst P same (fits (element_count g) limits.elements over)

pub staged_within : (limits : Limits) (g h : Graph) (txn : Txn) → staged limits g txn ≡ Ok h → element_count h ≤ limits.elements
staged_within limits g h txn e = by (nat_lt limits.ops (length txn.ops)) (after_ops g 1 txn.ops) e
  where
    done : (r : Result Graph Structural) → (r >>= within_limit limits) ≡ Ok h → element_count h ≤ limits.elements
    done (Ok next) e = within_done limits next h e
    done (Err structural) e = cc

    by : (b : Bool) (r : Result Graph Structural) → (if b then Err (TooManyOps (length txn.ops)) else (r >>= within_limit limits)) ≡ Ok h
        → element_count h ≤ limits.elements
    by true r e = cc
    by false r e = done r e

-- a graph that a decision gives is the staged one
given : (next h : Graph) (over : Bool) (judgement : Verdict) → (if over then Err (ByStructure (TooManyElements (element_count next))) else conforming next judgement) ≡ Ok h
    → next ≡ h
given next h true judgement e = cc
given next h false Conforms e = cc
given next h false (Refused violation) e = cc

pub decided_staged : (limits : Limits) (judge : Graph → Verdict) (g h : Graph) (txn : Txn) → decide limits judge g txn ≡ Ok h → staged limits g txn ≡ Ok h
decided_staged limits judge g h txn e = by (staged limits g txn) e
  where
    by : (r : Result Graph Structural) → judging limits judge r ≡ Ok h → r ≡ Ok h
    by (Ok next) e = ap Ok (given next h (nat_lt limits.elements (element_count next)) (judge next) e)
    by (Err structural) e = cc

pub conforms_by : (resolved : Resolved) (g : Graph) → conforms resolved g ≡ true → verdict resolved g ≡ Conforms
conforms_by resolved g e = (first_conforms (violations resolved g)).1 ((empty_list (violations resolved g)).0 e)

pub by_verdict : (resolved : Resolved) (g : Graph) → verdict resolved g ≡ Conforms → conforms resolved g ≡ true
by_verdict resolved g e = (empty_list (violations resolved g)).1 ((first_conforms (violations resolved g)).0 e)

pub guarded : (resolved : Resolved) (limits : Limits) (g h : Graph) (txn : Txn) → conforms resolved h ≡ true → decide limits (verdict resolved) g txn ≡ Ok h
    → has_small_rows g ≡ true → IsGuarded resolved limits h
guarded resolved limits g h txn fine e small =
    let done = decided_staged limits (verdict resolved) g h txn e in
    record {
      conforms = conforms_by resolved h fine;
      within = staged_within limits g h txn done;
      small = staged_small limits g h txn done small;
    }

pub sized : (resolved : Resolved) (limits : Limits) (g h : Graph) (txn : Txn) → limits.ops < 2 ^ 32 → decide limits (verdict resolved) g txn ≡ Ok h
    → IsTrue (is_sized (Transaction txn))
sized resolved limits g h txn few e = staged_sized limits g h txn few (decided_staged limits (verdict resolved) g h txn e)

-- the rows of a snapshot are small
pub small_rows : (commits : ℕ) (nodes : List (NodeId × NodeRow)) (edges : List (EdgeId × EdgeRow)) (g : Graph) → g ≡ snapshot_graph nodes edges
    → IsTrue (is_sized (Snapshot commits nodes edges)) → has_small_rows g ≡ true
small_rows commits nodes edges g same sizes =
    ap has_small_rows same ∙ (and_parts (has_small_rows (snapshot_graph nodes edges)) (is_graph (snapshot_graph nodes edges)) sizes).0

-- ---- a decision that is handed on as it is

module _ (resolved : Resolved) (limits : Limits) (g : Graph) (txn : Txn) where
  pub each_guarded : (answer : Result Decided GuardRefusal) → has_small_rows g ≡ true → IfOk answer (λ (it : Decided). conforms resolved (changed g it.delta) ≡ true)
      → IfOk answer (λ (it : Decided). decide limits (verdict resolved) g txn ≡ Ok (changed g it.delta))
      → IfOk answer (λ (it : Decided). IsGuarded resolved limits (changed g it.delta))
  each_guarded (Ok it) small fine accepted = guarded resolved limits g (changed g it.delta) txn fine accepted small
  each_guarded (Err refusal) small fine accepted = tt

  pub each_sized : (answer : Result Decided GuardRefusal) → limits.ops < 2 ^ 32
      → IfOk answer (λ (it : Decided). decide limits (verdict resolved) g txn ≡ Ok (changed g it.delta)) → OnOk answer (IsTrue (is_sized (Transaction txn)))
  each_sized (Ok it) few accepted = sized resolved limits g (changed g it.delta) txn few accepted
  each_sized (Err refusal) few accepted = tt

-- ---- a graph that is judged again

not_over : (count most : ℕ) → count ≤ most → nat_lt most count ≡ false
not_over count most within = grind (arith, nat_tests)

-- a graph that a guard may have is accepted
pub judged_within : (resolved : Resolved) (limits : Limits) (g : Graph) → IsGuarded resolved limits g → judged limits (verdict resolved) g ≡ Ok g
judged_within resolved limits g guarded = rw (not_over (element_count g) limits.elements guarded.within) (ap (conforming g) guarded.conforms)

-- and one that is within the limits is rejected for its first violation
pub judged_violated : (resolved : Resolved) (limits : Limits) (g : Graph) (violation : Violation) → element_count g ≤ limits.elements → verdict resolved g ≡ Refused violation
    → judged limits (verdict resolved) g ≡ Err (ByViolation violation)
judged_violated resolved limits g violation within is = rw (not_over (element_count g) limits.elements within) (ap (conforming g) is)
