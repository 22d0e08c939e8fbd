-- Why a transaction is rejected, and what comes of staging it.
use Rattle.std.proofs.Common.{◌≡◌, Bool, true, false, nat_lt, length, List, ℕ, [], Result, Ok, Err, IfOk, refl, sym, subst, ◌∙◌}
use Rattle.std.proofs.lemmas.Result.{IfOk-weaker}
use Rattle.pgs_base.specs.declared.limits.Limits.{Limits}
use Rattle.pgs_base.specs.declared.memory.Memory.{Memory}
use Rattle.pgs_base.specs.Graph.{Graph, element_count}
use Rattle.pgs_graph.specs.declared.delta.Delta.{Delta}
use Rattle.pgs_graph.specs.declared.operation.Txn.{Txn}
use Rattle.pgs_graph.specs.Changed.{changed}
use Rattle.pgs_syntax.specs.declared.resolved.Resolved.{Resolved}
use Rattle.pgs_violation.specs.declared.rejection.Rejection.{Rejection}
use Rattle.pgs_violation.specs.declared.rejection.Rejection.TheVariants.{Structural as ByStructure, Violation as ByViolation}
use Rattle.pgs_violation.specs.declared.structural.Structural.{Structural}
use Rattle.pgs_violation.specs.declared.violation.Verdict.{Verdict}
use Rattle.pgs_violation.specs.declared.violation.Verdict.TheVariants.{Conforms, Refused}
use Rattle.pgs_violation.specs.declared.violation.Violation.{Violation}
use Rattle.pgs_violation.specs.Decision.{conforming, judged, judging}
use Rattle.pgs_violation.specs.Staging.{◌>>=◌, after_ops, staged, within_limit}
use Rattle.pgs_violation.specs.Violations.{verdict}
use Rattle.pgs_run_input.specs.Session.{decision_on, standard}
use Rattle.pgs_run_input.proofs.Standard.{standard_is}
use Rattle.pgs_violation_causes.specs.Causes.{AreViolationCauses}
use Rattle.pgs_run_check_try.specs.Causes.{AreStagedCauses, AreVerdictCauses}

-- ---- a staged graph is within the limits

abbrev IsWithin : Graph → Type 0
IsWithin g = nat_lt standard.elements (element_count g) ≡ false

within_by : (g after : Graph) (over : Bool) → nat_lt standard.elements (element_count g) ≡ over → within_limit standard g ≡ Ok after → IsWithin after
within_by g after true e is = let no = rw e at is in cc
within_by g after false e is = let same : g ≡ after = (let h = rw e at is in cc) in subst IsWithin same e

within_of : (so : Result Graph Structural) (after : Graph) → (so >>= within_limit standard) ≡ Ok after → IsWithin after
within_of (Ok g) after is = within_by g after (nat_lt standard.elements (element_count g)) refl is
within_of (Err structural) after is = cc

staged_by : (g after : Graph) (txn : Txn) (long : Bool) → nat_lt standard.ops (length txn.ops) ≡ long → staged standard g txn ≡ Ok after → IsWithin after
staged_by g after txn true e is = let no = rw e at is in cc
staged_by g after txn false e is = within_of (after_ops g 1 txn.ops) after (let h = rw e at is in h)

within_staged : (g after : Graph) (txn : Txn) → staged standard g txn ≡ Ok after → IsWithin after
within_staged g after txn is = staged_by g after txn (nat_lt standard.ops (length txn.ops)) refl is

-- ---- the verdict on it

judged_within : (schema : Resolved) (g : Graph) → IsWithin g → judged standard (verdict schema) g ≡ conforming g (verdict schema g)
judged_within schema g within = rw within refl

violated : (g : Graph) (v : Verdict) (violation : Violation) → conforming g v ≡ Err (ByViolation violation) → v ≡ Refused violation
violated g Conforms violation is = cc
violated g (Refused other) violation is = cc

unstructural : (g : Graph) (v : Verdict) (structural : Structural) → conforming g v ≡ Err (ByStructure structural) → ⊥
unstructural g Conforms structural is = cc
unstructural g (Refused other) structural is = cc

module _ (text : List ℕ) (schema : Resolved) (g : Graph) (txn : Txn) where
  decided_as : (rejection : Rejection) (so : Result Graph Structural) → staged standard g txn ≡ so → decision_on (verdict schema) g txn ≡ Err rejection → judging standard (verdict schema) so ≡ Err rejection
  unfolding decision_on
  decided_as rejection so e is = subst (λ (so : Result Graph Structural). judging standard (verdict schema) so ≡ Err rejection) e is

  -- a rejection for a violation is one of the staged graph
  pub violation_staged : (violation : Violation) (pending : Graph) → decision_on (verdict schema) g txn ≡ Err (ByViolation violation) → staged standard g txn ≡ Ok pending → verdict schema pending ≡ Refused violation
  violation_staged violation pending is e =
      violated pending (verdict schema pending) violation (sym (judged_within schema pending (within_staged g pending txn e)) ∙ decided_as (ByViolation violation) (Ok pending) e is)

  -- which can be staged
  pub never_unstaged : (violation : Violation) (structural : Structural) → decision_on (verdict schema) g txn ≡ Err (ByViolation violation) → staged standard g txn ≡ Err structural → ⊥
  never_unstaged violation structural is e = let no = decided_as (ByViolation violation) (Err structural) e is in cc

  -- so its causes are those of the violation
  pub causes_staged : (violation : Violation) (pending : Graph) (texts : List (List ℕ)) → decision_on (verdict schema) g txn ≡ Err (ByViolation violation) → staged standard g txn ≡ Ok pending
      → AreVerdictCauses text schema pending (Refused violation) texts → AreStagedCauses text schema (staged standard g txn) texts
  causes_staged violation pending texts is e causes =
      subst (λ (so : Result Graph Structural). AreStagedCauses text schema so texts) (sym e)
      (subst (λ (v : Verdict). AreVerdictCauses text schema pending v texts) (sym (violation_staged violation pending is e)) causes)

  -- and a rejection for its structure has none
  none_by : (structural : Structural) (so : Result Graph Structural) → staged standard g txn ≡ so → decision_on (verdict schema) g txn ≡ Err (ByStructure structural) → AreStagedCauses text schema so []
  none_by structural (Err other) e is = refl
  none_by structural (Ok pending) e is =
      absurd (unstructural pending (verdict schema pending) structural (sym (judged_within schema pending (within_staged g pending txn e)) ∙ decided_as (ByStructure structural) (Ok pending) e is))

  pub none_unstaged : (structural : Structural) → decision_on (verdict schema) g txn ≡ Err (ByStructure structural) → AreStagedCauses text schema (staged standard g txn) []
  none_unstaged structural is = none_by structural (staged standard g txn) refl is

  -- an accepted one has none either
  accepted_by : (after : Graph) (so : Result Graph Structural) → staged standard g txn ≡ so → decision_on (verdict schema) g txn ≡ Ok after → AreStagedCauses text schema so []
  unfolding decision_on
  accepted_by after (Err other) e is = refl
  accepted_by after (Ok pending) e is =
      by_verdict (verdict schema pending) refl
      (sym (judged_within schema pending (within_staged g pending txn e)) ∙ subst (λ (so : Result Graph Structural). judging standard (verdict schema) so ≡ Ok after) e is)
    where
      by_verdict : (v : Verdict) → verdict schema pending ≡ v → conforming pending (verdict schema pending) ≡ Ok after → AreVerdictCauses text schema pending (verdict schema pending) []
      by_verdict Conforms same conforms = subst (λ (v : Verdict). AreVerdictCauses text schema pending v []) (sym same) refl
      by_verdict (Refused violation) same conforms = let no = subst (λ (v : Verdict). conforming pending v ≡ Ok after) same conforms in cc

  pub none_accepted : (after : Graph) → decision_on (verdict schema) g txn ≡ Ok after → AreStagedCauses text schema (staged standard g txn) []
  none_accepted after is = accepted_by after (staged standard g txn) refl is

-- ---- a transaction that is staged again

module _ (limits : Limits) (text : List ℕ) (schema : Resolved) (g seen : Graph) (txn : Txn) (violation : Violation) where
  staged_again : (delta : Delta) → limits.ops ≡ 10000 → limits.elements ≡ 1000000 → seen ≡ g → staged limits seen txn ≡ Ok (changed seen delta) → staged standard g txn ≡ Ok (changed g delta)
  staged_again delta ops elements same is =
      subst (λ (x : Graph). staged standard x txn ≡ Ok (changed x delta)) same (subst (λ (l : Limits). staged l seen txn ≡ Ok (changed seen delta)) (standard_is limits ops elements) is)

  -- the causes of its violation, of the graph that its delta makes, are those of what comes of staging it
  pub causes_again : (other : Graph) (delta : Delta) (told : Result (List (List ℕ)) Memory) (own : List ℕ) (found : Resolved) → limits.ops ≡ 10000 → limits.elements ≡ 1000000 → seen ≡ g → other ≡ g → own ≡ text → found ≡ schema
      → staged limits seen txn ≡ Ok (changed seen delta) → decision_on (verdict schema) g txn ≡ Err (ByViolation violation) → IfOk told (AreViolationCauses own found (changed other delta) violation)
      → IfOk told (AreStagedCauses text schema (staged standard g txn))
  causes_again other delta told own found ops elements same_seen same_other same_text same_schema is rejected causes =
      IfOk-weaker told (AreViolationCauses own found (changed other delta) violation) (AreStagedCauses text schema (staged standard g txn))
      (λ texts are.
      causes_staged text schema g txn violation (changed g delta) texts rejected (staged_again delta ops elements same_seen is)
      (subst (λ (x : Graph). AreViolationCauses text schema (changed x delta) violation texts) same_other
      (subst (λ (x : Resolved). AreViolationCauses text x (changed other delta) violation texts) same_schema
      (subst (λ (x : List ℕ). AreViolationCauses x found (changed other delta) violation texts) same_text are)))) causes

  -- it can be staged
  pub never_again : (structural : Structural) → limits.ops ≡ 10000 → limits.elements ≡ 1000000 → seen ≡ g → staged limits seen txn ≡ Err structural → decision_on (verdict schema) g txn ≡ Err (ByViolation violation) → ⊥
  never_again structural ops elements same is rejected =
      never_unstaged text schema g txn violation structural rejected
      (subst (λ (x : Graph). staged standard x txn ≡ Err structural) same (subst (λ (l : Limits). staged l seen txn ≡ Err structural) (standard_is limits ops elements) is))
