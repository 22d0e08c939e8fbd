-- A plan ends in each of its ends: each variable is bound by one step.
use Rattle.std.proofs.Common.{◌≡◌, ℕ, ◌<◌, Bool, true, false, ◌||◌, ◌==◌, cond, List, [], ◌∷◌, length, replicate, refl, sym, ◌∙◌, ap, subst, true≢false}
use Rattle.std.proofs.lemmas.Bool.{and_parts, eq-eqb, eqb-true}
use Rattle.std.proofs.lemmas.List.{length-set}
use Rattle.pgs_base.specs.Graph.{Graph}
use Rattle.pgs_syntax.specs.declared.pattern.Pattern.{Pattern}
use Rattle.pgs_syntax.specs.declared.resolved.Resolved.{Resolved}
use Rattle.pgs_syntax.specs.Valid.{is_valid_pattern}
use Rattle.pgs_match.specs.declared.step.Step.{Step}
use Rattle.pgs_match.specs.Answers.{behind, is_bound_in, EndsIn}
use Rattle.pgs_match.specs.Plans.{bound_by, is_known, and_known, known_alone, is_step, are_steps, is_plan}
use Rattle.pgs_match.proofs.Completed.{step_facts}
use Rattle.pgs_match.proofs.Known.{known_now, known_still}

module _ (resolved : Resolved) (g : Graph) (pattern : Pattern) (valid : is_valid_pattern pattern ≡ true) where
  -- no step binds a variable that is known
  never_again : (plan : List Step) (known : List Bool) (var : ℕ) → length known ≡ 20 → are_steps pattern.atoms known plan ≡ true → is_known known var ≡ true → is_bound_in plan var ≡ false
  never_again [] known var size steps here = refl
  never_again (step ∷ plan) known var size steps here =
      let parts = and_parts (is_step pattern.atoms known step) _ steps in
      let facts = step_facts resolved g pattern valid known step parts.0 in
      by (bound_by step == var) refl facts.1
      (never_again plan (and_known known (bound_by step)) var (length-set known (bound_by step) true ∙ size) parts.1 (known_still known (bound_by step) var here))
    where
      by : (b : Bool) → (bound_by step == var) ≡ b → is_known known (bound_by step) ≡ false → is_bound_in plan var ≡ false → (b || is_bound_in plan var) ≡ false
      by true is new rest = absurd (true≢false (sym here ∙ ap (is_known known) (sym (eqb-true (bound_by step) var is)) ∙ new))
      by false is new rest = rest

  ends_from : (whole plan : List Step) (known : List Bool) → length known ≡ 20 → are_steps pattern.atoms known plan ≡ true →
      ((var : ℕ) → is_known known var ≡ false → behind var whole ≡ behind var plan) → EndsIn whole plan
  ends_from whole [] known size steps same = tt {0}
  ends_from whole (step ∷ plan) known size steps same =
      let parts = and_parts (is_step pattern.atoms known step) _ steps in
      let facts = step_facts resolved g pattern valid known step parts.0 in
      let var = bound_by step in
      let more : length (and_known known var) ≡ 20 = length-set known var true ∙ size in
      let now : is_known (and_known known var) var ≡ true = known_now known var (subst (λ n. var < n) (sym size) facts.0) in (
        same var facts.1 ∙ ap (λ b. cond b plan (behind var plan)) (eq-eqb var var refl),
        never_again plan (and_known known var) var more parts.1 now,
        ends_from whole plan (and_known known var) more parts.1 (λ other unknown. by other unknown now (var == other) refl),
      )
    where
      by : (other : ℕ) → is_known (and_known known (bound_by step)) other ≡ false → is_known (and_known known (bound_by step)) (bound_by step) ≡ true → (b : Bool) → (bound_by step == other) ≡ b →
          behind other whole ≡ behind other plan
      by other unknown now true is = absurd (true≢false (sym now ∙ ap (is_known (and_known known (bound_by step))) (eqb-true (bound_by step) other is) ∙ unknown))
      by other unknown now false is = same other (before (is_known known other) refl) ∙ ap (λ b. cond b plan (behind other plan)) is
        where
          before : (b : Bool) → is_known known other ≡ b → is_known known other ≡ false
          before true known_before = absurd (true≢false (sym (known_still known (bound_by step) other known_before) ∙ unknown))
          before false not_before = not_before

  pub plan_ends : (var : ℕ) (plan : List Step) → is_plan pattern var plan ≡ true → EndsIn plan plan
  plan_ends var plan plans =
      let parts = and_parts (are_steps pattern.atoms (known_alone var) plan) _ plans in
      ends_from plan plan (known_alone var) (length-set (replicate 20 false) var true) parts.0 (λ other unknown. refl)
