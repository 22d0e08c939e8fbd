-- A valid pattern has a plan from each of its variables.
use Rattle.std.proofs.Common.{◌≡◌, ◌⊎◌, inl, inr, ℕ, zero, suc, ◌<◌, ◌≤◌, Bool, true, false, ◌&&◌, not, cond, List, [], ◌∷◌, length, replicate, refl, ◌∙◌, ap, arith}
use Rattle.std.specs.List.{list_all}
use Rattle.std.proofs.lemmas.Bool.{and_parts, and_from, or_left, or_right, eq-eqb}
use Rattle.std.proofs.lemmas.List.{length-set}
use Rattle.pgs_syntax.specs.declared.pattern.Atom.{Atom}
use Rattle.pgs_syntax.specs.declared.pattern.Atom.TheVariants.{Ends, HasLabel, FitsNode, FitsEdge, Equals}
use Rattle.pgs_syntax.specs.declared.pattern.Pattern.{Pattern}
use Rattle.pgs_syntax.specs.Valid.{is_valid_pattern}
use Rattle.pgs_match.specs.declared.step.Step.{Step}
use Rattle.pgs_match.specs.declared.step.Step.TheVariants.{Along, End}
use Rattle.pgs_match.specs.Plans.{bound_by, is_known, and_known, known_alone, has_end, is_step, is_closed_at, are_steps, completes, is_plan}
use Rattle.pgs_match.proofs.Counts.{left, one_less}
use Rattle.pgs_match.proofs.Known.{known_now, known_still, step_bounds, all_known, valid_most}

-- a step that is possible, or the knowledge that none is
abbrev pub IsNext : List Atom → List Bool → Type 0
IsNext atoms known = ((step : Step) × (is_step atoms known step ≡ true)) ⊎ (list_all (is_closed_at known) atoms ≡ true)

-- a step by some atoms is one by more
step_later : (atom : Atom) (atoms : List Atom) (known : List Bool) (step : Step) → is_step atoms known step ≡ true → is_step (atom ∷ atoms) known step ≡ true
step_later atom atoms known (Along edge node forward) h =
    let parts = and_parts (is_known known node && not (is_known known edge)) _ h in
    and_from _ _ parts.0 (or_right (has_end edge node forward atom) _ parts.1)
step_later atom atoms known (End edge node source) h =
    let parts = and_parts (is_known known edge && not (is_known known node)) _ h in
    and_from _ _ parts.0 (or_right (has_end edge node source atom) _ parts.1)

-- a step at the first atom
module _ (atoms : List Atom) (known : List Bool) (edge source target : ℕ) where
  pub first_end : (node : ℕ) (of : Bool) → is_known known edge ≡ true → is_known known node ≡ false → (cond of source target) ≡ node →
      is_step (Ends edge source target ∷ atoms) known (End edge node of) ≡ true
  first_end node of known_edge unknown same =
      and_from _ _ (and_from _ _ known_edge (ap not unknown))
      (or_left (has_end edge node of (Ends edge source target)) _ (and_from _ _ (eq-eqb edge edge refl) (eq-eqb (cond of source target) node same)))

  pub first_along : (node : ℕ) (of : Bool) → is_known known node ≡ true → is_known known edge ≡ false → (cond of source target) ≡ node →
      is_step (Ends edge source target ∷ atoms) known (Along edge node of) ≡ true
  first_along node of known_node unknown same =
      and_from _ _ (and_from _ _ known_node (ap not unknown))
      (or_left (has_end edge node of (Ends edge source target)) _ (and_from _ _ (eq-eqb edge edge refl) (eq-eqb (cond of source target) node same)))

  later : is_closed_at known (Ends edge source target) ≡ true → IsNext atoms known → IsNext (Ends edge source target ∷ atoms) known
  later closed (inl step) = inl (step.0, step_later (Ends edge source target) atoms known step.0 step.1)
  later closed (inr all) = inr (and_from _ _ closed all)

  at_ends : (e s t : Bool) → is_known known edge ≡ e → is_known known source ≡ s → is_known known target ≡ t → IsNext atoms known → IsNext (Ends edge source target ∷ atoms) known
  at_ends true false t known_edge known_source known_target rest = inl (End edge source true, first_end source true known_edge known_source refl)
  at_ends true true false known_edge known_source known_target rest = inl (End edge target false, first_end target false known_edge known_target refl)
  at_ends true true true known_edge known_source known_target rest =
      later (ap (λ b. cond b (is_known known source && is_known known target) (not (is_known known source) && not (is_known known target))) known_edge ∙ and_from _ _ known_source known_target) rest
  at_ends false true t known_edge known_source known_target rest = inl (Along edge source true, first_along source true known_source known_edge refl)
  at_ends false false true known_edge known_source known_target rest = inl (Along edge target false, first_along target false known_target known_edge refl)
  at_ends false false false known_edge known_source known_target rest =
      later (ap (λ b. cond b (is_known known source && is_known known target) (not (is_known known source) && not (is_known known target))) known_edge
      ∙ and_from _ _ (ap not known_source) (ap not known_target)) rest

-- an atom that gives no ends changes nothing
pass : (atom : Atom) (atoms : List Atom) (known : List Bool) → is_closed_at known atom ≡ true → IsNext atoms known → IsNext (atom ∷ atoms) known
pass atom atoms known closed (inl step) = inl (step.0, step_later atom atoms known step.0 step.1)
pass atom atoms known closed (inr all) = inr (and_from _ _ closed all)

pub next : (atoms : List Atom) (known : List Bool) → IsNext atoms known
next [] known = inr refl
next (Ends edge source target ∷ atoms) known =
    at_ends atoms known edge source target (is_known known edge) (is_known known source) (is_known known target) refl refl refl (next atoms known)
next (HasLabel var label ∷ atoms) known = pass (HasLabel var label) atoms known refl (next atoms known)
next (FitsNode var number ∷ atoms) known = pass (FitsNode var number) atoms known refl (next atoms known)
next (FitsEdge var number ∷ atoms) known = pass (FitsEdge var number) atoms known refl (next atoms known)
next (Equals var key value ∷ atoms) known = pass (Equals var key value) atoms known refl (next atoms known)

module _ (pattern : Pattern) (valid : is_valid_pattern pattern ≡ true) (start : ℕ) (below : start < length pattern.edge_vars) where
  abbrev IsCompleted : List Bool → Type 0
  IsCompleted known = (plan : List Step) × (completes pattern known plan ≡ true)

  with_step : (known : List Bool) (step : Step) → is_step pattern.atoms known step ≡ true → IsCompleted (and_known known (bound_by step)) → IsCompleted known
  with_step known step is rest =
      let parts = and_parts (are_steps pattern.atoms (and_known known (bound_by step)) rest.0) _ rest.1 in
      (step ∷ rest.0, and_from _ _ (and_from _ _ is parts.0) parts.1)

  -- a step takes a variable from those that are left
  less : (known : List Bool) → length known ≡ 20 → (step : Step) → is_step pattern.atoms known step ≡ true →
      left (λ kind. 1) pattern.edge_vars (and_known known (bound_by step)) < left (λ kind. 1) pattern.edge_vars known
  less known size step is =
      let bounds = step_bounds pattern pattern.atoms known step (bound_by step) valid refl refl is in
      one_less pattern.edge_vars known (bound_by step) bounds.0 bounds.2 (omega (arith, size, bounds.1))

  -- a step is possible, after which there is a plan, or all variables are known
  at_step : (known : List Bool) → is_known known start ≡ true → ((step : Step) → is_step pattern.atoms known step ≡ true → IsCompleted (and_known known (bound_by step))) →
      IsNext pattern.atoms known → IsCompleted known
  at_step known at again (inr closed) = ([], all_known pattern start known [] valid below refl at closed)
  at_step known at again (inl step) = with_step known step.0 step.1 (again step.0 step.1)

  completed : (most : ℕ) (known : List Bool) → length known ≡ 20 → is_known known start ≡ true → left (λ kind. 1) pattern.edge_vars known ≤ most → IsCompleted known
  completed zero known size at few = at_step known at (λ step is. let fewer = less known size step is in absurd (omega arith)) (next pattern.atoms known)
  completed (suc most) known size at few =
      at_step known at
      (λ step is.
      let fewer = less known size step is in
      completed most (and_known known (bound_by step)) (length-set known (bound_by step) true ∙ size) (known_still known (bound_by step) start at) (omega arith))
      (next pattern.atoms known)

  pub plan_of : (plan : List Step) × (is_plan pattern start plan ≡ true)
  plan_of =
      let most = valid_most pattern valid in
      let there : start < length (replicate 20 false) = omega arith in
      completed (left (λ kind. 1) pattern.edge_vars (known_alone start)) (known_alone start) (length-set (replicate 20 false) start true) (known_now (replicate 20 false) start there) (omega arith)
