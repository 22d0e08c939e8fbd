-- What is known after steps, and that where no step is possible all variables of a connected pattern are.
use Rattle.std.proofs.Common.{◌≡◌, ℕ, zero, suc, ◌<◌, ◌≤◌, Bool, true, false, ◌&&◌, ◌||◌, ◌==◌, not, cond, ⊎_elim, List, [], ◌∷◌, ◌++◌, length, refl, sym, ◌∙◌, ap, subst, true≢false, arith}
use Rattle.std.specs.List.{list_any, list_all}
use Rattle.std.proofs.lemmas.Bool.{and_parts, and_from, or_cases, or_left, or_right, eqb-true, not-true, leb-true}
use Rattle.pgs_syntax.specs.declared.pattern.Atom.{Atom}
use Rattle.pgs_syntax.specs.declared.pattern.Atom.TheVariants.{Ends, HasLabel, FitsNode, FitsEdge, Equals}
use Rattle.pgs_syntax.specs.declared.pattern.Pattern.{Pattern}
use Rattle.pgs_syntax.specs.Linked.{links, IsLinked, itself, further}
use Rattle.pgs_syntax.specs.Valid.{edge_count, is_edge_var, is_node_var, speaks_of, is_valid_pattern}
use Rattle.pgs_syntax.proofs.Connected.{all_linked}
use Rattle.pgs_match.specs.declared.step.Step.{Step}
use Rattle.pgs_match.specs.declared.step.Step.TheVariants.{Along, End}
use Rattle.pgs_match.specs.Plans.{bound_by, is_known, and_known, has_end, is_closed_at, is_step, are_steps, known_after, covers, completes}

-- ---- what a valid pattern has

pub valid_speaks : (pattern : Pattern) → is_valid_pattern pattern ≡ true → list_all (speaks_of pattern.edge_vars) pattern.atoms ≡ true
valid_speaks pattern valid = (and_parts _ _ (and_parts _ _ (and_parts _ _ valid).0).0).1

pub valid_edges : (pattern : Pattern) → is_valid_pattern pattern ≡ true → edge_count pattern.edge_vars ≤ 8
valid_edges pattern valid =
    leb-true (edge_count pattern.edge_vars) 8 (and_parts _ _ (and_parts _ _ (and_parts _ _ (and_parts _ _ valid).0).0).0).1

pub valid_most : (pattern : Pattern) → is_valid_pattern pattern ≡ true → length pattern.edge_vars ≤ 20
valid_most pattern valid =
    leb-true (length pattern.edge_vars) 20 (and_parts _ _ (and_parts _ _ (and_parts _ _ (and_parts _ _ (and_parts _ _ valid).0).0).0).0).1

-- ---- variables in range

pub edge_below : (edge_vars : List Bool) (var : ℕ) → is_edge_var edge_vars var ≡ true → var < length edge_vars
edge_below [] var h = absurd (true≢false (sym h))
edge_below (x ∷ xs) zero h = omega arith
edge_below (x ∷ xs) (suc var) h = let rest : var < length xs = edge_below xs var h in omega arith

pub node_below : (edge_vars : List Bool) (var : ℕ) → is_node_var edge_vars var ≡ true → var < length edge_vars
node_below [] var h = absurd (true≢false (sym h))
node_below (x ∷ xs) zero h = omega arith
node_below (x ∷ xs) (suc var) h = let rest : var < length xs = node_below xs var h in omega arith

module _ (edge_vars : List Bool) where
  -- the variables of an edge place are of their kinds
  pub end_kinds : (edge node : ℕ) (source : Bool) (atom : Atom) → speaks_of edge_vars atom ≡ true → has_end edge node source atom ≡ true →
      (is_edge_var edge_vars edge ≡ true) × (is_node_var edge_vars node ≡ true)
  end_kinds edge node source (Ends of first second) speaks has =
      let parts = and_parts (is_edge_var edge_vars of && is_node_var edge_vars first) (is_node_var edge_vars second) speaks in
      let inner = and_parts (is_edge_var edge_vars of) (is_node_var edge_vars first) parts.0 in
      let same = and_parts (of == edge) (cond source first second == node) has in
      (subst (λ v. is_edge_var edge_vars v ≡ true) (eqb-true of edge same.0) inner.0, by source inner.1 parts.1 same.1)
    where
      by : (source : Bool) → is_node_var edge_vars first ≡ true → is_node_var edge_vars second ≡ true → (cond source first second == node) ≡ true → is_node_var edge_vars node ≡ true
      by true one other at = subst (λ v. is_node_var edge_vars v ≡ true) (eqb-true first node at) one
      by false one other at = subst (λ v. is_node_var edge_vars v ≡ true) (eqb-true second node at) other
  end_kinds edge node source (HasLabel var label) speaks has = absurd (true≢false (sym has))
  end_kinds edge node source (FitsNode var number) speaks has = absurd (true≢false (sym has))
  end_kinds edge node source (FitsEdge var number) speaks has = absurd (true≢false (sym has))
  end_kinds edge node source (Equals var key value) speaks has = absurd (true≢false (sym has))

  pub ends_kinds : (edge node : ℕ) (source : Bool) (atoms : List Atom) → list_all (speaks_of edge_vars) atoms ≡ true → list_any (has_end edge node source) atoms ≡ true →
      (is_edge_var edge_vars edge ≡ true) × (is_node_var edge_vars node ≡ true)
  ends_kinds edge node source [] speaks has = absurd (true≢false (sym has))
  ends_kinds edge node source (atom ∷ atoms) speaks has =
      let parts = and_parts _ _ speaks in
      ⊎_elim (end_kinds edge node source atom parts.0) (ends_kinds edge node source atoms parts.1) (or_cases _ _ has)

  -- the variable that a step binds isn't known, and is in range
  pub step_below : (atoms : List Atom) (known : List Bool) (step : Step) → list_all (speaks_of edge_vars) atoms ≡ true → is_step atoms known step ≡ true →
      (bound_by step < length edge_vars) × (is_known known (bound_by step) ≡ false)
  step_below atoms known (Along edge node forward) speaks h =
      let parts = and_parts (is_known known node && not (is_known known edge)) _ h in
      let kinds = ends_kinds edge node forward atoms speaks parts.1 in
      (edge_below edge_vars edge kinds.0, not-true _ (and_parts (is_known known node) _ parts.0).1)
  step_below atoms known (End edge node source) speaks h =
      let parts = and_parts (is_known known edge && not (is_known known node)) _ h in
      let kinds = ends_kinds edge node source atoms speaks parts.1 in
      (node_below edge_vars node kinds.1, not-true _ (and_parts (is_known known edge) _ parts.0).1)

-- what a step binds is in range and isn't known
pub step_bounds : (pattern : Pattern) (atoms : List Atom) (known : List Bool) (step : Step) (var : ℕ) → is_valid_pattern pattern ≡ true → atoms ≡ pattern.atoms →
    var ≡ bound_by step → is_step atoms known step ≡ true → (var < length pattern.edge_vars) × (var < 20) × (is_known known var ≡ false)
step_bounds pattern atoms known step var valid same bound h =
    let below = step_below pattern.edge_vars pattern.atoms known step (valid_speaks pattern valid) (subst (λ list. is_step list known step ≡ true) same h) in
    let most = valid_most pattern valid in
    (omega (arith, below.0), omega (arith, below.0), ap (is_known known) bound ∙ below.1)

-- ---- what is known

pub known_now : (known : List Bool) (var : ℕ) → var < length known → is_known (and_known known var) var ≡ true
known_now [] var below = absurd (omega arith)
known_now (b ∷ bs) zero below = refl
known_now (b ∷ bs) (suc var) below = known_now bs var (omega arith)

pub known_still : (known : List Bool) (var other : ℕ) → is_known known other ≡ true → is_known (and_known known var) other ≡ true
known_still [] var other h = h
known_still (b ∷ bs) zero zero h = refl
known_still (b ∷ bs) zero (suc other) h = h
known_still (b ∷ bs) (suc var) zero h = h
known_still (b ∷ bs) (suc var) (suc other) h = known_still bs var other h

-- ---- one step more at the end

pub steps_more : (atoms : List Atom) (known : List Bool) (plan : List Step) (step : Step) → are_steps atoms known plan ≡ true → is_step atoms (known_after known plan) step ≡ true →
    are_steps atoms known (plan ++ step ∷ []) ≡ true
steps_more atoms known [] step steps one = and_from _ _ one refl
steps_more atoms known (first ∷ plan) step steps one =
    let parts = and_parts (is_step atoms known first) _ steps in
    and_from _ _ parts.0 (steps_more atoms (and_known known (bound_by first)) plan step parts.1 one)

pub after_more : (known : List Bool) (plan : List Step) (step : Step) → known_after known (plan ++ step ∷ []) ≡ and_known (known_after known plan) (bound_by step)
after_more known [] step = refl
after_more known (first ∷ plan) step = after_more (and_known known (bound_by first)) plan step

-- ---- where no step is possible

module _ (known : List Bool) where
  closed_once : (edge source target a b : ℕ) → is_closed_at known (Ends edge source target) ≡ true → links a b (Ends edge source target) ≡ true → is_known known a ≡ true → is_known known b ≡ true
  closed_once edge source target a b closed link known_a =
      ⊎_elim from_edge from_end (or_cases (a == edge && (b == source || b == target)) (b == edge && (a == source || a == target)) link)
    where
      ends_known : is_known known edge ≡ true → (is_known known source && is_known known target) ≡ true
      ends_known e = subst (λ t. cond t (is_known known source && is_known known target) (not (is_known known source) && not (is_known known target)) ≡ true) e closed

      from_edge : (a == edge && (b == source || b == target)) ≡ true → is_known known b ≡ true
      from_edge h =
          let parts = and_parts (a == edge) (b == source || b == target) h in
          let both = and_parts _ _ (ends_known (subst (λ v. is_known known v ≡ true) (eqb-true a edge parts.0) known_a)) in
          ⊎_elim (λ at. subst (λ v. is_known known v ≡ true) (sym (eqb-true b source at)) both.0) (λ at. subst (λ v. is_known known v ≡ true) (sym (eqb-true b target at)) both.1)
          (or_cases (b == source) (b == target) parts.1)

      end_known : (a == source || a == target) ≡ true → (is_known known source || is_known known target) ≡ true
      end_known h =
          ⊎_elim (λ at. or_left _ _ (subst (λ v. is_known known v ≡ true) (eqb-true a source at) known_a))
          (λ at. or_right _ _ (subst (λ v. is_known known v ≡ true) (eqb-true a target at) known_a)) (or_cases (a == source) (a == target) h)

      neither : (s t : Bool) → not s ≡ true → not t ≡ true → (s || t) ≡ true → ⊥
      neither true t first second some = true≢false (sym first)
      neither false true first second some = true≢false (sym second)
      neither false false first second some = true≢false (sym some)

      edge_known : (t : Bool) → is_known known edge ≡ t → (is_known known source || is_known known target) ≡ true → is_known known edge ≡ true
      edge_known true e some = e
      edge_known false e some =
          let none = and_parts _ _ (subst (λ t. cond t (is_known known source && is_known known target) (not (is_known known source) && not (is_known known target)) ≡ true) e closed) in
          absurd (neither _ _ none.0 none.1 some)

      from_end : (b == edge && (a == source || a == target)) ≡ true → is_known known b ≡ true
      from_end h =
          let parts = and_parts (b == edge) (a == source || a == target) h in
          subst (λ v. is_known known v ≡ true) (sym (eqb-true b edge parts.0)) (edge_known (is_known known edge) refl (end_known parts.1))

  closed_any : (atoms : List Atom) (a b : ℕ) → list_all (is_closed_at known) atoms ≡ true → list_any (links a b) atoms ≡ true → is_known known a ≡ true → is_known known b ≡ true
  closed_any [] a b closed link known_a = absurd (true≢false (sym link))
  closed_any (Ends edge source target ∷ atoms) a b closed link known_a =
      let parts = and_parts (is_closed_at known (Ends edge source target)) _ closed in
      ⊎_elim (λ here. closed_once edge source target a b parts.0 here known_a) (λ later. closed_any atoms a b parts.1 later known_a) (or_cases (links a b (Ends edge source target)) _ link)
  closed_any (HasLabel var label ∷ atoms) a b closed link known_a = closed_any atoms a b closed link known_a
  closed_any (FitsNode var number ∷ atoms) a b closed link known_a = closed_any atoms a b closed link known_a
  closed_any (FitsEdge var number ∷ atoms) a b closed link known_a = closed_any atoms a b closed link known_a
  closed_any (Equals var key value ∷ atoms) a b closed link known_a = closed_any atoms a b closed link known_a

  closed_linked : (atoms : List Atom) → list_all (is_closed_at known) atoms ≡ true → {a b : ℕ} → IsLinked atoms a b → is_known known a ≡ true → is_known known b ≡ true
  closed_linked atoms closed itself known_a = known_a
  closed_linked atoms closed (further {a} {b} {c} rest link) known_a = closed_any atoms b c closed link (closed_linked atoms closed rest known_a)

pub covers_from : (edge_vars known : List Bool) → ((var : ℕ) → var < length edge_vars → is_known known var ≡ true) → covers edge_vars known ≡ true
covers_from [] known h = refl
covers_from (k ∷ ks) [] h = absurd (true≢false (sym (h 0 (omega arith))))
covers_from (k ∷ ks) (b ∷ bs) h = and_from _ _ (h 0 (omega arith)) (covers_from ks bs (λ var below. h (suc var) (omega arith)))

pub covers_at : (edge_vars known : List Bool) (var : ℕ) → covers edge_vars known ≡ true → var < length edge_vars → is_known known var ≡ true
covers_at [] known var h below = absurd (omega arith)
covers_at (k ∷ ks) [] var h below = absurd (true≢false (sym h))
covers_at (k ∷ ks) (b ∷ bs) zero h below = (and_parts _ _ h).0
covers_at (k ∷ ks) (b ∷ bs) (suc var) h below = covers_at ks bs var (and_parts b _ h).1 (omega arith)

-- where no step is possible after steps, they are a plan
pub all_known : (pattern : Pattern) (start : ℕ) (known : List Bool) (plan : List Step) → is_valid_pattern pattern ≡ true → start < length pattern.edge_vars →
    are_steps pattern.atoms known plan ≡ true → is_known (known_after known plan) start ≡ true → list_all (is_closed_at (known_after known plan)) pattern.atoms ≡ true →
    completes pattern known plan ≡ true
all_known pattern start known plan valid below steps at closed =
    and_from _ _ steps
    (covers_from pattern.edge_vars (known_after known plan)
    (λ var inside. closed_linked (known_after known plan) pattern.atoms closed (all_linked pattern valid start var below inside) at))
