-- Bindings as a search has them: which variables are bound is known, and each is bound to an element of the graph that passes.
use Rattle.std.proofs.Common.{◌≡◌, ◌≢◌, ℕ, zero, suc, ◌<◌, Bool, true, false, cond, List, [], ◌∷◌, length, Option, Some, None, is_some, refl, sym, ◌∙◌, ap, subst, true≢false, arith, ◌⊎◌, inl, inr, ⊎_elim}
use Rattle.std.specs.Prelude.{option_and_then}
use Rattle.std.proofs.lemmas.List.{length-set}
use Rattle.pgs_base.specs.declared.element.NodeId.{NodeId}
use Rattle.pgs_base.specs.declared.element.EdgeId.{EdgeId}
use Rattle.pgs_base.specs.declared.element.Elem.TheVariants.{Node, Edge}
use Rattle.pgs_base.specs.declared.row.NodeRow.{NodeRow}
use Rattle.pgs_base.specs.declared.row.EdgeRow.{EdgeRow}
use Rattle.pgs_base.specs.Graph.{Graph, node_at, edge_at}
use Rattle.pgs_syntax.specs.declared.pattern.Pattern.{Pattern}
use Rattle.pgs_syntax.specs.declared.resolved.Resolved.{Resolved}
use Rattle.pgs_syntax.specs.Valid.{is_edge_var, is_node_var}
use Rattle.pgs_match.specs.Plans.{is_known, and_known}
use Rattle.pgs_match.proofs.Known.{known_now}
use Rattle.pgs_match.specs.declared.bindings.Bound.{Bound}
use Rattle.pgs_match.specs.declared.bindings.Bound.TheVariants as bounds
use Rattle.pgs_match.specs.Bounds.{elem_of, bound_at, with_bound}
use Rattle.pgs_match.specs.Tests.{node_passes, edge_passes, admitted_node, admitted_edge}

-- ---- one variable more is bound

pub bound_now : (b : List (Option Bound)) (var : ℕ) (x : Bound) → var < length b → bound_at (with_bound b var x) var ≡ Some x
bound_now [] var x below = absurd (omega arith)
bound_now (o ∷ os) zero x below = refl
bound_now (o ∷ os) (suc var) x below = bound_now os var x (omega arith)

pub bound_other : (b : List (Option Bound)) (var other : ℕ) (x : Bound) → other ≢ var → bound_at (with_bound b var x) other ≡ bound_at b other
bound_other [] var other x apart = refl
bound_other (o ∷ os) zero zero x apart = absurd (apart refl)
bound_other (o ∷ os) zero (suc other) x apart = refl
bound_other (o ∷ os) (suc var) zero x apart = refl
bound_other (o ∷ os) (suc var) (suc other) x apart = bound_other os var other x (λ same. apart (ap suc same))

pub known_other : (known : List Bool) (var other : ℕ) → other ≢ var → is_known (and_known known var) other ≡ is_known known other
known_other [] var other apart = refl
known_other (o ∷ os) zero zero apart = absurd (apart refl)
known_other (o ∷ os) zero (suc other) apart = refl
known_other (o ∷ os) (suc var) zero apart = refl
known_other (o ∷ os) (suc var) (suc other) apart = known_other os var other (λ same. apart (ap suc same))

-- two numbers are one, or not
pub one_or_other : (a b : ℕ) → (a ≡ b) ⊎ (a ≢ b)
one_or_other zero zero = inl refl
one_or_other zero (suc b) = inr (λ h. omega arith)
one_or_other (suc a) zero = inr (λ h. omega arith)
one_or_other (suc a) (suc b) = ⊎_elim (λ same. inl (ap suc same)) (λ apart. inr (λ h. apart (omega arith))) (one_or_other a b)

-- ---- what is bound

module _ (resolved : Resolved) (g : Graph) (pattern : Pattern) where
  -- a variable may be bound to this
  abbrev pub IsGood : ℕ → Bound → Type 0
  IsGood var (bounds.Node id) =
      (is_node_var pattern.edge_vars var ≡ true) × ((own : NodeRow) × (node_at g id ≡ Some own) × (node_passes resolved pattern.atoms var own ≡ true))
  IsGood var (bounds.Edge id source target) =
      (is_edge_var pattern.edge_vars var ≡ true)
      × ((row : EdgeRow) × (edge_at g id ≡ Some row) × (row.source ≡ source) × (row.target ≡ target) × (edge_passes resolved g pattern.atoms var row ≡ true))

  -- what is admitted is the element
  pub node_elem : (var : ℕ) (id : NodeId) (x : Bound) → admitted_node resolved g pattern.atoms var id ≡ Some x → elem_of x ≡ Node id
  node_elem var id x h = by (node_at g id) h
    where
      inner : (b : Bool) → cond b (Some (bounds.Node id)) None ≡ Some x → elem_of x ≡ Node id
      inner true found = let same : bounds.Node id ≡ x = cc in ap elem_of (sym same)
      inner false found = cc

      by : (o : Option NodeRow) → option_and_then (λ (own : NodeRow). cond (node_passes resolved pattern.atoms var own) (Some (bounds.Node id)) None) o ≡ Some x → elem_of x ≡ Node id
      by None found = cc
      by (Some own) found = inner (node_passes resolved pattern.atoms var own) found

  pub edge_elem : (var : ℕ) (id : EdgeId) (x : Bound) → admitted_edge resolved g pattern.atoms var id ≡ Some x → elem_of x ≡ Edge id
  edge_elem var id x h = by (edge_at g id) h
    where
      inner : (row : EdgeRow) (b : Bool) → cond b (Some (bounds.Edge id row.source row.target)) None ≡ Some x → elem_of x ≡ Edge id
      inner row true found = let same : bounds.Edge id row.source row.target ≡ x = cc in ap elem_of (sym same)
      inner row false found = cc

      by : (o : Option EdgeRow) →
          option_and_then (λ (row : EdgeRow). cond (edge_passes resolved g pattern.atoms var row) (Some (bounds.Edge id row.source row.target)) None) o ≡ Some x → elem_of x ≡ Edge id
      by None found = cc
      by (Some row) found = inner row (edge_passes resolved g pattern.atoms var row) found

  pub admitted_node_good : (var : ℕ) (id : NodeId) (x : Bound) → is_node_var pattern.edge_vars var ≡ true → admitted_node resolved g pattern.atoms var id ≡ Some x → IsGood var x
  admitted_node_good var id x kind h = by (node_at g id) refl h
    where
      inner : (own : NodeRow) → node_at g id ≡ Some own → (b : Bool) → node_passes resolved pattern.atoms var own ≡ b → cond b (Some (bounds.Node id)) None ≡ Some x → IsGood var x
      inner own at true passes found = let same : bounds.Node id ≡ x = cc in subst (IsGood var) same (kind, (own, at, passes))
      inner own at false passes found = cc

      by : (o : Option NodeRow) → node_at g id ≡ o →
          option_and_then (λ (own : NodeRow). cond (node_passes resolved pattern.atoms var own) (Some (bounds.Node id)) None) o ≡ Some x → IsGood var x
      by None at found = cc
      by (Some own) at found = inner own at (node_passes resolved pattern.atoms var own) refl found

  pub admitted_edge_good : (var : ℕ) (id : EdgeId) (x : Bound) → is_edge_var pattern.edge_vars var ≡ true → admitted_edge resolved g pattern.atoms var id ≡ Some x → IsGood var x
  admitted_edge_good var id x kind h = by (edge_at g id) refl h
    where
      inner : (row : EdgeRow) → edge_at g id ≡ Some row → (b : Bool) → edge_passes resolved g pattern.atoms var row ≡ b →
          cond b (Some (bounds.Edge id row.source row.target)) None ≡ Some x → IsGood var x
      inner row at true passes found =
          let same : bounds.Edge id row.source row.target ≡ x = cc in subst (IsGood var) same (kind, (row, at, refl, refl, passes))
      inner row at false passes found = cc

      by : (o : Option EdgeRow) → edge_at g id ≡ o →
          option_and_then (λ (row : EdgeRow). cond (edge_passes resolved g pattern.atoms var row) (Some (bounds.Edge id row.source row.target)) None) o ≡ Some x → IsGood var x
      by None at found = cc
      by (Some row) at found = inner row at (edge_passes resolved g pattern.atoms var row) refl found

  pub node_admitted : (var : ℕ) (id : NodeId) (own : NodeRow) → node_at g id ≡ Some own → node_passes resolved pattern.atoms var own ≡ true →
      admitted_node resolved g pattern.atoms var id ≡ Some (bounds.Node id)
  node_admitted var id own at passes =
      ap (option_and_then (λ (p : NodeRow). cond (node_passes resolved pattern.atoms var p) (Some (bounds.Node id)) None)) at
      ∙ ap (λ b. cond b (Some (bounds.Node id)) None) passes

  pub edge_admitted : (var : ℕ) (id : EdgeId) (row : EdgeRow) → edge_at g id ≡ Some row → edge_passes resolved g pattern.atoms var row ≡ true →
      admitted_edge resolved g pattern.atoms var id ≡ Some (bounds.Edge id row.source row.target)
  edge_admitted var id row at passes =
      ap (option_and_then (λ (r : EdgeRow). cond (edge_passes resolved g pattern.atoms var r) (Some (bounds.Edge id r.source r.target)) None)) at
      ∙ ap (λ b. cond b (Some (bounds.Edge id row.source row.target)) None) passes

  pub record IsState (known : List Bool) (b : List (Option Bound)) : Type 0 where
    pub known_size : length known ≡ 20
    pub size : length b ≡ 20
    pub same : (var : ℕ) → is_known known var ≡ is_some (bound_at b var)
    pub good : (var : ℕ) (x : Bound) → bound_at b var ≡ Some x → IsGood var x

  module _ (known : List Bool) (b : List (Option Bound)) (state : IsState known b) where
    -- a known variable is bound
    pub is_bound : (var : ℕ) → is_known known var ≡ true → (x : Bound) × (bound_at b var ≡ Some x)
    is_bound var h = by (bound_at b var) refl
      where
        by : (o : Option Bound) → bound_at b var ≡ o → (x : Bound) × (bound_at b var ≡ Some x)
        by None e = absurd (true≢false (sym h ∙ state.same var ∙ ap is_some e))
        by (Some x) e = (x, e)

    -- with one more
    pub state_more : (var : ℕ) (x : Bound) → var < 20 → IsGood var x → IsState (and_known known var) (with_bound b var x)
    state_more var x below good =
        let here : var < length b = omega (arith, state.size) in
        let there : var < length known = omega (arith, state.known_size) in
        record {
          known_size = length-set known var true ∙ state.known_size;
          size = length-set b var (Some x) ∙ state.size;
          same = λ other.
              ⊎_elim
              (λ at. subst (λ v. is_known (and_known known var) v ≡ is_some (bound_at (with_bound b var x) v)) (sym at) (known_now known var there ∙ sym (ap is_some (bound_now b var x here))))
              (λ apart. known_other known var other apart ∙ state.same other ∙ sym (ap is_some (bound_other b var other x apart))) (one_or_other other var);
          good = λ other y at.
              ⊎_elim
              (λ is. let own : bound_at (with_bound b var x) var ≡ Some y = subst (λ v. bound_at (with_bound b var x) v ≡ Some y) is at in
              let same : x ≡ y = (let e : Some x ≡ Some y = sym (bound_now b var x here) ∙ own in cc) in
              subst (λ v. IsGood v y) (sym is) (subst (IsGood var) same good))
              (λ apart. state.good other y (sym (bound_other b var other x apart) ∙ at)) (one_or_other other var);
        }

    -- what was bound before stays so
    pub kept_more : (var : ℕ) (x : Bound) → is_known known var ≡ false → (other : ℕ) (y : Bound) → bound_at b other ≡ Some y → bound_at (with_bound b var x) other ≡ Some y
    kept_more var x unknown other y at =
        ⊎_elim (λ is. absurd (true≢false (sym (ap is_some at) ∙ sym (state.same other) ∙ ap (is_known known) is ∙ unknown)))
        (λ apart. bound_other b var other x apart ∙ at) (one_or_other other var)
