-- How many look-ups a search from one variable takes at most, and how many completions it comes to.
use Rattle.std.proofs.Common.{◌≡◌, ◌≢◌, ◌⊎◌, inl, inr, ℕ, zero, suc, ◌+◌, ◌*◌, ◌^◌, ◌<◌, ◌≤◌, Bool, true, false, cond, List, [], ◌∷◌, length, slice_get, replicate, Option, Some, refl, sym, ◌∙◌, ap, subst, true≢false, arith}
use Rattle.std.proofs.Math.Nat.{pow-succ', mul-le-mul_left, mul-le-mul_right}
use Rattle.std.proofs.lemmas.Bool.{and_parts}
use Rattle.std.proofs.lemmas.List.{length-set}
use Rattle.pgs_base.specs.declared.element.Elem.{Elem}
use Rattle.pgs_base.specs.Graph.{Graph, is_graph}
use Rattle.pgs_syntax.specs.declared.pattern.Pattern.{Pattern}
use Rattle.pgs_syntax.specs.declared.resolved.Resolved.{Resolved}
use Rattle.pgs_syntax.specs.Valid.{edge_count, is_valid_pattern}
use Rattle.pgs_match.specs.declared.step.Step.{Step}
use Rattle.pgs_match.specs.declared.step.Step.TheVariants.{Along, End}
use Rattle.pgs_match.specs.Plans.{is_known, and_known, known_alone, is_step, are_steps, is_plan}
use Rattle.pgs_match.proofs.Counts.{left, left_less}
use Rattle.pgs_match.proofs.Known.{valid_most}
use Rattle.pgs_match.specs.declared.bindings.Bound.{Bound}
use Rattle.pgs_match.specs.Bounds.{elem_of, with_bound, nothing_bound}
use Rattle.pgs_match.specs.Near.{IsSparse}
use Rattle.pgs_match.specs.Search.{completions, most_steps}
use Rattle.pgs_match.proofs.Completed.{step_facts, along_facts, end_facts}
use Rattle.pgs_match.proofs.Costs.{alongs, ends, one_at_least, along_most, few_steps, few_completions}
use Rattle.pgs_match.proofs.Nearby.{AreNear, near_alone}
use Rattle.pgs_match.proofs.Standing.{IsGood, known_other, one_or_other}
use Rattle.pgs_match.proofs.Started.{none_known}
use Rattle.pgs_match.proofs.There.{edge_kind, node_kind}

-- ---- powers

pub power_more : (d a w : ℕ) → a ≤ w → (d + 2) ^ a ≤ (d + 2) ^ w
power_more d a zero less = let same : a ≡ 0 = omega arith in rw same (omega arith)
power_more d a (suc w) less = by (one_or_other a (suc w)) (λ below. power_more d a w below)
  where
    by : (a ≡ suc w) ⊎ (a ≢ suc w) → (a ≤ w → (d + 2) ^ a ≤ (d + 2) ^ w) → (d + 2) ^ a ≤ (d + 2) ^ suc w
    by (inl same) rest = rw same (omega arith)
    by (inr apart) rest =
        let before = rest (omega arith) in
        let more = pow-succ' (d + 2) w in
        let least : 1 * (d + 2) ^ w ≤ (d + 2) * (d + 2) ^ w = mul-le-mul_right ((d + 2) ^ w) (omega arith) in
        omega arith

-- two more in the power
pub square : (d a : ℕ) → (d + 2) ^ suc (suc a) ≡ (d + 2) * ((d + 2) * (d + 2) ^ a)
square d a = pow-succ' (d + 2) (suc a) ∙ ap (λ p. (d + 2) * p) (pow-succ' (d + 2) a)

-- a plan from an edge
pub from_edge : (d power last ends_of steps whole : ℕ) → steps + 4 ≤ power * (last + 4 + ends_of) → last ≤ 16 → ends_of ≤ 19 → (d + 2) * ((d + 2) * power) ≤ whole → 3 + steps ≤ 16 * whole
from_edge d power last ends_of steps whole most small short less =
    let all : last + 4 + ends_of ≤ 39 = omega arith in
    let product = mul-le-mul_left power all in
    omega arith

-- a plan from a node that goes along its edges
from_node : (d power last ends_of steps whole : ℕ) → 1 ≤ power → steps ≤ d * (power * (last + 4 + ends_of)) + 1 → last ≤ 16 → ends_of ≤ 19 → (d + 2) * ((d + 2) * power) ≤ whole → 3 + steps ≤ 16 * whole
from_node d power last ends_of steps whole one most small short less =
    let all : last + 4 + ends_of ≤ 39 = omega arith in
    let product = mul-le-mul_left d (mul-le-mul_left power all) in
    omega arith

-- a plan of no steps
pub from_one : (d w last : ℕ) → last ≤ 16 → 3 + last ≤ 16 * (d + 2) ^ suc w
from_one d w last small =
    let more = pow-succ' (d + 2) w in
    let one = one_at_least d w in
    omega arith

-- ---- how long a plan is

-- an edge weighs 1
abbrev pub edge_weight : Bool → ℕ
edge_weight kind = cond kind 1 0

pub all_left : (edge_vars : List Bool) (n : ℕ) → (left edge_weight edge_vars (replicate n false) ≡ edge_count edge_vars) × (left (λ kind. 1) edge_vars (replicate n false) ≡ length edge_vars)
all_left [] n = (refl, refl)
all_left (k ∷ ks) zero = let rest = all_left ks 0 in (omega (arith, rest.0), omega (arith, rest.1))
all_left (k ∷ ks) (suc n) = let rest = all_left ks n in (omega (arith, rest.0), omega (arith, rest.1))

module _ (resolved : Resolved) (g : Graph) (pattern : Pattern) (valid : is_valid_pattern pattern ≡ true) where
  -- no more steps than variables are left, and no more edges than edge variables
  few_left : (plan : List Step) (known : List Bool) → length known ≡ 20 → are_steps pattern.atoms known plan ≡ true →
      (alongs plan ≤ left edge_weight pattern.edge_vars known) × (alongs plan + ends plan ≤ left (λ kind. 1) pattern.edge_vars known)
  few_left [] known size steps = (omega arith, omega arith)
  few_left (Along edge node forward ∷ plan) known size steps =
      let parts = and_parts (is_step pattern.atoms known (Along edge node forward)) _ steps in
      let facts = along_facts resolved g pattern valid known edge node forward parts.0 in
      let step = step_facts resolved g pattern valid known (Along edge node forward) parts.0 in
      let below : edge < length known = omega (arith, size, step.0) in
      let rest = few_left plan (and_known known edge) (length-set known edge true ∙ size) parts.1 in
      let one = left_less edge_weight pattern.edge_vars known edge true (edge_kind pattern.edge_vars edge facts.2) step.1 below in
      let other = left_less (λ kind. 1) pattern.edge_vars known edge true (edge_kind pattern.edge_vars edge facts.2) step.1 below in
      (omega (arith, rest.0, one), omega (arith, rest.1, other))
  few_left (End edge node source ∷ plan) known size steps =
      let parts = and_parts (is_step pattern.atoms known (End edge node source)) _ steps in
      let facts = end_facts resolved g pattern valid known edge node source parts.0 in
      let step = step_facts resolved g pattern valid known (End edge node source) parts.0 in
      let below : node < length known = omega (arith, size, step.0) in
      let rest = few_left plan (and_known known node) (length-set known node true ∙ size) parts.1 in
      let one = left_less edge_weight pattern.edge_vars known node false (node_kind pattern.edge_vars node facts.3) step.1 below in
      let other = left_less (λ kind. 1) pattern.edge_vars known node false (node_kind pattern.edge_vars node facts.3) step.1 below in
      (omega (arith, rest.0, one), omega (arith, rest.1, other))

  module _ (var : ℕ) (below : var < length pattern.edge_vars) (kind : Bool) (is : slice_get pattern.edge_vars var ≡ Some kind) (plan : List Step) (plans : is_plan pattern var plan ≡ true) where
    pub plan_size : (alongs plan + edge_weight kind ≤ edge_count pattern.edge_vars) × (alongs plan + ends plan + 1 ≤ 20)
    plan_size =
        let most = valid_most pattern valid in
        let unknown = none_known 20 var in
        let there : var < length (replicate 20 false) = omega arith in
        let all = all_left pattern.edge_vars 20 in
        let few = few_left plan (known_alone var) (length-set (replicate 20 false) var true) (and_parts _ _ plans).0 in
        let one = left_less edge_weight pattern.edge_vars (replicate 20 false) var kind is unknown there in
        let other = left_less (λ kind. 1) pattern.edge_vars (replicate 20 false) var kind is unknown there in
        (omega (arith, few.0, one, all.0), omega (arith, few.1, other, all.1))

    -- ---- the bound of the whole search

    module _ (graph : is_graph g ≡ true) (elem : Elem) (x : Bound) (good : IsGood resolved g pattern var x) (same : elem_of x ≡ elem) (w d : ℕ)
        (within : edge_count pattern.edge_vars ≤ w) (sparse : IsSparse g w elem d) where
      alone : AreNear g elem 0 (with_bound nothing_bound var x)
      alone = subst (λ e. AreNear g e 0 (with_bound nothing_bound var x)) same (near_alone resolved g pattern var x good)

      abbrev begun : List (Option Bound)
      begun = with_bound nothing_bound var x

      pub completions_most : length (completions resolved g pattern.atoms plan begun) ≤ (d + 2) ^ w
      completions_most =
          let size = plan_size in
          let some = few_completions resolved g graph pattern.atoms elem w d sparse plan begun 0 (omega (arith, size.0)) alone in
          let power = power_more d (alongs plan) w (omega (arith, size.0)) in
          omega arith

      module _ (last : ℕ) (small : last ≤ 16) where
        square_less : (a : ℕ) → suc a ≤ w → (d + 2) * ((d + 2) * (d + 2) ^ a) ≤ (d + 2) ^ suc w
        square_less a less = subst (λ p. p ≤ (d + 2) ^ suc w) (square d a) (power_more d (suc (suc a)) (suc w) (omega arith))

        -- no plan from a node begins with the end of an edge
        no_end_first : kind ≡ false → (edge node : ℕ) (source : Bool) → is_step pattern.atoms (known_alone var) (End edge node source) ≡ true → ⊥
        no_end_first node_first edge node source step =
            let facts = end_facts resolved g pattern valid (known_alone var) edge node source step in
            let at_edge = edge_kind pattern.edge_vars edge facts.2 in
            by (one_or_other edge var) facts.0 at_edge
          where
            by : (edge ≡ var) ⊎ (edge ≢ var) → is_known (known_alone var) edge ≡ true → slice_get pattern.edge_vars edge ≡ Some true → ⊥
            by (inl same) known at = let e : Some false ≡ Some true = ap Some (sym node_first) ∙ sym is ∙ ap (slice_get pattern.edge_vars) (sym same) ∙ at in cc
            by (inr apart) known at = true≢false (sym known ∙ known_other (replicate 20 false) var edge apart ∙ none_known 20 edge)

        few : (steps_of : List Step) (b : List (Option Bound)) (near : ℕ) → near + alongs steps_of ≤ w → AreNear g elem near b → most_steps resolved g pattern.atoms last steps_of b + 4 ≤ (d + 2) ^ alongs steps_of * (last + 4 + ends steps_of)
        few steps_of b near less all = few_steps resolved g graph pattern.atoms elem w d sparse last steps_of b near less all

        by_kind : (first : Bool) → kind ≡ first → (steps_of : List Step) → are_steps pattern.atoms (known_alone var) steps_of ≡ true → alongs steps_of + edge_weight first ≤ w → alongs steps_of + ends steps_of + 1 ≤ 20 →
            3 + most_steps resolved g pattern.atoms last steps_of begun ≤ 16 * (d + 2) ^ suc w
        by_kind true edge_first steps_of steps edges all_of =
            from_edge d ((d + 2) ^ alongs steps_of) last (ends steps_of) (most_steps resolved g pattern.atoms last steps_of begun) ((d + 2) ^ suc w)
            (few steps_of begun 0 (omega arith) alone) small (omega arith) (square_less (alongs steps_of) (omega arith))
        by_kind false node_first [] steps edges all_of = from_one d w last small
        by_kind false node_first (Along edge node forward ∷ rest) steps edges all_of =
            from_node d ((d + 2) ^ alongs rest) last (ends rest) (most_steps resolved g pattern.atoms last (Along edge node forward ∷ rest) begun) ((d + 2) ^ suc w) (one_at_least d (alongs rest))
            (along_most resolved g graph pattern.atoms elem w d sparse last edge node forward rest begun 0 (omega arith) alone (λ y near. few rest (with_bound begun edge y) 1 (omega arith) near))
            small (omega arith) (square_less (alongs rest) (omega arith))
        by_kind false node_first (End edge node source ∷ rest) steps edges all_of =
            absurd (no_end_first node_first edge node source (and_parts (is_step pattern.atoms (known_alone var) (End edge node source)) _ steps).0)

        pub steps_most : 3 + most_steps resolved g pattern.atoms last plan begun ≤ 16 * (d + 2) ^ suc w
        steps_most = let size = plan_size in by_kind kind refl plan (and_parts _ _ plans).0 (omega (arith, size.0)) size.1
