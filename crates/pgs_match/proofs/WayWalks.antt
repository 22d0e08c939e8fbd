-- How many look-ups a search along the way to some variables takes at most, by what the routes and the walks come to.
use Rattle.std.proofs.Common.{◌≡◌, ◌≢◌, ◌⊎◌, inl, inr, ℕ, suc, ◌+◌, zero-add, ◌*◌, ◌<◌, ◌≤◌, Bool, true, false, ◌&&◌, ◌||◌, cond, ⊎_elim, List, [], ◌∷◌, length, Option, Some, None, refl, sym, ◌∙◌, ap, subst, true≢false, arith}
use Rattle.std.specs.Prelude.{filter_map, option_and_then}
use Rattle.std.specs.Option.{option_map_or}
use Rattle.std.specs.List.{list_any, sum_by}
use Rattle.std.proofs.Math.Nat.{mul-le-mul_right}
use Rattle.std.proofs.lemmas.Bool.{and_parts, and_from, or_left, or_right, eqb-true, eq-eqb}
use Rattle.std.proofs.lemmas.List.{length-set}
use Rattle.std.proofs.lemmas.List.Sums.{sum_by-cons}
use Rattle.pgs_base.specs.Graph.{Graph}
use Rattle.pgs_syntax.specs.declared.pattern.Atom.{Atom}
use Rattle.pgs_syntax.specs.declared.resolved.Resolved.{Resolved}
use Rattle.pgs_match.specs.declared.step.Step.{Step}
use Rattle.pgs_match.specs.declared.step.Step.TheVariants.{Along, End}
use Rattle.pgs_match.specs.declared.bindings.Bound.{Bound}
use Rattle.pgs_match.specs.Bounds.{bound_at, with_bound, nothing_bound, end_at}
use Rattle.pgs_match.specs.Branches.{goes_from, degree_at, next_bounds, walked, asked_most}
use Rattle.pgs_match.specs.Plans.{bound_by, is_known, and_known, is_step, are_steps}
use Rattle.pgs_match.specs.Routes.{is_on_way, on_way, off_way, way_most, routed}
use Rattle.pgs_match.specs.Search.{edges_along}
use Rattle.pgs_match.specs.Tests.{admitted_node, admitted_edge}
use Rattle.pgs_match.proofs.BranchCosts.{sum_filter_map, sum_more, sum_times, listed_few, walked_least, asked_by_walks}
use Rattle.pgs_match.proofs.Known.{known_now, known_still}
use Rattle.pgs_match.proofs.OnWay.{is_wanted, step_from, step_new}
use Rattle.pgs_match.proofs.Standing.{bound_now, known_other, one_or_other}
use Rattle.pgs_match.proofs.WayCosts.{not_from, unknown_before}

-- ---- what each route takes

module _ (resolved : Resolved) (g : Graph) (atoms : List Atom) (off : List Step) (short : length off ≤ 19) (last : ℕ) (small : last ≤ 16) where
  one_asked : (var : ℕ) (x : Bound) → asked_most resolved g atoms off var x ≤ 76 * walked resolved g atoms off var x
  one_asked var x =
      let asked = asked_by_walks resolved g atoms off var x in
      let product = mul-le-mul_right (walked resolved g atoms off var x) short in
      omega arith

  pub way_by_routes : (ways : List Step) (b : List (Option Bound)) → way_most resolved g atoms off last ways b ≤ 80 * routed resolved g atoms off ways b
  way_by_routes [] b = omega arith
  way_by_routes (Along edge node forward ∷ ways) b =
      let ids = edges_along g forward (bound_at b node) in
      let own = sum_more (λ id. option_map_or (λ x. asked_most resolved g atoms off edge x + way_most resolved g atoms off last ways (with_bound b edge x)) (admitted_edge resolved g atoms edge id) 0) ids in
      let most = sum_times (λ id. option_map_or (λ x. asked_most resolved g atoms off edge x + way_most resolved g atoms off last ways (with_bound b edge x)) (admitted_edge resolved g atoms edge id) 0)
      (λ id. option_map_or (λ x. walked resolved g atoms off edge x + routed resolved g atoms off ways (with_bound b edge x)) (admitted_edge resolved g atoms edge id) 0) 80
      (λ id. each (λ x. way_by_routes ways (with_bound b edge x)) (admitted_edge resolved g atoms edge id)) ids in
      omega arith
    where
      each : ((x : Bound) → way_most resolved g atoms off last ways (with_bound b edge x) ≤ 80 * routed resolved g atoms off ways (with_bound b edge x)) → (o : Option Bound) → option_map_or (λ x. asked_most resolved g atoms off edge x + way_most resolved g atoms off last ways (with_bound b edge x)) o 0
          ≤ 80 * option_map_or (λ x. walked resolved g atoms off edge x + routed resolved g atoms off ways (with_bound b edge x)) o 0
      each again None = omega arith
      each again (Some x) = let asked = one_asked edge x in let rest = again x in omega (arith, asked, rest)
  way_by_routes (End edge node source ∷ ways) b = by (λ x. way_by_routes ways (with_bound b node x)) (option_and_then (admitted_node resolved g atoms node) (end_at source (bound_at b edge)))
    where
      by : ((x : Bound) → way_most resolved g atoms off last ways (with_bound b node x) ≤ 80 * routed resolved g atoms off ways (with_bound b node x)) → (o : Option Bound) → 1 + option_map_or (λ x. asked_most resolved g atoms off node x + way_most resolved g atoms off last ways (with_bound b node x)) o 0
          ≤ 80 * (2 + option_map_or (λ x. walked resolved g atoms off node x + routed resolved g atoms off ways (with_bound b node x)) o 0)
      by again None = omega arith
      by again (Some x) = let asked = one_asked node x in let rest = again x in omega (arith, asked, rest)

  pub ways_routed : (ways : List Step) (var : ℕ) (x : Bound) → 3 + (asked_most resolved g atoms off var x + way_most resolved g atoms off last ways (with_bound nothing_bound var x))
      ≤ 80 * (walked resolved g atoms off var x + routed resolved g atoms off ways (with_bound nothing_bound var x))
  ways_routed ways var x =
      let asked = one_asked var x in
      let rest = way_by_routes ways (with_bound nothing_bound var x) in
      let least = walked_least resolved g atoms off var x in
      omega arith

pub off_short : (wanted : List ℕ) (plan : List Step) → length (off_way wanted plan) ≤ length plan
off_short wanted [] = omega arith
off_short wanted (step ∷ plan) = by (is_on_way wanted (on_way wanted plan) step) (off_short wanted plan)
  where
    by : (b : Bool) → length (off_way wanted plan) ≤ length plan → length (cond b (off_way wanted plan) (step ∷ off_way wanted plan)) ≤ suc (length plan)
    by true rest = omega (arith, rest)
    by false rest = omega (arith, rest)

-- ---- the way to one variable is a chain

-- from which variable a step goes
abbrev from : Step → ℕ
from (Along edge node forward) = node
from (End edge node source) = edge

goes : (step : Step) → goes_from (from step) step ≡ true
goes (Along edge node forward) = eq-eqb node node refl
goes (End edge node source) = eq-eqb edge edge refl

from_one : (step : Step) (var : ℕ) → goes_from var step ≡ true → from step ≡ var
from_one (Along edge node forward) var h = eqb-true node var h
from_one (End edge node source) var h = eqb-true edge var h

-- each step goes from what the one before bound, the first from a variable
abbrev pub is_chain : ℕ → List Step → Bool
is_chain head [] = true
is_chain head (step ∷ ways) = goes_from head step && is_chain (bound_by step) ways

module _ (atoms : List Atom) (wanted : List ℕ) where
  abbrev AllKnown : List Bool → Type 0
  AllKnown known = (var : ℕ) → is_wanted wanted var ≡ true → is_known known var ≡ true

  -- no way leads on where all wanted variables are known
  none_on : (plan : List Step) (known : List Bool) → are_steps atoms known plan ≡ true → AllKnown known → on_way wanted plan ≡ []
  none_on [] known steps all = refl
  none_on (step ∷ plan) known steps all =
      let parts = and_parts (is_step atoms known step) _ steps in
      let rest = none_on plan (and_known known (bound_by step)) parts.1 (λ var want. known_still known (bound_by step) var (all var want)) in
      ap (λ ways. cond (is_on_way wanted ways step) (step ∷ ways) ways) rest ∙ by (is_wanted wanted (bound_by step)) refl parts.0
    where
      by : (b : Bool) → is_wanted wanted (bound_by step) ≡ b → is_step atoms known step ≡ true → cond (is_wanted wanted (bound_by step) || false) (step ∷ []) [] ≡ []
      by true want is = absurd (true≢false (sym (all (bound_by step) want) ∙ step_new atoms known step is))
      by false none is = ap (λ b. cond (b || false) (step ∷ []) []) none

  -- only the first step of a chain goes from a variable that is known
  only_first : (plan : List Step) (known : List Bool) (var head : ℕ) → are_steps atoms known plan ≡ true → is_known known var ≡ true → list_any (goes_from var) (on_way wanted plan) ≡ true →
      is_chain head (on_way wanted plan) ≡ true → var ≡ head
  only_first [] known var head steps at some chain = absurd (true≢false (sym some))
  only_first (step ∷ plan) known var head steps at some chain =
      let parts = and_parts (is_step atoms known step) _ steps in
      by (is_on_way wanted (on_way wanted plan) step) some chain parts.0
      (λ other rest_some rest_chain. only_first plan (and_known known (bound_by step)) var other parts.1 (known_still known (bound_by step) var at) rest_some rest_chain)
    where
      first : (b : Bool) → goes_from var step ≡ b → (b || list_any (goes_from var) (on_way wanted plan)) ≡ true → goes_from head step ≡ true → is_chain (bound_by step) (on_way wanted plan) ≡ true →
          is_step atoms known step ≡ true → ((other : ℕ) → list_any (goes_from var) (on_way wanted plan) ≡ true → is_chain other (on_way wanted plan) ≡ true → var ≡ other) → var ≡ head
      first true here some_of own rest_chain is again = sym (from_one step var here) ∙ from_one step head own
      first false here some_of own rest_chain is again =
          let same = again (bound_by step) some_of rest_chain in absurd (true≢false (sym at ∙ ap (is_known known) same ∙ step_new atoms known step is))

      by : (b : Bool) → list_any (goes_from var) (cond b (step ∷ on_way wanted plan) (on_way wanted plan)) ≡ true → is_chain head (cond b (step ∷ on_way wanted plan) (on_way wanted plan)) ≡ true →
          is_step atoms known step ≡ true → ((other : ℕ) → list_any (goes_from var) (on_way wanted plan) ≡ true → is_chain other (on_way wanted plan) ≡ true → var ≡ other) → var ≡ head
      by true some_of chain_of is again = let own = and_parts (goes_from head step) _ chain_of in first (goes_from var step) refl some_of own.0 own.1 is again
      by false some_of chain_of is again = again head some_of chain_of

  abbrev pub IsChained : List Step → List Bool → Type 0
  IsChained ways known = (ways ≡ []) ⊎ ((head : ℕ) × (is_known known head ≡ true) × (is_chain head ways ≡ true))

  module _ (start other : ℕ) (only : (var : ℕ) → is_wanted wanted var ≡ true → (var ≡ start) ⊎ (var ≡ other)) where
    -- one step more, on the way or off it
    module _ (step : Step) (plan : List Step) (known : List Bool) (is : is_step atoms known step ≡ true) (size : length known ≡ 20) (below : bound_by step < 20)
        (steps : are_steps atoms (and_known known (bound_by step)) plan ≡ true) (begun : is_known known start ≡ true) where
      -- after the wanted variable nothing is on the way
      last_on : is_wanted wanted (bound_by step) ≡ true → on_way wanted plan ≡ []
      last_on want = ⊎_elim (λ is_start. absurd (true≢false (sym begun ∙ ap (is_known known) (sym is_start) ∙ step_new atoms known step is)))
          (λ is_other. none_on plan (and_known known (bound_by step)) steps (λ var want_too. ⊎_elim
          (λ same. ap (is_known (and_known known (bound_by step))) same ∙ known_still known (bound_by step) start begun)
          (λ same. ap (is_known (and_known known (bound_by step))) (same ∙ sym is_other) ∙ known_now known (bound_by step) (omega (arith, size, below))) (only var want_too))) (only (bound_by step) want)

      chained_on : is_on_way wanted (on_way wanted plan) step ≡ true → IsChained (on_way wanted plan) (and_known known (bound_by step)) → IsChained (step ∷ on_way wanted plan) known
      chained_on on rest = inr (from step, step_from atoms known step (from step) is (goes step), and_from _ _ (goes step) (by (is_wanted wanted (bound_by step)) refl on rest))
        where
          by : (b : Bool) → is_wanted wanted (bound_by step) ≡ b → (b || list_any (goes_from (bound_by step)) (on_way wanted plan)) ≡ true →
              IsChained (on_way wanted plan) (and_known known (bound_by step)) → is_chain (bound_by step) (on_way wanted plan) ≡ true
          by true want on_of rest_of = ap (is_chain (bound_by step)) (last_on want)
          by false none on_of (inl empty) = ap (is_chain (bound_by step)) empty
          by false none on_of (inr chain) =
              let same = only_first plan (and_known known (bound_by step)) (bound_by step) chain.0 steps (known_now known (bound_by step) (omega (arith, size, below))) on_of chain.2 in
              subst (λ v. is_chain v (on_way wanted plan) ≡ true) (sym same) chain.2

      chained_off : is_on_way wanted (on_way wanted plan) step ≡ false → IsChained (on_way wanted plan) (and_known known (bound_by step)) → IsChained (on_way wanted plan) known
      chained_off off (inl empty) = inl empty
      chained_off off (inr chain) = by (on_way wanted plan) refl chain.2 (one_or_other chain.0 (bound_by step))
        where
          by : (ways : List Step) → on_way wanted plan ≡ ways → is_chain chain.0 ways ≡ true → (chain.0 ≡ bound_by step) ⊎ (chain.0 ≢ bound_by step) → IsChained (on_way wanted plan) known
          by [] same chain_of which = inl same
          by (way ∷ ways) same chain_of (inl here) =
              absurd (true≢false (sym (or_right (is_wanted wanted (bound_by step)) _ (ap (list_any (goes_from (bound_by step))) same
              ∙ or_left _ _ (subst (λ v. goes_from v way ≡ true) here (and_parts (goes_from chain.0 way) _ chain_of).0))) ∙ off))
          by (way ∷ ways) same chain_of (inr apart) = inr (chain.0, sym (known_other known (bound_by step) chain.0 apart) ∙ chain.1, chain.2)

    -- the steps on the way are a chain from a variable that is known
    pub chained : (plan : List Step) (known : List Bool) → length known ≡ 20 → are_steps atoms known plan ≡ true → ((step : Step) (now : List Bool) → is_step atoms now step ≡ true → bound_by step < 20) →
        is_known known start ≡ true → IsChained (on_way wanted plan) known
    chained [] known size steps inside begun = inl refl
    chained (step ∷ plan) known size steps inside begun =
        let parts = and_parts (is_step atoms known step) _ steps in
        let below = inside step known parts.0 in
        let rest = chained plan (and_known known (bound_by step)) (length-set known (bound_by step) true ∙ size) parts.1 inside (known_still known (bound_by step) start begun) in
        by (is_on_way wanted (on_way wanted plan) step) refl (λ on. chained_on step plan known parts.0 size below parts.1 begun on rest) (λ off. chained_off step plan known parts.0 size below parts.1 begun off rest)
      where
        by : (b : Bool) → is_on_way wanted (on_way wanted plan) step ≡ b → (is_on_way wanted (on_way wanted plan) step ≡ true → IsChained (step ∷ on_way wanted plan) known) →
            (is_on_way wanted (on_way wanted plan) step ≡ false → IsChained (on_way wanted plan) known) → IsChained (cond b (step ∷ on_way wanted plan) (on_way wanted plan)) known
        by true on first other = first on
        by false off first other = other off

-- ---- what is come to along a chain is what the walks come to

module _ (resolved : Resolved) (g : Graph) (atoms : List Atom) (wanted : List ℕ) where
  -- fewer steps lead to fewer
  off_less : (plan : List Step) (var : ℕ) (x : Bound) → walked resolved g atoms (off_way wanted plan) var x ≤ walked resolved g atoms plan var x
  off_less [] var x = omega arith
  off_less (step ∷ plan) var x =
      let some = sum_times (walked resolved g atoms (off_way wanted plan) (bound_by step)) (walked resolved g atoms plan (bound_by step)) 1 (λ y. let less = off_less plan (bound_by step) y in omega (arith, less)) (next_bounds resolved g atoms step x) in
      by (is_on_way wanted (on_way wanted plan) step) (off_less plan var x) (one (goes_from var step) (off_less plan var x) some)
    where
      one : (from_it : Bool) → walked resolved g atoms (off_way wanted plan) var x ≤ walked resolved g atoms plan var x →
          sum_by (walked resolved g atoms (off_way wanted plan) (bound_by step)) (next_bounds resolved g atoms step x) ≤ 1 * sum_by (walked resolved g atoms plan (bound_by step)) (next_bounds resolved g atoms step x) →
          cond from_it (sum_by (walked resolved g atoms (off_way wanted plan) (bound_by step)) (next_bounds resolved g atoms step x)) 0 + walked resolved g atoms (off_way wanted plan) var x
          ≤ cond from_it (sum_by (walked resolved g atoms plan (bound_by step)) (next_bounds resolved g atoms step x)) 0 + walked resolved g atoms plan var x
      one true rest some = omega (arith, rest, some)
      one false rest some = omega (arith, rest)

      by : (b : Bool) → walked resolved g atoms (off_way wanted plan) var x ≤ walked resolved g atoms plan var x →
          walked resolved g atoms (step ∷ off_way wanted plan) var x ≤ walked resolved g atoms (step ∷ plan) var x →
          walked resolved g atoms (cond b (off_way wanted plan) (step ∷ off_way wanted plan)) var x ≤ walked resolved g atoms (step ∷ plan) var x
      by true rest own = omega (arith, rest)
      by false rest own = own

  module _ (off : List Step) where
    -- what hangs on a variable that isn't known yet hangs there by the steps that are left
    abbrev pub IsLeft : List Step → List Bool → Type 0
    IsLeft left known = (var : ℕ) (x : Bound) → is_known known var ≡ false → walked resolved g atoms off var x ≡ walked resolved g atoms left var x

    left_on : (step : Step) (plan : List Step) (known : List Bool) → is_step atoms known step ≡ true → (b : Bool) → IsLeft (cond b (off_way wanted plan) (step ∷ off_way wanted plan)) known →
        IsLeft (off_way wanted plan) (and_known known (bound_by step))
    left_on step plan known is true all var x after = all var x (unknown_before known (bound_by step) var after)
    left_on step plan known is false all var x after =
        let before = unknown_before known (bound_by step) var after in
        all var x before
        ∙ ap (λ b. cond b (sum_by (walked resolved g atoms (off_way wanted plan) (bound_by step)) (next_bounds resolved g atoms step x)) 0 + walked resolved g atoms (off_way wanted plan) var x) (not_from atoms known step var is before)
        ∙ zero-add (walked resolved g atoms (off_way wanted plan) var x)

    -- a step on the way from the end of the chain
    abbrev Follows : List Step → ℕ → Type 0
    Follows plan var = (y : Bound) (b : List (Option Bound)) → length b ≡ 20 → bound_at b var ≡ Some y →
        walked resolved g atoms (off_way wanted plan) var y + routed resolved g atoms off (on_way wanted plan) b ≤ 2 * walked resolved g atoms plan var y

    step_routed : (step : Step) (plan : List Step) (head : ℕ) (x : Bound) (b : List (Option Bound)) → length b ≡ 20 → bound_by step < 20 → bound_at b head ≡ Some x → goes_from head step ≡ true →
        ((y : Bound) → walked resolved g atoms off (bound_by step) y ≡ walked resolved g atoms (off_way wanted plan) (bound_by step) y) → Follows plan (bound_by step) →
        routed resolved g atoms off (step ∷ on_way wanted plan) b ≤ degree_at g x + 2 + 2 * sum_by (walked resolved g atoms plan (bound_by step)) (next_bounds resolved g atoms step x)
    step_routed (Along edge node forward) plan head x b size below at from_it left follows =
        subst (λ o. length (edges_along g forward o) + 2 + sum_by (λ id. option_map_or (λ y. walked resolved g atoms off edge y + routed resolved g atoms off (on_way wanted plan) (with_bound b edge y)) (admitted_edge resolved g atoms edge id) 0) (edges_along g forward o)
        ≤ degree_at g x + 2 + 2 * sum_by (walked resolved g atoms plan edge) (next_bounds resolved g atoms (Along edge node forward) x))
        (sym (ap (bound_at b) (eqb-true node head from_it) ∙ at)) here
      where
        each : (o : Option Bound) → option_map_or (λ y. walked resolved g atoms off edge y + routed resolved g atoms off (on_way wanted plan) (with_bound b edge y)) o 0 ≤ 2 * option_map_or (walked resolved g atoms plan edge) o 0
        each None = omega arith
        each (Some y) =
            let same = left y in
            let rest = follows y (with_bound b edge y) (length-set b edge (Some y) ∙ size) (bound_now b edge y (omega (arith, size, below))) in
            omega (arith, same, rest)

        here : length (edges_along g forward (Some x)) + 2 + sum_by (λ id. option_map_or (λ y. walked resolved g atoms off edge y + routed resolved g atoms off (on_way wanted plan) (with_bound b edge y)) (admitted_edge resolved g atoms edge id) 0) (edges_along g forward (Some x))
            ≤ degree_at g x + 2 + 2 * sum_by (walked resolved g atoms plan edge) (filter_map (admitted_edge resolved g atoms edge) (edges_along g forward (Some x)))
        here =
            let few = listed_few resolved g atoms forward x in
            let sums = sum_times (λ id. option_map_or (λ y. walked resolved g atoms off edge y + routed resolved g atoms off (on_way wanted plan) (with_bound b edge y)) (admitted_edge resolved g atoms edge id) 0)
            (λ id. option_map_or (walked resolved g atoms plan edge) (admitted_edge resolved g atoms edge id) 0) 2 (λ id. each (admitted_edge resolved g atoms edge id)) (edges_along g forward (Some x)) in
            let same = sum_filter_map (walked resolved g atoms plan edge) (admitted_edge resolved g atoms edge) (edges_along g forward (Some x)) in
            omega arith
    step_routed (End edge node source) plan head x b size below at from_it left follows =
        subst (λ o. 2 + option_map_or (λ y. walked resolved g atoms off node y + routed resolved g atoms off (on_way wanted plan) (with_bound b node y)) (option_and_then (admitted_node resolved g atoms node) (end_at source o)) 0
        ≤ degree_at g x + 2 + 2 * sum_by (walked resolved g atoms plan node) (next_bounds resolved g atoms (End edge node source) x))
        (sym (ap (bound_at b) (eqb-true edge head from_it) ∙ at)) (by (option_and_then (admitted_node resolved g atoms node) (end_at source (Some x))))
      where
        by : (o : Option Bound) → 2 + option_map_or (λ y. walked resolved g atoms off node y + routed resolved g atoms off (on_way wanted plan) (with_bound b node y)) o 0
            ≤ degree_at g x + 2 + 2 * sum_by (walked resolved g atoms plan node) (option_map_or (λ next. next ∷ []) o [])
        by None = omega arith
        by (Some y) =
            let same = left y in
            let rest = follows y (with_bound b node y) (length-set b node (Some y) ∙ size) (bound_now b node y (omega (arith, size, below))) in
            let one = sum_by-cons (walked resolved g atoms plan node) y [] in
            omega (arith, same, rest, one)

    pub routed_walked : (plan : List Step) (known : List Bool) (head : ℕ) → are_steps atoms known plan ≡ true → ((step : Step) (now : List Bool) → is_step atoms now step ≡ true → bound_by step < 20) →
        IsLeft (off_way wanted plan) known → is_chain head (on_way wanted plan) ≡ true → Follows plan head
    routed_walked [] known head steps inside left chain x b size at = omega arith
    routed_walked (step ∷ plan) known head steps inside left chain x b size at =
        let parts = and_parts (is_step atoms known step) _ steps in
        let on = is_on_way wanted (on_way wanted plan) step in
        let later = left_on step plan known parts.0 on left in
        by on left chain parts.0
        (λ next chain_of. routed_walked plan (and_known known (bound_by step)) next parts.1 inside later chain_of)
      where
        off_it : (from_it : Bool) (one other routes_of rest : ℕ) → one ≤ 1 * other → walked resolved g atoms (off_way wanted plan) head x + routes_of ≤ 2 * rest →
            cond from_it one 0 + walked resolved g atoms (off_way wanted plan) head x + routes_of ≤ 2 * (cond from_it other 0 + rest)
        off_it true one other routes_of rest less before = omega (arith, less, before)
        off_it false one other routes_of rest less before = omega (arith, before)

        on_it : (from_it : Bool) → from_it ≡ true → (routes_of sum rest own : ℕ) → routes_of ≤ degree_at g x + 2 + 2 * sum → degree_at g x + 2 ≤ rest → own ≤ rest → own + routes_of ≤ 2 * (cond from_it sum 0 + rest)
        on_it true is routes_of sum rest own one two three = omega (arith, one, two, three)
        on_it false is routes_of sum rest own one two three = absurd (true≢false (sym is))

        by : (on : Bool) → IsLeft (cond on (off_way wanted plan) (step ∷ off_way wanted plan)) known → is_chain head (cond on (step ∷ on_way wanted plan) (on_way wanted plan)) ≡ true → is_step atoms known step ≡ true →
            ((next : ℕ) → is_chain next (on_way wanted plan) ≡ true → Follows plan next) →
            walked resolved g atoms (cond on (off_way wanted plan) (step ∷ off_way wanted plan)) head x + routed resolved g atoms off (cond on (step ∷ on_way wanted plan) (on_way wanted plan)) b ≤ 2 * walked resolved g atoms (step ∷ plan) head x
        by true left_so chain_of is again =
            let own = and_parts (goes_from head step) _ chain_of in
            on_it (goes_from head step) own.0 (routed resolved g atoms off (step ∷ on_way wanted plan) b) (sum_by (walked resolved g atoms plan (bound_by step)) (next_bounds resolved g atoms step x)) (walked resolved g atoms plan head x)
            (walked resolved g atoms (off_way wanted plan) head x)
            (step_routed step plan head x b size (inside step known is) at own.0 (λ y. left_so (bound_by step) y (step_new atoms known step is)) (again (bound_by step) own.1))
            (walked_least resolved g atoms plan head x) (off_less plan head x)
        by false left_so chain_of is again =
            off_it (goes_from head step) (sum_by (walked resolved g atoms (off_way wanted plan) (bound_by step)) (next_bounds resolved g atoms step x)) (sum_by (walked resolved g atoms plan (bound_by step)) (next_bounds resolved g atoms step x))
            (routed resolved g atoms off (on_way wanted plan) b) (walked resolved g atoms plan head x)
            (sum_times (walked resolved g atoms (off_way wanted plan) (bound_by step)) (walked resolved g atoms plan (bound_by step)) 1 (λ y. let less = off_less plan (bound_by step) y in omega (arith, less)) (next_bounds resolved g atoms step x))
            (again head chain_of x b size at)
