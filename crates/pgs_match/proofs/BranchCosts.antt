-- How many look-ups it takes at most to ask whether all that hangs on a variable can be given: branches add.
use Rattle.std.proofs.Common.{◌≡◌, ◌≢◌, ℕ, suc, ◌+◌, ◌*◌, ◌^◌, ◌<◌, ◌≤◌, Bool, true, false, ◌==◌, cond, ⊎_elim, List, [], ◌∷◌, length, slice_get, replicate, Option, Some, None, refl, sym, ◌∙◌, ap, subst, arith}
use Rattle.std.specs.Prelude.{filter_map, option_and_then}
use Rattle.std.specs.Option.{option_map_or}
use Rattle.std.specs.List.{sum_by, cons_option}
use Rattle.std.proofs.Math.Nat.{pow-zero, pow-succ', mul-le-mul_left, mul-le-mul_right}
use Rattle.std.proofs.lemmas.Bool.{and_parts, eqb-true}
use Rattle.std.proofs.lemmas.List.{length-set}
use Rattle.std.proofs.lemmas.List.Sums.{sum_by-cons}
use Rattle.pgs_base.specs.declared.element.EdgeId.{EdgeId}
use Rattle.pgs_base.specs.declared.element.Elem.{Elem}
use Rattle.pgs_base.specs.Graph.{Graph, is_graph}
use Rattle.pgs_syntax.specs.declared.pattern.Atom.{Atom}
use Rattle.pgs_syntax.specs.declared.pattern.Pattern.{Pattern}
use Rattle.pgs_syntax.specs.declared.resolved.Resolved.{Resolved}
use Rattle.pgs_syntax.specs.Valid.{edge_count, is_valid_pattern}
use Rattle.pgs_match.specs.declared.step.Step.{Step}
use Rattle.pgs_match.specs.declared.step.Step.TheVariants.{Along, End}
use Rattle.pgs_match.specs.declared.bindings.Bound.{Bound}
use Rattle.pgs_match.specs.declared.bindings.Bound.TheVariants as bounds
use Rattle.pgs_match.specs.Bounds.{elem_of, end_at}
use Rattle.pgs_match.specs.Branches.{goes_from, degree_at, next_bounds, walked, step_most, asked_most}
use Rattle.pgs_match.specs.Near.{IsSparse}
use Rattle.pgs_match.specs.Plans.{bound_by, is_known, and_known, known_alone, is_step, are_steps, is_plan}
use Rattle.pgs_match.specs.Search.{edges_along}
use Rattle.pgs_match.specs.Tests.{admitted_node, admitted_edge}
use Rattle.pgs_match.proofs.Bounded.{plan_size, power_more}
use Rattle.pgs_match.proofs.Completed.{step_facts}
use Rattle.pgs_match.proofs.Costs.{alongs, ends, sum_most, edges_near, node_near, few_edges, one_at_least}
use Rattle.pgs_match.proofs.Known.{known_now, valid_most}
use Rattle.pgs_match.proofs.Nearby.{IsNear, few_at, near_itself}
use Rattle.pgs_match.proofs.Standing.{IsGood, known_other, one_or_other}
use Rattle.pgs_match.proofs.Started.{none_known}

-- ---- by walks

-- the sum over what a function gives
pub sum_filter_map : {X Y : Type 0} (f : Y → ℕ) (h : X → Option Y) (xs : List X) → sum_by f (filter_map h xs) ≡ sum_by (λ x. option_map_or f (h x) 0) xs
sum_filter_map f h [] = refl
sum_filter_map {X} {Y} f h (x ∷ xs) = by (h x) (sum_filter_map f h xs) ∙ sym (sum_by-cons (λ z. option_map_or f (h z) 0) x xs)
  where
    by : (o : Option Y) → sum_by f (filter_map h xs) ≡ sum_by (λ z. option_map_or f (h z) 0) xs →
        sum_by f (cons_option o (filter_map h xs)) ≡ option_map_or f o 0 + sum_by (λ z. option_map_or f (h z) 0) xs
    by None rest = omega (arith, rest)
    by (Some y) rest = let cons = sum_by-cons f y (filter_map h xs) in omega (arith, rest)

-- three look-ups for each, and what each takes
pub sum_more : {X : Type 0} (f : X → ℕ) (xs : List X) → sum_by (λ x. 3 + f x) xs ≡ 3 * length xs + sum_by f xs
sum_more f [] = refl
sum_more f (x ∷ xs) =
    let rest = sum_more f xs in
    let one = sum_by-cons f x xs in
    let other = sum_by-cons (λ y. 3 + f y) x xs in
    omega arith

times_more : (most own all one rest : ℕ) → one ≤ most * own → rest ≤ most * all → one + rest ≤ most * (own + all)
times_more most own all one rest first second = omega arith

pub sum_times : {X : Type 0} (f h : X → ℕ) (most : ℕ) → ((x : X) → f x ≤ most * h x) → (xs : List X) → sum_by f xs ≤ most * sum_by h xs
sum_times f h most each [] = omega arith
sum_times f h most each (x ∷ xs) =
    subst (λ n. n ≤ most * sum_by h (x ∷ xs)) (sym (sum_by-cons f x xs))
    (subst (λ n. f x + sum_by f xs ≤ most * n) (sym (sum_by-cons h x xs)) (times_more most (h x) (sum_by h xs) (f x) (sum_by f xs) (each x) (sum_times f h most each xs)))

-- one step more: what it takes itself, what hangs on it, and the rest
added : (most walk branch own next rest : ℕ) → own ≤ 4 * walk → next ≤ 4 * most * branch → rest ≤ 4 * most * walk → own + next + rest ≤ 4 * suc most * (branch + walk)
added most walk branch own next rest one two three = omega arith

module _ (resolved : Resolved) (g : Graph) (atoms : List Atom) where
  pub walked_least : (plan : List Step) (var : ℕ) (x : Bound) → degree_at g x + 2 ≤ walked resolved g atoms plan var x
  walked_least [] var x = omega arith
  walked_least (step ∷ plan) var x = let rest = walked_least plan var x in omega arith

  pub listed_few : (forward : Bool) (x : Bound) → length (edges_along g forward (Some x)) ≤ degree_at g x
  listed_few forward (bounds.Node id) = few_at g (elem_of (bounds.Node id)) forward id
  listed_few forward (bounds.Edge id source target) = omega arith

  -- what a step takes, where what hangs on its variable takes at most so many times its walks
  step_by_walks : (step : Step) (x : Bound) (more walks : Bound → ℕ) (most : ℕ) → ((y : Bound) → more y ≤ 4 * most * walks y) →
      step_most resolved g atoms more step x ≤ 4 * (degree_at g x + 2) + 4 * most * sum_by walks (next_bounds resolved g atoms step x)
  step_by_walks (Along edge node forward) x more walks most each =
      let ids = edges_along g forward (Some x) in
      let few = listed_few forward x in
      let own = sum_more (λ id. option_map_or more (admitted_edge resolved g atoms edge id) 0) ids in
      let same = sum_filter_map more (admitted_edge resolved g atoms edge) ids in
      let most_of = sum_times more walks (4 * most) each (filter_map (admitted_edge resolved g atoms edge) ids) in
      omega arith
  step_by_walks (End edge node source) x more walks most each = by (option_and_then (admitted_node resolved g atoms node) (end_at source (Some x)))
    where
      by : (o : Option Bound) → 1 + option_map_or more o 0 ≤ 4 * (degree_at g x + 2) + 4 * most * sum_by walks (option_map_or (λ next. next ∷ []) o [])
      by None = omega arith
      by (Some y) = let here = each y in let one = sum_by-cons walks y [] in omega arith

  plan_by_walks : (step : Step) (plan : List Step) (var : ℕ) (x : Bound) → ((y : Bound) → asked_most resolved g atoms plan (bound_by step) y ≤ 4 * length plan * walked resolved g atoms plan (bound_by step) y) →
      asked_most resolved g atoms plan var x ≤ 4 * length plan * walked resolved g atoms plan var x →
      asked_most resolved g atoms (step ∷ plan) var x ≤ 4 * suc (length plan) * walked resolved g atoms (step ∷ plan) var x
  plan_by_walks step plan var x next rest = by (goes_from var step)
    where
      least : degree_at g x + 2 ≤ walked resolved g atoms plan var x
      least = walked_least plan var x

      branch : step_most resolved g atoms (asked_most resolved g atoms plan (bound_by step)) step x
          ≤ 4 * (degree_at g x + 2) + 4 * length plan * sum_by (walked resolved g atoms plan (bound_by step)) (next_bounds resolved g atoms step x)
      branch = step_by_walks step x (asked_most resolved g atoms plan (bound_by step)) (walked resolved g atoms plan (bound_by step)) (length plan) next

      by : (b : Bool) → cond b (step_most resolved g atoms (asked_most resolved g atoms plan (bound_by step)) step x) 0 + asked_most resolved g atoms plan var x
          ≤ 4 * suc (length plan) * (cond b (sum_by (walked resolved g atoms plan (bound_by step)) (next_bounds resolved g atoms step x)) 0 + walked resolved g atoms plan var x)
      by true =
          let all = added (length plan) (walked resolved g atoms plan var x) (sum_by (walked resolved g atoms plan (bound_by step)) (next_bounds resolved g atoms step x)) (4 * (degree_at g x + 2))
          (4 * length plan * sum_by (walked resolved g atoms plan (bound_by step)) (next_bounds resolved g atoms step x)) (asked_most resolved g atoms plan var x) (omega (arith, least)) (omega arith) rest in
          omega (arith, all, branch)
      by false = added (length plan) (walked resolved g atoms plan var x) 0 0 0 (asked_most resolved g atoms plan var x) (omega arith) (omega arith) rest

  pub asked_by_walks : (plan : List Step) (var : ℕ) (x : Bound) → asked_most resolved g atoms plan var x ≤ 4 * length plan * walked resolved g atoms plan var x
  asked_by_walks [] var x = omega arith
  asked_by_walks (step ∷ plan) var x = plan_by_walks step plan var x (asked_by_walks plan (bound_by step)) (asked_by_walks plan var x)

-- ---- by degrees

-- how many look-ups are taken at most from a variable, where each node has so many edges at most
abbrev pub rate : ℕ → List Step → ℕ → ℕ
rate d [] var = 0
rate d (Along edge node forward ∷ plan) var = cond (node == var) (4 * d + 1 + d * rate d plan edge) 0 + rate d plan var
rate d (End edge node source ∷ plan) var = cond (edge == var) (1 + rate d plan node) 0 + rate d plan var

module _ (resolved : Resolved) (g : Graph) (graph : is_graph g ≡ true) (atoms : List Atom) (elem : Elem) (w d : ℕ) (sparse : IsSparse g w elem d) where
  itself : (near : ℕ) (x y : Bound) → IsNear g elem near x → Some x ≡ Some y → IsNear g elem near y
  itself near x y here at = let same : x ≡ y = cc in subst (IsNear g elem near) same here

  along_rate : (edge : ℕ) (forward : Bool) (near : ℕ) (x : Bound) (more : Bound → ℕ) (most : ℕ) → near ≤ w → IsNear g elem near x → ((y : Bound) → IsNear g elem (suc near) y → more y ≤ most) →
      length (edges_along g forward (Some x)) + 1 + sum_by (λ id. 3 + option_map_or more (admitted_edge resolved g atoms edge id) 0) (edges_along g forward (Some x)) ≤ 4 * d + 1 + d * most
  along_rate edge forward near x more most less here each =
      let ids = edges_along g forward (Some x) in
      let few : length ids ≤ d = few_edges resolved g graph atoms elem w d sparse forward near (Some x) less (λ y. itself near x y here) in
      let all = sum_most (λ id. 3 + option_map_or more (admitted_edge resolved g atoms edge id) 0) ids (3 + most) (λ i id at. one id (admitted_edge resolved g atoms edge id)
      (λ y admits. each y (edges_near resolved g graph atoms elem w d sparse forward near edge (Some x) i id y (λ z. itself near x z here) at admits))) in
      let product = mul-le-mul_right (4 + most) few in
      omega arith
    where
      one : (id : EdgeId) (o : Option Bound) → ((y : Bound) → o ≡ Some y → more y ≤ most) → 3 + option_map_or more o 0 ≤ 3 + most
      one id None h = omega arith
      one id (Some y) h = let here = h y refl in omega arith

  pub asked_near : (plan : List Step) (var near : ℕ) (x : Bound) → near + alongs plan ≤ w → IsNear g elem near x → asked_most resolved g atoms plan var x ≤ rate d plan var
  asked_near [] var near x within here = omega arith
  asked_near (Along edge node forward ∷ plan) var near x within here =
      by (node == var) (along_rate edge forward near x (asked_most resolved g atoms plan edge) (rate d plan edge) (omega arith) here (λ y. asked_near plan edge (suc near) y (omega arith))) (asked_near plan var near x (omega arith) here)
    where
      by : (b : Bool) → step_most resolved g atoms (asked_most resolved g atoms plan edge) (Along edge node forward) x ≤ 4 * d + 1 + d * rate d plan edge → asked_most resolved g atoms plan var x ≤ rate d plan var →
          cond b (step_most resolved g atoms (asked_most resolved g atoms plan edge) (Along edge node forward) x) 0 + asked_most resolved g atoms plan var x ≤ cond b (4 * d + 1 + d * rate d plan edge) 0 + rate d plan var
      by true own rest = omega (arith, own, rest)
      by false own rest = omega (arith, rest)
  asked_near (End edge node source ∷ plan) var near x within here =
      by (edge == var) (one (option_and_then (admitted_node resolved g atoms node) (end_at source (Some x))) (λ y admits. asked_near plan node near y within (node_near resolved g graph atoms elem w d sparse near source node (Some x) y (λ z. itself near x z here) admits)))
      (asked_near plan var near x within here)
    where
      one : (o : Option Bound) → ((y : Bound) → o ≡ Some y → asked_most resolved g atoms plan node y ≤ rate d plan node) → 1 + option_map_or (asked_most resolved g atoms plan node) o 0 ≤ 1 + rate d plan node
      one None h = omega arith
      one (Some y) h = let here = h y refl in omega arith

      by : (b : Bool) → step_most resolved g atoms (asked_most resolved g atoms plan node) (End edge node source) x ≤ 1 + rate d plan node → asked_most resolved g atoms plan var x ≤ rate d plan var →
          cond b (step_most resolved g atoms (asked_most resolved g atoms plan node) (End edge node source) x) 0 + asked_most resolved g atoms plan var x ≤ cond b (1 + rate d plan node) 0 + rate d plan var
      by true own rest = omega (arith, own, rest)
      by false own rest = omega (arith, rest)

-- ---- the rates of all variables that are known, added up

-- how often a variable is among some
abbrev pub times : ℕ → List ℕ → ℕ
times var [] = 0
times var (v ∷ vs) = cond (var == v) 1 0 + times var vs

abbrev pub all_rates : ℕ → List Step → List ℕ → ℕ
all_rates d plan [] = 0
all_rates d plan (v ∷ vs) = rate d plan v + all_rates d plan vs

pub along_all : (d edge node : ℕ) (forward : Bool) (plan : List Step) (vs : List ℕ) →
    all_rates d (Along edge node forward ∷ plan) vs ≡ times node vs * (4 * d + 1 + d * rate d plan edge) + all_rates d plan vs
along_all d edge node forward plan [] = omega arith
along_all d edge node forward plan (v ∷ vs) = by (node == v) (along_all d edge node forward plan vs)
  where
    by : (b : Bool) → all_rates d (Along edge node forward ∷ plan) vs ≡ times node vs * (4 * d + 1 + d * rate d plan edge) + all_rates d plan vs →
        (cond b (4 * d + 1 + d * rate d plan edge) 0 + rate d plan v) + all_rates d (Along edge node forward ∷ plan) vs
        ≡ (cond b 1 0 + times node vs) * (4 * d + 1 + d * rate d plan edge) + (rate d plan v + all_rates d plan vs)
    by true rest = omega (arith, rest)
    by false rest = omega (arith, rest)

pub end_all : (d edge node : ℕ) (source : Bool) (plan : List Step) (vs : List ℕ) →
    all_rates d (End edge node source ∷ plan) vs ≡ times edge vs * (1 + rate d plan node) + all_rates d plan vs
end_all d edge node source plan [] = omega arith
end_all d edge node source plan (v ∷ vs) = by (edge == v) (end_all d edge node source plan vs)
  where
    by : (b : Bool) → all_rates d (End edge node source ∷ plan) vs ≡ times edge vs * (1 + rate d plan node) + all_rates d plan vs →
        (cond b (1 + rate d plan node) 0 + rate d plan v) + all_rates d (End edge node source ∷ plan) vs
        ≡ (cond b 1 0 + times edge vs) * (1 + rate d plan node) + (rate d plan v + all_rates d plan vs)
    by true rest = omega (arith, rest)
    by false rest = omega (arith, rest)

-- each variable is there once at most, and if so is known
abbrev pub AreOnce : List Bool → List ℕ → Type 0
AreOnce known vs = (v : ℕ) → times v vs ≤ cond (is_known known v) 1 0

pub once : (b : Bool) (n : ℕ) → n ≤ cond b 1 0 → n ≤ 1
once true n h = h
once false n h = omega arith

pub once_more : (known : List Bool) (vs : List ℕ) (var : ℕ) → var < length known → is_known known var ≡ false → AreOnce known vs → AreOnce (and_known known var) (var ∷ vs)
once_more known vs var below unknown all v = ⊎_elim here other (one_or_other v var)
  where
    here : v ≡ var → cond (v == var) 1 0 + times v vs ≤ cond (is_known (and_known known var) v) 1 0
    here is =
        let none : times v vs ≤ 0 = subst (λ b. times v vs ≤ cond b 1 0) (ap (is_known known) is ∙ unknown) (all v) in
        let now : is_known (and_known known var) v ≡ true = ap (is_known (and_known known var)) is ∙ known_now known var below in
        let most : cond (v == var) 1 0 ≤ 1 = at_most (v == var) in
        subst (λ b. cond (v == var) 1 0 + times v vs ≤ cond b 1 0) (sym now) (omega (arith, none, most))
      where
        at_most : (b : Bool) → cond b 1 0 ≤ 1
        at_most true = omega arith
        at_most false = omega arith

    other : v ≢ var → cond (v == var) 1 0 + times v vs ≤ cond (is_known (and_known known var) v) 1 0
    other apart =
        let same = known_other known var v apart in
        subst (λ b. cond (v == var) 1 0 + times v vs ≤ cond b 1 0) (sym same) (by (v == var) refl (all v))
      where
        by : (b : Bool) → (v == var) ≡ b → times v vs ≤ cond (is_known known v) 1 0 → cond b 1 0 + times v vs ≤ cond (is_known known v) 1 0
        by true is h = absurd (apart (eqb-true v var is))
        by false is h = omega (arith, h)

-- an edge more costs as much for each edge of a node
along_bound : (d power ends_of n own rest whole : ℕ) → 1 ≤ power → n ≤ 1 → (own + rest) + 4 ≤ power * (4 + ends_of) → whole ≡ n * (4 * d + 1 + d * own) + rest →
    whole + 4 ≤ ((d + 2) * power) * (4 + ends_of)
along_bound d power ends_of n own rest whole one few before is =
    let at_most = mul-le-mul_right (4 * d + 1 + d * own) few in
    let scaled = mul-le-mul_left d before in
    let least = mul-le-mul_right (4 + ends_of) one in
    omega arith

end_bound : (power ends_of n own rest whole : ℕ) → 1 ≤ power → n ≤ 1 → (own + rest) + 4 ≤ power * (4 + ends_of) → whole ≡ n * (1 + own) + rest → whole + 4 ≤ power * (4 + suc ends_of)
end_bound power ends_of n own rest whole one few before is =
    let at_most = mul-le-mul_right (1 + own) few in
    omega arith

module _ (resolved : Resolved) (g : Graph) (pattern : Pattern) (valid : is_valid_pattern pattern ≡ true) (d : ℕ) where
  rates_bound : (plan : List Step) (known : List Bool) (vs : List ℕ) → length known ≡ 20 → are_steps pattern.atoms known plan ≡ true → AreOnce known vs →
      all_rates d plan vs + 4 ≤ (d + 2) ^ alongs plan * (4 + ends plan)
  rates_bound [] known vs size steps all =
      let one = pow-zero (d + 2) in
      let none = nothing vs in
      rw one (omega arith)
    where
      nothing : (vs : List ℕ) → all_rates d [] vs ≡ 0
      nothing [] = refl
      nothing (v ∷ vs) = let rest = nothing vs in omega (arith, rest)
  rates_bound (Along edge node forward ∷ plan) known vs size steps all =
      let parts = and_parts (is_step pattern.atoms known (Along edge node forward)) _ steps in
      let step = step_facts resolved g pattern valid known (Along edge node forward) parts.0 in
      let below : edge < length known = omega (arith, size, step.0) in
      let rest = rates_bound plan (and_known known edge) (edge ∷ vs) (length-set known edge true ∙ size) parts.1 (once_more known vs edge below step.1 all) in
      subst (λ p. all_rates d (Along edge node forward ∷ plan) vs + 4 ≤ p * (4 + ends plan)) (sym (pow-succ' (d + 2) (alongs plan)))
      (along_bound d ((d + 2) ^ alongs plan) (ends plan) (times node vs) (rate d plan edge) (all_rates d plan vs) (all_rates d (Along edge node forward ∷ plan) vs)
      (one_at_least d (alongs plan)) (once (is_known known node) (times node vs) (all node)) rest (along_all d edge node forward plan vs))
  rates_bound (End edge node source ∷ plan) known vs size steps all =
      let parts = and_parts (is_step pattern.atoms known (End edge node source)) _ steps in
      let step = step_facts resolved g pattern valid known (End edge node source) parts.0 in
      let below : node < length known = omega (arith, size, step.0) in
      let rest = rates_bound plan (and_known known node) (node ∷ vs) (length-set known node true ∙ size) parts.1 (once_more known vs node below step.1 all) in
      end_bound ((d + 2) ^ alongs plan) (ends plan) (times edge vs) (rate d plan node) (all_rates d plan vs) (all_rates d (End edge node source ∷ plan) vs)
      (one_at_least d (alongs plan)) (once (is_known known edge) (times edge vs) (all edge)) rest (end_all d edge node source plan vs)

  module _ (var : ℕ) (below : var < length pattern.edge_vars) (kind : Bool) (is : slice_get pattern.edge_vars var ≡ Some kind) (plan : List Step) (plans : is_plan pattern var plan ≡ true) where
    rate_bound : rate d plan var + 4 ≤ (d + 2) ^ alongs plan * (4 + ends plan)
    rate_bound =
        let most = valid_most pattern valid in
        let there : var < length (replicate 20 false) = omega arith in
        let all = rates_bound plan (known_alone var) (var ∷ []) (length-set (replicate 20 false) var true) (and_parts _ _ plans).0
        (once_more (replicate 20 false) [] var there (none_known 20 var) (λ v. omega arith)) in
        omega (arith, all)

    module _ (graph : is_graph g ≡ true) (elem : Elem) (x : Bound) (good : IsGood resolved g pattern var x) (same : elem_of x ≡ elem) (w : ℕ) (within : edge_count pattern.edge_vars ≤ w) (sparse : IsSparse g w elem d) where
      pub asked_few : 3 + asked_most resolved g pattern.atoms plan var x ≤ 16 * (d + 2) ^ suc w
      asked_few =
          let size = plan_size resolved g pattern valid var below kind is plan plans in
          let near = subst (λ e. IsNear g e 0 x) same (near_itself resolved g pattern var x good) in
          let asked = asked_near resolved g graph pattern.atoms elem w d sparse plan var 0 x (omega (arith, size.0)) near in
          let few = rate_bound in
          let short : 4 + ends plan ≤ 23 = omega (arith, size.1) in
          let product = mul-le-mul_left ((d + 2) ^ alongs plan) short in
          let power = power_more d (alongs plan) w (omega (arith, size.0)) in
          let more = pow-succ' (d + 2) w in
          last d ((d + 2) ^ alongs plan) ((d + 2) ^ w) ((d + 2) ^ suc w) (rate d plan var) (asked_most resolved g pattern.atoms plan var x) asked (omega arith) power more
        where
          last : (d power all whole own asked : ℕ) → asked ≤ own → own + 4 ≤ power * 23 → power ≤ all → whole ≡ (d + 2) * all → 3 + asked ≤ 16 * whole
          last d power all whole own asked one two three four = omega arith
