-- How many look-ups a search along the way to some variables takes at most.
use Rattle.std.proofs.Common.{◌≡◌, ◌≢◌, ◌⊎◌, inl, inr, ℕ, suc, ◌+◌, zero-add, ◌*◌, ◌^◌, ◌<◌, ◌≤◌, Bool, true, false, cond, List, [], ◌∷◌, length, slice_get, replicate, Option, Some, None, refl, sym, ◌∙◌, ap, subst, true≢false, arith}
use Rattle.std.specs.Prelude.{option_and_then}
use Rattle.std.specs.Option.{option_map_or}
use Rattle.std.proofs.Math.Nat.{pow-zero, pow-succ', mul-le-mul_left, mul-le-mul_right}
use Rattle.std.proofs.lemmas.Bool.{and_parts}
use Rattle.std.proofs.lemmas.List.{length-set}
use Rattle.pgs_base.specs.declared.element.Elem.{Elem}
use Rattle.pgs_base.specs.Graph.{Graph, is_graph}
use Rattle.pgs_syntax.specs.declared.pattern.Atom.{Atom}
use Rattle.pgs_syntax.specs.declared.pattern.Pattern.{Pattern}
use Rattle.pgs_syntax.specs.declared.resolved.Resolved.{Resolved}
use Rattle.pgs_syntax.specs.Valid.{edge_count, is_valid_pattern}
use Rattle.pgs_match.specs.declared.step.Step.{Step}
use Rattle.pgs_match.specs.declared.step.Step.TheVariants.{Along, End}
use Rattle.pgs_match.specs.declared.bindings.Bound.{Bound}
use Rattle.pgs_match.specs.Bounds.{elem_of, bound_at, with_bound, nothing_bound, end_at}
use Rattle.pgs_match.specs.Branches.{goes_from, asked_most}
use Rattle.pgs_match.specs.Near.{IsSparse}
use Rattle.pgs_match.specs.Plans.{bound_by, is_known, and_known, known_alone, is_step, are_steps, is_plan}
use Rattle.pgs_match.specs.Routes.{is_on_way, on_way, off_way, way_most}
use Rattle.pgs_match.specs.Search.{edges_along}
use Rattle.pgs_match.specs.Tests.{admitted_node, admitted_edge}
use Rattle.pgs_match.proofs.Bounded.{edge_weight, plan_size, power_more, square, from_one, from_edge}
use Rattle.pgs_match.proofs.BranchCosts.{rate, asked_near, times, all_rates, along_all, end_all, AreOnce, once, once_more}
use Rattle.pgs_match.proofs.Completed.{step_facts, end_facts}
use Rattle.pgs_match.proofs.Costs.{alongs, ends, sum_most, edges_near, node_near, few_edges, one_at_least}
use Rattle.pgs_match.proofs.Known.{known_still, valid_most}
use Rattle.pgs_match.proofs.Nearby.{IsNear, AreNear, further, near_more, near_alone, near_itself}
use Rattle.pgs_match.proofs.OnWay.{step_from}
use Rattle.pgs_match.proofs.Standing.{IsGood, known_other, one_or_other}
use Rattle.pgs_match.proofs.Started.{none_known}
use Rattle.pgs_match.proofs.There.{edge_kind}

-- ---- by degrees

-- how many look-ups are taken at most along the way, where each node has so many edges at most
abbrev pub way_rate : ℕ → List Step → ℕ → List Step → ℕ
way_rate d off last [] = last
way_rate d off last (Along edge node forward ∷ ways) = 4 * d + 1 + d * (rate d off edge + way_rate d off last ways)
way_rate d off last (End edge node source ∷ ways) = 1 + (rate d off node + way_rate d off last ways)

module _ (resolved : Resolved) (g : Graph) (graph : is_graph g ≡ true) (atoms : List Atom) (elem : Elem) (w d : ℕ) (sparse : IsSparse g w elem d) (off : List Step) (last : ℕ) where
  pub way_near : (ways : List Step) (b : List (Option Bound)) (near : ℕ) → near + alongs ways + alongs off ≤ w → AreNear g elem near b → way_most resolved g atoms off last ways b ≤ way_rate d off last ways
  way_near [] b near within all = omega arith
  way_near (Along edge node forward ∷ ways) b near within all =
      let ids = edges_along g forward (bound_at b node) in
      let few : length ids ≤ d = few_edges resolved g graph atoms elem w d sparse forward near (bound_at b node) (omega arith) (λ y here. all node y here) in
      let every = sum_most (λ id. 3 + option_map_or (λ x. asked_most resolved g atoms off edge x + way_most resolved g atoms off last ways (with_bound b edge x)) (admitted_edge resolved g atoms edge id) 0) ids
      (3 + (rate d off edge + way_rate d off last ways))
      (λ i id at. one (admitted_edge resolved g atoms edge id) (λ x admits.
      let here = edges_near resolved g graph atoms elem w d sparse forward near edge (bound_at b node) i id x (λ y here. all node y here) at admits in
      let asked = asked_near resolved g graph atoms elem w d sparse off edge (suc near) x (omega arith) here in
      let rest = way_near ways (with_bound b edge x) (suc near) (omega arith) (near_more g elem (suc near) b edge x (λ v y h. further g elem near y (all v y h)) here) in
      omega (arith, asked, rest))) in
      let product = mul-le-mul_right (3 + (rate d off edge + way_rate d off last ways)) few in
      let whole = expanded d (rate d off edge + way_rate d off last ways) in
      omega arith
    where
      one : (o : Option Bound) → ((x : Bound) → o ≡ Some x → asked_most resolved g atoms off edge x + way_most resolved g atoms off last ways (with_bound b edge x) ≤ rate d off edge + way_rate d off last ways) →
          3 + option_map_or (λ x. asked_most resolved g atoms off edge x + way_most resolved g atoms off last ways (with_bound b edge x)) o 0 ≤ 3 + (rate d off edge + way_rate d off last ways)
      one None h = omega arith
      one (Some x) h = let here = h x refl in omega arith

      expanded : (d n : ℕ) → d * (3 + n) ≡ 3 * d + d * n
      expanded d n = omega arith
  way_near (End edge node source ∷ ways) b near within all =
      one (option_and_then (admitted_node resolved g atoms node) (end_at source (bound_at b edge))) (λ x admits.
      let here = node_near resolved g graph atoms elem w d sparse near source node (bound_at b edge) x (λ y here. all edge y here) admits in
      let asked = asked_near resolved g graph atoms elem w d sparse off node near x (omega arith) here in
      let rest = way_near ways (with_bound b node x) near within (near_more g elem near b node x all here) in
      omega (arith, asked, rest))
    where
      one : (o : Option Bound) → ((x : Bound) → o ≡ Some x → asked_most resolved g atoms off node x + way_most resolved g atoms off last ways (with_bound b node x) ≤ rate d off node + way_rate d off last ways) →
          1 + option_map_or (λ x. asked_most resolved g atoms off node x + way_most resolved g atoms off last ways (with_bound b node x)) o 0 ≤ 1 + (rate d off node + way_rate d off last ways)
      one None h = omega arith
      one (Some x) h = let here = h x refl in omega arith

-- ---- one step more

-- an edge on the way, and one off it
edge_on : (d own way rest most : ℕ) → (way + (own + rest)) + 4 ≤ most → 4 * d + 1 + d * (own + way) + rest + 3 ≤ suc d * most
edge_on d own way rest most before =
    let scaled = mul-le-mul_left d before in
    omega arith

edge_off : (d own way rest most n whole : ℕ) → n ≤ 1 → (way + (own + rest)) + 4 ≤ most → whole ≡ n * (4 * d + 1 + d * own) + rest → way + whole + 3 ≤ suc d * most
edge_off d own way rest most n whole few before is =
    let at_most = mul-le-mul_right (4 * d + 1 + d * own) few in
    let scaled = mul-le-mul_left d before in
    omega arith

node_on : (own way rest power ends_of last : ℕ) → 1 ≤ power → (way + (own + rest)) + 4 ≤ power * (last + 4 + ends_of) → 1 + (own + way) + rest + 4 ≤ power * (last + 4 + suc ends_of)
node_on own way rest power ends_of last one before = omega arith

node_off : (own way rest power ends_of last n whole : ℕ) → 1 ≤ power → n ≤ 1 → (way + (own + rest)) + 4 ≤ power * (last + 4 + ends_of) → whole ≡ n * (1 + own) + rest → way + whole + 4 ≤ power * (last + 4 + suc ends_of)
node_off own way rest power ends_of last n whole one few before is =
    let at_most = mul-le-mul_right (1 + own) few in
    omega arith

edge_more : (d power last ends_of total : ℕ) → 1 ≤ power → total + 3 ≤ suc d * (power * (last + 4 + ends_of)) → total + 4 ≤ ((d + 2) * power) * (last + 4 + ends_of)
edge_more d power last ends_of total one before =
    let least = mul-le-mul_right (last + 4 + ends_of) one in
    omega arith

-- a plan from a node that goes along its edges
along_first : (d power last ends_of steps whole : ℕ) → steps + 3 ≤ suc d * (power * (last + 4 + ends_of)) → last ≤ 16 → ends_of ≤ 19 → (d + 2) * ((d + 2) * power) ≤ whole → 3 + steps ≤ 16 * whole
along_first d power last ends_of steps whole most small short less =
    let all : last + 4 + ends_of ≤ 39 = omega arith in
    let product = mul-le-mul_left (suc d) (mul-le-mul_left power all) in
    omega arith

-- what a step goes from isn't the variable, where the variable isn't known
pub not_from : (atoms : List Atom) (known : List Bool) (step : Step) (var : ℕ) → is_step atoms known step ≡ true → is_known known var ≡ false → goes_from var step ≡ false
not_from atoms known step var is unknown = by (goes_from var step) refl
  where
    by : (b : Bool) → goes_from var step ≡ b → b ≡ false
    by true from = absurd (true≢false (sym (step_from atoms known step var is from) ∙ unknown))
    by false from = refl

pub unknown_before : (known : List Bool) (var other : ℕ) → is_known (and_known known var) other ≡ false → is_known known other ≡ false
unknown_before known var other after = by (is_known known other) refl
  where
    by : (b : Bool) → is_known known other ≡ b → b ≡ false
    by true before = absurd (true≢false (sym (known_still known var other before) ∙ after))
    by false before = refl

-- ---- all steps

module _ (resolved : Resolved) (g : Graph) (pattern : Pattern) (valid : is_valid_pattern pattern ≡ true) (d : ℕ) (wanted : List ℕ) (off : List Step) (last : ℕ) where
  -- what is taken from a variable that isn't known yet is as by the steps that are left
  abbrev IsLeft : List Step → List Bool → Type 0
  IsLeft left known = (var : ℕ) → is_known known var ≡ false → rate d off var ≡ rate d left var

  abbrev total : List Step → List ℕ → ℕ
  total plan vs = way_rate d off last (on_way wanted plan) + all_rates d (off_way wanted plan) vs

  module _ (step : Step) (plan : List Step) (known : List Bool) (is : is_step pattern.atoms known step ≡ true) where
    left_on : (b : Bool) → IsLeft (cond b (off_way wanted plan) (step ∷ off_way wanted plan)) known → IsLeft (off_way wanted plan) (and_known known (bound_by step))
    left_on true all var after = all var (unknown_before known (bound_by step) var after)
    left_on false all var after = let before = unknown_before known (bound_by step) var after in all var before ∙ skipped step is (not_from pattern.atoms known step var is before)
      where
        skipped : (s : Step) → is_step pattern.atoms known s ≡ true → goes_from var s ≡ false → rate d (s ∷ off_way wanted plan) var ≡ rate d (off_way wanted plan) var
        skipped (Along edge node forward) one none = ap (λ b. cond b (4 * d + 1 + d * rate d (off_way wanted plan) edge) 0 + rate d (off_way wanted plan) var) none ∙ zero-add (rate d (off_way wanted plan) var)
        skipped (End edge node source) one none = ap (λ b. cond b (1 + rate d (off_way wanted plan) node) 0 + rate d (off_way wanted plan) var) none ∙ zero-add (rate d (off_way wanted plan) var)

  -- the first step goes along edges
  edge_total : (edge node : ℕ) (forward : Bool) (plan : List Step) (known : List Bool) (vs : List ℕ) (most : ℕ) → is_step pattern.atoms known (Along edge node forward) ≡ true → AreOnce known vs →
      IsLeft (off_way wanted (Along edge node forward ∷ plan)) known → total plan (edge ∷ vs) + 4 ≤ most → total (Along edge node forward ∷ plan) vs + 3 ≤ suc d * most
  edge_total edge node forward plan known vs most is all left before = by (is_on_way wanted (on_way wanted plan) (Along edge node forward)) left
    where
      step : Step
      step = Along edge node forward

      by : (b : Bool) → IsLeft (cond b (off_way wanted plan) (step ∷ off_way wanted plan)) known →
          way_rate d off last (cond b (step ∷ on_way wanted plan) (on_way wanted plan)) + all_rates d (cond b (off_way wanted plan) (step ∷ off_way wanted plan)) vs + 3 ≤ suc d * most
      by true left_so =
          let facts = step_facts resolved g pattern valid known step is in
          let same = left_so edge facts.1 in
          let rest : (way_rate d off last (on_way wanted plan) + (rate d off edge + all_rates d (off_way wanted plan) vs)) + 4 ≤ most =
          subst (λ n. (way_rate d off last (on_way wanted plan) + (n + all_rates d (off_way wanted plan) vs)) + 4 ≤ most) (sym same) before in
          edge_on d (rate d off edge) (way_rate d off last (on_way wanted plan)) (all_rates d (off_way wanted plan) vs) most rest
      by false left_so =
          edge_off d (rate d (off_way wanted plan) edge) (way_rate d off last (on_way wanted plan)) (all_rates d (off_way wanted plan) vs) most (times node vs) (all_rates d (step ∷ off_way wanted plan) vs)
          (once (is_known known node) (times node vs) (all node)) before (along_all d edge node forward (off_way wanted plan) vs)

  -- or it takes an end
  node_total : (edge node : ℕ) (source : Bool) (plan : List Step) (known : List Bool) (vs : List ℕ) → is_step pattern.atoms known (End edge node source) ≡ true → AreOnce known vs →
      IsLeft (off_way wanted (End edge node source ∷ plan)) known → total plan (node ∷ vs) + 4 ≤ (d + 2) ^ alongs plan * (last + 4 + ends plan) →
      total (End edge node source ∷ plan) vs + 4 ≤ (d + 2) ^ alongs plan * (last + 4 + suc (ends plan))
  node_total edge node source plan known vs is all left before = by (is_on_way wanted (on_way wanted plan) (End edge node source)) left
    where
      step : Step
      step = End edge node source

      by : (b : Bool) → IsLeft (cond b (off_way wanted plan) (step ∷ off_way wanted plan)) known →
          way_rate d off last (cond b (step ∷ on_way wanted plan) (on_way wanted plan)) + all_rates d (cond b (off_way wanted plan) (step ∷ off_way wanted plan)) vs + 4 ≤ (d + 2) ^ alongs plan * (last + 4 + suc (ends plan))
      by true left_so =
          let facts = step_facts resolved g pattern valid known step is in
          let same = left_so node facts.1 in
          let rest : (way_rate d off last (on_way wanted plan) + (rate d off node + all_rates d (off_way wanted plan) vs)) + 4 ≤ (d + 2) ^ alongs plan * (last + 4 + ends plan) =
          subst (λ n. (way_rate d off last (on_way wanted plan) + (n + all_rates d (off_way wanted plan) vs)) + 4 ≤ (d + 2) ^ alongs plan * (last + 4 + ends plan)) (sym same) before in
          node_on (rate d off node) (way_rate d off last (on_way wanted plan)) (all_rates d (off_way wanted plan) vs) ((d + 2) ^ alongs plan) (ends plan) last (one_at_least d (alongs plan)) rest
      by false left_so =
          node_off (rate d (off_way wanted plan) node) (way_rate d off last (on_way wanted plan)) (all_rates d (off_way wanted plan) vs) ((d + 2) ^ alongs plan) (ends plan) last (times edge vs) (all_rates d (step ∷ off_way wanted plan) vs)
          (one_at_least d (alongs plan)) (once (is_known known edge) (times edge vs) (all edge)) before (end_all d edge node source (off_way wanted plan) vs)

  ways_bound : (plan : List Step) (known : List Bool) (vs : List ℕ) → length known ≡ 20 → are_steps pattern.atoms known plan ≡ true → AreOnce known vs → IsLeft (off_way wanted plan) known →
      total plan vs + 4 ≤ (d + 2) ^ alongs plan * (last + 4 + ends plan)
  ways_bound [] known vs size steps all left =
      let one = pow-zero (d + 2) in
      let none = nothing vs in
      rw one (omega arith)
    where
      nothing : (vs : List ℕ) → all_rates d [] vs ≡ 0
      nothing [] = refl
      nothing (v ∷ vs) = let rest = nothing vs in omega (arith, rest)
  ways_bound (Along edge node forward ∷ plan) known vs size steps all left =
      let parts = and_parts (is_step pattern.atoms known (Along edge node forward)) _ steps in
      let step = step_facts resolved g pattern valid known (Along edge node forward) parts.0 in
      let below : edge < length known = omega (arith, size, step.0) in
      let rest = ways_bound plan (and_known known edge) (edge ∷ vs) (length-set known edge true ∙ size) parts.1 (once_more known vs edge below step.1 all)
      (left_on (Along edge node forward) plan known parts.0 (is_on_way wanted (on_way wanted plan) (Along edge node forward)) left) in
      subst (λ p. total (Along edge node forward ∷ plan) vs + 4 ≤ p * (last + 4 + ends plan)) (sym (pow-succ' (d + 2) (alongs plan)))
      (edge_more d ((d + 2) ^ alongs plan) last (ends plan) (total (Along edge node forward ∷ plan) vs) (one_at_least d (alongs plan))
      (edge_total edge node forward plan known vs ((d + 2) ^ alongs plan * (last + 4 + ends plan)) parts.0 all left rest))
  ways_bound (End edge node source ∷ plan) known vs size steps all left =
      let parts = and_parts (is_step pattern.atoms known (End edge node source)) _ steps in
      let step = step_facts resolved g pattern valid known (End edge node source) parts.0 in
      let below : node < length known = omega (arith, size, step.0) in
      let rest = ways_bound plan (and_known known node) (node ∷ vs) (length-set known node true ∙ size) parts.1 (once_more known vs node below step.1 all)
      (left_on (End edge node source) plan known parts.0 (is_on_way wanted (on_way wanted plan) (End edge node source)) left) in
      node_total edge node source plan known vs parts.0 all left rest

-- ---- from a variable

module _ (resolved : Resolved) (g : Graph) (pattern : Pattern) (valid : is_valid_pattern pattern ≡ true) (var : ℕ) (below : var < length pattern.edge_vars) (kind : Bool) (is : slice_get pattern.edge_vars var ≡ Some kind)
    (plan : List Step) (plans : is_plan pattern var plan ≡ true) (wanted : List ℕ) (last : ℕ) (small : last ≤ 16) (d w : ℕ) (within : edge_count pattern.edge_vars ≤ w) where
  abbrev off : List Step
  off = off_way wanted plan

  first_once : AreOnce (known_alone var) (var ∷ [])
  first_once =
      let most = valid_most pattern valid in
      let there : var < length (replicate 20 false) = omega arith in
      once_more (replicate 20 false) [] var there (none_known 20 var) (λ v. omega arith)

  first_size : length (known_alone var) ≡ 20
  first_size = length-set (replicate 20 false) var true

  -- no plan from a node begins with the end of an edge
  no_end_first : kind ≡ false → (edge node : ℕ) (source : Bool) → is_step pattern.atoms (known_alone var) (End edge node source) ≡ true → ⊥
  no_end_first node_first edge node source step =
      let facts = end_facts resolved g pattern valid (known_alone var) edge node source step in
      let at_edge = edge_kind pattern.edge_vars edge facts.2 in
      by (one_or_other edge var) facts.0 at_edge
    where
      by : (edge ≡ var) ⊎ (edge ≢ var) → is_known (known_alone var) edge ≡ true → slice_get pattern.edge_vars edge ≡ Some true → ⊥
      by (inl same) known at = let e : Some false ≡ Some true = ap Some (sym node_first) ∙ sym is ∙ ap (slice_get pattern.edge_vars) (sym same) ∙ at in cc
      by (inr apart) known at = true≢false (sym known ∙ known_other (replicate 20 false) var edge apart ∙ none_known 20 edge)

  square_less : (a : ℕ) → suc a ≤ w → (d + 2) * ((d + 2) * (d + 2) ^ a) ≤ (d + 2) ^ suc w
  square_less a less = subst (λ p. p ≤ (d + 2) ^ suc w) (square d a) (power_more d (suc (suc a)) (suc w) (omega arith))

  abbrev cost : List Step → ℕ
  cost steps = way_rate d (off_way wanted steps) last (on_way wanted steps) + all_rates d (off_way wanted steps) (var ∷ [])

  by_kind : (first : Bool) → kind ≡ first → (steps_of : List Step) → are_steps pattern.atoms (known_alone var) steps_of ≡ true → alongs steps_of + edge_weight first ≤ w → alongs steps_of + ends steps_of + 1 ≤ 20 →
      3 + cost steps_of ≤ 16 * (d + 2) ^ suc w
  by_kind true edge_first steps_of steps edges all_of =
      from_edge d ((d + 2) ^ alongs steps_of) last (ends steps_of) (cost steps_of) ((d + 2) ^ suc w)
      (ways_bound resolved g pattern valid d wanted (off_way wanted steps_of) last steps_of (known_alone var) (var ∷ []) first_size steps first_once (λ v unknown. refl)) small (omega arith) (square_less (alongs steps_of) (omega arith))
  by_kind false node_first [] steps edges all_of = let one = from_one d w last small in omega (arith, one)
  by_kind false node_first (Along edge node forward ∷ rest) steps edges all_of =
      let off_all = off_way wanted (Along edge node forward ∷ rest) in
      let parts = and_parts (is_step pattern.atoms (known_alone var) (Along edge node forward)) _ steps in
      let step = step_facts resolved g pattern valid (known_alone var) (Along edge node forward) parts.0 in
      let size = first_size in
      let there : edge < length (known_alone var) = omega (arith, size, step.0) in
      let inner = ways_bound resolved g pattern valid d wanted off_all last rest (and_known (known_alone var) edge) (edge ∷ var ∷ []) (length-set (known_alone var) edge true ∙ size) parts.1
      (once_more (known_alone var) (var ∷ []) edge there step.1 first_once)
      (left_on resolved g pattern valid d wanted off_all last (Along edge node forward) rest (known_alone var) parts.0 (is_on_way wanted (on_way wanted rest) (Along edge node forward)) (λ v unknown. refl)) in
      node_first_of (edge_total resolved g pattern valid d wanted off_all last edge node forward rest (known_alone var) (var ∷ []) ((d + 2) ^ alongs rest * (last + 4 + ends rest)) parts.0 first_once (λ v unknown. refl) inner)
    where
      node_first_of : cost (Along edge node forward ∷ rest) + 3 ≤ suc d * ((d + 2) ^ alongs rest * (last + 4 + ends rest)) → 3 + cost (Along edge node forward ∷ rest) ≤ 16 * (d + 2) ^ suc w
      node_first_of most =
          along_first d ((d + 2) ^ alongs rest) last (ends rest) (cost (Along edge node forward ∷ rest)) ((d + 2) ^ suc w) most small (omega arith) (square_less (alongs rest) (omega arith))
  by_kind false node_first (End edge node source ∷ rest) steps edges all_of =
      absurd (no_end_first node_first edge node source (and_parts (is_step pattern.atoms (known_alone var) (End edge node source)) _ steps).0)

  module _ (graph : is_graph g ≡ true) (elem : Elem) (x : Bound) (good : IsGood resolved g pattern var x) (same : elem_of x ≡ elem) (sparse : IsSparse g w elem d) where
    split : (steps : List Step) → alongs (on_way wanted steps) + alongs (off_way wanted steps) ≡ alongs steps
    split [] = refl
    split (step ∷ steps) = by (is_on_way wanted (on_way wanted steps) step) step (split steps)
      where
        by : (b : Bool) (s : Step) → alongs (on_way wanted steps) + alongs (off_way wanted steps) ≡ alongs steps →
            alongs (cond b (s ∷ on_way wanted steps) (on_way wanted steps)) + alongs (cond b (off_way wanted steps) (s ∷ off_way wanted steps)) ≡ alongs (s ∷ steps)
        by true (Along edge node forward) rest = omega (arith, rest)
        by true (End edge node source) rest = rest
        by false (Along edge node forward) rest = omega (arith, rest)
        by false (End edge node source) rest = rest

    pub ways_few : 3 + (asked_most resolved g pattern.atoms off var x + way_most resolved g pattern.atoms off last (on_way wanted plan) (with_bound nothing_bound var x)) ≤ 16 * (d + 2) ^ suc w
    ways_few =
        let size = plan_size resolved g pattern valid var below kind is plan plans in
        let near = subst (λ e. IsNear g e 0 x) same (near_itself resolved g pattern var x good) in
        let alone = subst (λ e. AreNear g e 0 (with_bound nothing_bound var x)) same (near_alone resolved g pattern var x good) in
        let parts = split plan in
        let asked = asked_near resolved g graph pattern.atoms elem w d sparse off var 0 x (omega (arith, parts, size.0)) near in
        let way = way_near resolved g graph pattern.atoms elem w d sparse off last (on_way wanted plan) (with_bound nothing_bound var x) 0 (omega (arith, parts, size.0)) alone in
        let all = by_kind kind refl plan (and_parts _ _ plans).0 (omega (arith, size.0)) size.1 in
        omega (arith, asked, way, all)
