-- What a search from x takes and answers, by what was learned before.
use Rattle.std.proofs.Common.{◌≡◌, ℕ, zero, suc, ◌+◌, ◌*◌, ◌≤◌, ◌<◌, Bool, true, false, ◌==◌, ◌&&◌, not, cond, List, [], ◌∷◌, length, take, Option, Some, None, refl, sym, ◌∙◌, ap, subst, true≢false, arith}
use Rattle.std.specs.Prelude.{option_map, option_and_then}
use Rattle.std.specs.Option.{IfSome, option_map_or}
use Rattle.std.specs.List.{Contains, sum_by, slice_index_or}
use Rattle.std.proofs.Math.Nat.{mul-le-mul_right}
use Rattle.std.proofs.lemmas.List.Sums.{sum_by-cons, sum_by_more}
use Rattle.pgs_base.specs.declared.element.Elem.{Elem}
use Rattle.pgs_base.specs.declared.row.EdgeRow.{EdgeRow}
use Rattle.pgs_base.specs.Graph.{Graph}
use Rattle.pgs_syntax.specs.declared.pattern.Atom.{Atom}
use Rattle.pgs_syntax.specs.declared.pattern.Pattern.{Pattern}
use Rattle.pgs_syntax.specs.declared.resolved.Resolved.{Resolved}
use Rattle.pgs_syntax.specs.Valid.{is_valid_pattern}
use Rattle.pgs_match.specs.declared.answers.Answers.{Answers}
use Rattle.pgs_match.specs.declared.learned.Learned.{Learned}
use Rattle.pgs_match.specs.declared.learned.Memo.{Memo}
use Rattle.pgs_match.specs.declared.step.Step.{Step}
use Rattle.pgs_match.specs.declared.step.Step.TheVariants.{Along, End}
use Rattle.pgs_match.specs.declared.stand.Stand.{Stand}
use Rattle.pgs_match.specs.declared.bindings.Bound.{Bound}
use Rattle.pgs_match.specs.declared.bindings.Bound.TheVariants as bounds
use Rattle.pgs_match.specs.Answers.{unnoted, IsPaid, IsPrice, IsAmong, own_most}
use Rattle.pgs_match.specs.Bounds.{elem_of, end_at}
use Rattle.pgs_match.specs.Branches.{is_tree, goes_from, degree_at, step_most, asked_most}
use Rattle.pgs_match.specs.Learned.{IsMemo, IsTaken, is_short, unlearned}
use Rattle.pgs_match.specs.Plans.{bound_by, is_plan}
use Rattle.pgs_match.specs.Search.{edges_along}
use Rattle.pgs_match.specs.Spread.{stand_at, end_in, elem_degree}
use Rattle.pgs_match.specs.Tests.{admitted, admitted_node, admitted_edge}
use Rattle.pgs_match.proofs.Asking.{steps_in}
use Rattle.pgs_match.proofs.Bounded.{plan_size}
use Rattle.pgs_match.proofs.BranchCosts.{listed_few, sum_more}
use Rattle.pgs_match.proofs.Counts.{some_at}
use Rattle.pgs_match.proofs.Noting.{sum_less, owed}
use Rattle.pgs_match.proofs.Standing.{IsGood}
use Rattle.pgs_match.proofs.Started.{admitted_good}

pub degree_same : (g : Graph) (x : Bound) → degree_at g x ≡ elem_degree g (elem_of x)
degree_same g (bounds.Node id) = refl
degree_same g (bounds.Edge id source target) = refl

-- ---- from x

pub own_few : (long degree : ℕ) → long ≤ 19 → 3 + long * (1 + (long + 4) * degree) ≤ 440 * (degree + 2)
own_few long degree few =
    let one : long * (long + 4) ≤ 19 * (long + 4) = mul-le-mul_right (long + 4) few in
    let most : long * (long + 4) ≤ 437 = omega (arith, one, few) in
    let product = mul-le-mul_right degree most in
    omega (arith, product, few)

price_few : (long : ℕ) → long ≤ 19 → long * (long + 4) ≤ 440
price_few long few = let one : long * (long + 4) ≤ 19 * (long + 4) = mul-le-mul_right (long + 4) few in omega (arith, one, few)

module _ (resolved : Resolved) (g : Graph) (pattern : Pattern) (valid : is_valid_pattern pattern ≡ true) (var : ℕ) (below : var < length pattern.edge_vars) (plan : List Step) (plans : is_plan pattern var plan ≡ true) where
  plan_long : length plan ≤ 19
  plan_long =
      let kind = some_at pattern.edge_vars var below in
      let size = plan_size resolved g pattern valid var below kind.0 kind.1 plan plans in
      let long = steps_in plan in
      omega (arith, long, size.1)

  module _ (elem : Elem) (x : Bound) (admits : admitted resolved g pattern var elem ≡ Some x) where
    good_ends : (y : Bound) → IsGood resolved g pattern var y → (source : Bool) → end_in g source (elem_of y) ≡ end_at source (Some y)
    good_ends (bounds.Node id) good source = refl
    good_ends (bounds.Edge id first second) good source =
        let it = good.1 in
        ap (option_map (λ (row : EdgeRow). cond source row.source row.target)) it.1 ∙ (λ i. Some (cond source (it.2 i) (it.3 i)))

    pub x_among : (pairs : List Stand) → Contains pairs (stand_at var elem) → IsAmong g pairs var x
    x_among pairs has =
        let good = admitted_good resolved g pattern var elem x admits in
        (subst (λ e. Contains pairs (stand_at var e)) (sym good.1) has, good_ends x good.0)

    pub x_paid : (pairs : List Stand) (before after : Answers) (start begun now : ℕ) → begun ≤ start + 3 → Contains pairs (stand_at var elem) →
        (IsPrice plan 440 → IsAmong g pairs var x → IsPaid g 440 pairs before after begun now (own_most g plan x)) → IsPaid g 440 pairs before after start now (440 * (elem_degree g elem + 2))
    x_paid pairs before after start begun now few has paid = λ room.
        let cost = paid (price_few (length plan) plan_long) (x_among pairs has) room in
        let own = own_few (length plan) (degree_at g x) plan_long in
        let same : degree_at g x ≡ elem_degree g elem = degree_same g x ∙ ap (elem_degree g) (admitted_good resolved g pattern var elem x admits).1 in
        omega (arith, cost, own, same, few)

-- ---- short plans

sum_few : {X : Type 0} (f : X → ℕ) → ((x : X) → f x ≤ 1) → (xs : List X) → sum_by f xs ≤ length xs
sum_few f each [] = omega arith
sum_few f each (x ∷ xs) = let rest = sum_few f each xs in let one = sum_by-cons f x xs in let here = each x in omega (arith, rest, one, here)

module _ (resolved : Resolved) (g : Graph) (atoms : List Atom) where
  none_more : (node : ℕ) (o : Option Bound) → option_map_or (asked_most resolved g atoms [] node) o 0 ≡ 0
  none_more node None = refl
  none_more node (Some x) = refl

  end_few : (edge node : ℕ) (source : Bool) (var : ℕ) (x : Bound) → asked_most resolved g atoms (End edge node source ∷ []) var x ≤ 1
  end_few edge node source var x = by (edge == var) (none_more node (option_and_then (admitted_node resolved g atoms node) (end_at source (Some x))))
    where
      by : (b : Bool) → option_map_or (asked_most resolved g atoms [] node) (option_and_then (admitted_node resolved g atoms node) (end_at source (Some x))) 0 ≡ 0 →
          cond b (1 + option_map_or (asked_most resolved g atoms [] node) (option_and_then (admitted_node resolved g atoms node) (end_at source (Some x))) 0) 0 + 0 ≤ 1
      by true none = omega (arith, none)
      by false none = omega arith

  step_few : (more : Bound → ℕ) → ((x : Bound) → more x ≤ 1) → (step : Step) (x : Bound) → step_most resolved g atoms more step x ≤ 5 * degree_at g x + 2
  step_few more each (Along edge node forward) x =
      let ids = edges_along g forward (Some x) in
      let few = listed_few resolved g atoms forward x in
      let own = sum_more (λ id. option_map_or more (admitted_edge resolved g atoms edge id) 0) ids in
      let rest = sum_few (λ id. option_map_or more (admitted_edge resolved g atoms edge id) 0) (λ id. one (admitted_edge resolved g atoms edge id)) ids in
      omega (arith, few, own, rest)
    where
      one : (o : Option Bound) → option_map_or more o 0 ≤ 1
      one None = omega arith
      one (Some y) = each y
  step_few more each (End edge node source) x = by (option_and_then (admitted_node resolved g atoms node) (end_at source (Some x)))
    where
      by : (o : Option Bound) → 1 + option_map_or more o 0 ≤ 5 * degree_at g x + 2
      by None = omega arith
      by (Some y) = let here = each y in omega (arith, here)

  none_few : (var : ℕ) (x : Bound) → asked_most resolved g atoms [] var x ≤ 1
  none_few var x = omega arith

  first_few : (more : Bound → ℕ) → ((x : Bound) → more x ≤ 1) → (step : Step) (var : ℕ) (x : Bound) (last : ℕ) → last ≤ 1 → cond (goes_from var step) (step_most resolved g atoms more step x) 0 + last ≤ 5 * degree_at g x + 3
  first_few more each step var x last few = by (goes_from var step) (step_few more each step x)
    where
      by : (b : Bool) → step_most resolved g atoms more step x ≤ 5 * degree_at g x + 2 → cond b (step_most resolved g atoms more step x) 0 + last ≤ 5 * degree_at g x + 3
      by true own = omega (arith, own, few)
      by false own = omega (arith, few)

  pub short_asked : (plan : List Step) (var : ℕ) (x : Bound) → is_short plan ≡ true → asked_most resolved g atoms plan var x ≤ 5 * degree_at g x + 3
  short_asked [] var x short = omega arith
  short_asked (first ∷ []) var x short = first_few (asked_most resolved g atoms [] (bound_by first)) (none_few (bound_by first)) first var x 0 (omega arith)
  short_asked (first ∷ Along edge node forward ∷ rest) var x short = absurd (true≢false (sym short))
  short_asked (first ∷ End edge node source ∷ []) var x short =
      first_few (asked_most resolved g atoms (End edge node source ∷ []) (bound_by first)) (end_few edge node source (bound_by first)) first var x
      (asked_most resolved g atoms (End edge node source ∷ []) var x) (end_few edge node source var x)
  short_asked (first ∷ End edge node source ∷ next ∷ rest) var x short = absurd (true≢false (sym short))

  pub short_paid : (var : ℕ) (elem : Elem) (x : Bound) → elem_of x ≡ elem → (plan : List Step) → is_short plan ≡ true → (start begun now : ℕ) → begun ≤ start + 3 →
      now ≤ begun + asked_most resolved g atoms plan var x → now ≤ start + 440 * (elem_degree g elem + 2)
  short_paid var elem x is plan short start begun now few cost =
      let own = short_asked plan var x short in
      let same : degree_at g x ≡ elem_degree g elem = degree_same g x ∙ ap (elem_degree g) is in
      omega (arith, own, same, few, cost)

-- ---- what was learned

-- where no answers are noted along a plan that has a step for each end of each edge place, it is short
pub short_left : (short asked : Bool) → (not short && asked) ≡ false → asked ≡ true → short ≡ true
short_left true asked none is = refl
short_left false asked none is = absurd (true≢false (sym is ∙ none))

-- what was taken out is right where it was
pub taken_right : (resolved : Resolved) (g : Graph) (pattern : Pattern) (former : Option Memo) (plan : List Step) (memo : Memo) → IfSome former (IsMemo resolved g pattern) → IsTaken former plan memo →
    is_plan pattern 0 plan ≡ true → is_tree pattern.atoms plan ≡ true → IsMemo resolved g pattern memo
taken_right resolved g pattern (Some former) plan memo right same plans tree = subst (IsMemo resolved g pattern) (sym same) right
taken_right resolved g pattern None plan memo right fresh plans tree = (
  subst (λ p. is_plan pattern 0 p ≡ true) (sym fresh.0) plans,
  subst (λ p. is_tree pattern.atoms p ≡ true) (sym fresh.0) tree,
  λ var id answer found. let e : None ≡ Some answer = sym (fresh.1 var id) ∙ found in cc,
)

pub owed_most : (g : Graph) (answers : Answers) (pairs : List Stand) → unnoted g answers pairs ≤ sum_by (λ (stand : Stand). elem_degree g stand.elem + 2) pairs
owed_most g answers pairs = sum_less (owed g answers) (λ (stand : Stand). elem_degree g stand.elem + 2) each pairs
  where
    at_most : (b : Bool) (n : ℕ) → cond b 0 n ≤ n
    at_most true n = omega arith
    at_most false n = omega arith

    each : (stand : Stand) → owed g answers stand ≤ elem_degree g stand.elem + 2
    each stand = at_most _ (elem_degree g stand.elem + 2)

-- and no more is owed then than before
pub taken_owed : (g : Graph) (pairs : List Stand) (former : Option Memo) (plan : List Step) (memo : Memo) → IsTaken former plan memo →
    unnoted g memo.answers pairs ≤ option_map_or (λ (m : Memo). unnoted g m.answers pairs) former (sum_by (λ (stand : Stand). elem_degree g stand.elem + 2) pairs)
taken_owed g pairs (Some former) plan memo same = let e : unnoted g memo.answers pairs ≡ unnoted g former.answers pairs = ap (λ (m : Memo). unnoted g m.answers pairs) same in omega (arith, e)
taken_owed g pairs None plan memo fresh = owed_most g memo.answers pairs

-- ---- one element after another

get_or_same : (xs : List Elem) (i : ℕ) (a b : Elem) → i < length xs → slice_index_or xs i a ≡ slice_index_or xs i b
get_or_same [] i a b below = absurd (omega arith)
get_or_same (x ∷ xs) zero a b below = refl
get_or_same (x ∷ xs) (suc i) a b below = get_or_same xs i a b (omega arith)

pub unlearned_most : (g : Graph) (learned : Learned) (pairs : List Stand) → unlearned g learned pairs ≤ sum_by (λ (stand : Stand). elem_degree g stand.elem + 2) pairs
unlearned_most g learned pairs = by learned.scope
  where
    by : (former : Option Memo) → option_map_or (λ (m : Memo). unnoted g m.answers pairs) former (sum_by (λ (stand : Stand). elem_degree g stand.elem + 2) pairs)
        ≤ sum_by (λ (stand : Stand). elem_degree g stand.elem + 2) pairs
    by None = omega arith
    by (Some m) = owed_most g m.answers pairs

pub one_more : (g : Graph) (elems : List Elem) (i : ℕ) → i < length elems → (d : Elem) (start between now before after total : ℕ) →
    between + 440 * before ≤ start + 440 * sum_by (λ (elem : Elem). elem_degree g elem + 2) (take i elems) + 440 * total →
    (Contains elems (slice_index_or elems i d) → now + 440 * after ≤ between + 440 * before + 440 * (elem_degree g (slice_index_or elems i d) + 2)) →
    now + 440 * after ≤ start + 440 * sum_by (λ (elem : Elem). elem_degree g elem + 2) (take (i + 1) elems) + 440 * total
one_more g elems i below d start between now before after total first step =
    let cost = step (i, below, get_or_same elems i (slice_index_or elems i d) d below) in
    let more = sum_by_more (λ (elem : Elem). elem_degree g elem + 2) elems i d below in
    omega (arith, first, cost, more)
