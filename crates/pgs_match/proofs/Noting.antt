-- What is noted of nodes at variables: that it is right, that nothing else changes, and what is paid by it.
use Rattle.std.proofs.Common.{◌≡◌, ℕ, zero, suc, ◌+◌, ◌*◌, ◌≤◌, ◌<◌, Bool, true, false, ◌&&◌, ◌||◌, ◌==◌, not, cond, List, [], ◌∷◌, length, Option, Some, None, refl, sym, ◌∙◌, ap, subst, true≢false, arith}
use Rattle.std.specs.Prelude.{is_some, option_map, option_and_then}
use Rattle.std.specs.Option.{option_map_or}
use Rattle.std.specs.Ordering.{nat_cmp, ordering_then, is_eq}
use Rattle.std.specs.Cmp.{Equal-is, nat_cmp_total, tied_itself}
use Rattle.std.specs.List.{Contains, list_any, sum_by, slice_index_or}
use Rattle.std.proofs.Math.Nat.{mul-le-mul_left, mul-le-mul_right}
use Rattle.std.proofs.lemmas.Bool.{eq-eqb}
use Rattle.std.proofs.lemmas.List.Sums.{sum_by-cons}
use Rattle.std.proofs.lemmas.Map.Lookups.{exact_pairs, exact_unsigned}
use Rattle.pgs_base.specs.declared.element.NodeId.{NodeId}
use Rattle.pgs_base.specs.declared.element.EdgeId.{EdgeId}
use Rattle.pgs_base.specs.declared.element.Elem.{Elem}
use Rattle.pgs_base.specs.declared.element.Elem.TheVariants.{Node, Edge}
use Rattle.pgs_base.specs.declared.row.NodeRow.{NodeRow}
use Rattle.pgs_base.specs.declared.row.EdgeRow.{EdgeRow}
use Rattle.pgs_base.specs.Graph.{Graph, node_at, edge_at}
use Rattle.pgs_graph.specs.Reads.{degree_of}
use Rattle.pgs_syntax.specs.declared.pattern.Atom.{Atom}
use Rattle.pgs_syntax.specs.declared.resolved.Resolved.{Resolved}
use Rattle.pgs_match.specs.declared.answers.Answers.{Answers}
use Rattle.pgs_match.specs.declared.step.Step.{Step}
use Rattle.pgs_match.specs.declared.stand.Stand.{Stand}
use Rattle.pgs_match.specs.declared.bindings.Bound.{Bound}
use Rattle.pgs_match.specs.declared.bindings.Bound.TheVariants as bounds
use Rattle.pgs_match.specs.Answers.{place_cmp, noted, is_same_place, behind, AreRight, is_given, is_noted, unnoted, IsPrice, IsAmong, own_most}
use Rattle.pgs_match.specs.Branches.{goes_from, next_bounds, can_be_given}
use Rattle.pgs_match.specs.Plans.{bound_by}
use Rattle.pgs_match.specs.Spread.{stand_at, elem_degree}
use Rattle.pgs_match.specs.Tests.{admitted_node, admitted_edge, node_passes, edge_passes}

-- ---- places

abbrev place : ℕ → NodeId → ℕ × ℕ
place var id = (var, id.0)

same_pair : (var : ℕ) (id : NodeId) (of : ℕ) (other : NodeId) → is_same_place var id of other ≡ true → place var id ≡ place of other
same_pair var id of other h =
    exact_pairs nat_cmp nat_cmp exact_unsigned exact_unsigned (place var id) (place of other) ((Equal-is (place_cmp (place var id) (place of other))).0 h)

pub same_var : (var : ℕ) (id : NodeId) (of : ℕ) (other : NodeId) → is_same_place var id of other ≡ true → var ≡ of
same_var var id of other h = ap (λ (p : ℕ × ℕ). p.0) (same_pair var id of other h)

pub same_id : (var : ℕ) (id : NodeId) (of : ℕ) (other : NodeId) → is_same_place var id of other ≡ true → id ≡ other
same_id var id of other h =
    let same : id.0 ≡ other.0 = ap (λ (p : ℕ × ℕ). p.1) (same_pair var id of other h) in
    let whole : (n : ℕ) → NodeId = λ n. record { 0 = n } in
    ap whole same

same_itself : (var : ℕ) (id : NodeId) → is_same_place var id var id ≡ true
same_itself var id =
    ap (λ o. is_eq (ordering_then o (nat_cmp id.0 id.0))) (tied_itself nat_cmp_total var) ∙ ap is_eq (tied_itself nat_cmp_total id.0)

apart : (var : ℕ) (id : NodeId) (of : ℕ) (other : NodeId) → (var == of) ≡ false → is_same_place var id of other ≡ false
apart var id of other differ = by (is_same_place var id of other) refl
  where
    by : (b : Bool) → is_same_place var id of other ≡ b → is_same_place var id of other ≡ false
    by true is = absurd (true≢false (sym (eq-eqb var of (same_var var id of other is)) ∙ differ))
    by false is = is

-- ---- sums

pub sum_less : {X : Type 0} (f h : X → ℕ) → ((x : X) → f x ≤ h x) → (xs : List X) → sum_by f xs ≤ sum_by h xs
sum_less f h each [] = omega arith
sum_less f h each (x ∷ xs) =
    let rest = sum_less f h each xs in
    let one = sum_by-cons f x xs in
    let other = sum_by-cons h x xs in
    let here = each x in
    omega (arith, rest, one, other, here)

sum_drops : {X : Type 0} (f h : X → ℕ) → ((x : X) → f x ≤ h x) → (x : X) (d : ℕ) → f x + d ≤ h x → (xs : List X) (k : ℕ) → k < length xs → slice_index_or xs k x ≡ x → sum_by f xs + d ≤ sum_by h xs
sum_drops f h each x d drop [] k below at = absurd (omega arith)
sum_drops f h each x d drop (y ∷ ys) zero below at =
    let rest = sum_less f h each ys in
    let one = sum_by-cons f y ys in
    let other = sum_by-cons h y ys in
    let here = subst (λ z. f z + d ≤ h z) (sym at) drop in
    omega (arith, rest, one, other, here)
sum_drops f h each x d drop (y ∷ ys) (suc k) below at =
    let rest = sum_drops f h each x d drop ys k (omega arith) at in
    let one = sum_by-cons f y ys in
    let other = sum_by-cons h y ys in
    let here = each y in
    omega (arith, rest, one, other, here)

-- ---- an answer is noted

-- what changes where an answer is noted
abbrev pub IsNote : ℕ → NodeId → Bool → Answers → Answers → Type 0
IsNote var id answer before after = (of : ℕ) (other : NodeId) → noted after of other ≡ cond (is_same_place var id of other) (Some answer) (noted before of other)

abbrev pub IsSame : Answers → Answers → Type 0
IsSame before after = (of : ℕ) (other : NodeId) → noted after of other ≡ noted before of other

module _ (var : ℕ) (id : NodeId) (answer : Bool) (before after : Answers) (note : after.is_full ≡ false → IsNote var id answer before after) (full : after.is_full ≡ true → IsSame before after) where
  pub others_kept : (of : ℕ) (other : NodeId) → (var == of) ≡ false → noted after of other ≡ noted before of other
  others_kept of other differ = by after.is_full refl
    where
      by : (b : Bool) → after.is_full ≡ b → noted after of other ≡ noted before of other
      by true is = full is of other
      by false is = note is of other ∙ ap (λ b. cond b (Some answer) (noted before of other)) (apart var id of other differ)

  module _ (resolved : Resolved) (g : Graph) (atoms : List Atom) (whole rest : List Step) (here : behind var whole ≡ rest) (right : answer ≡ is_given resolved g atoms rest var id) where
    one_right : (of : ℕ) (other : NodeId) (found : Bool) → is_same_place var id of other ≡ true → answer ≡ found → found ≡ is_given resolved g atoms (behind of whole) of other
    one_right of other found same is =
        sym is ∙ right ∙ ap (λ steps. is_given resolved g atoms steps var id) (sym here) ∙ ap (λ v. is_given resolved g atoms (behind v whole) v id) (same_var var id of other same)
        ∙ ap (is_given resolved g atoms (behind of whole) of) (same_id var id of other same)

    pub right_noted : AreRight resolved g atoms whole before → AreRight resolved g atoms whole after
    right_noted are of other found at = by after.is_full refl
      where
        inner : (b : Bool) → is_same_place var id of other ≡ b → cond b (Some answer) (noted before of other) ≡ Some found → found ≡ is_given resolved g atoms (behind of whole) of other
        inner true same is = let e : answer ≡ found = cc in one_right of other found same e
        inner false same is = are of other found is

        by : (b : Bool) → after.is_full ≡ b → found ≡ is_given resolved g atoms (behind of whole) of other
        by true is = are of other found (sym (full is of other) ∙ at)
        by false is = inner (is_same_place var id of other) refl (sym (note is of other) ∙ at)

-- ---- what is paid

abbrev pub owed : Graph → Answers → Stand → ℕ
owed g answers stand = cond (is_noted answers stand.var stand.elem) 0 (elem_degree g stand.elem + 2)

module _ (g : Graph) (var : ℕ) (id : NodeId) (answer : Bool) (before after : Answers) (note : IsNote var id answer before after) where
  owed_less : (stand : Stand) → owed g after stand ≤ owed g before stand
  owed_less stand = by stand.elem
    where
      inner : (n : ℕ) (old : Option Bool) (b : Bool) → cond (is_some (cond b (Some answer) old)) 0 n ≤ cond (is_some old) 0 n
      inner n None true = omega arith
      inner n None false = omega arith
      inner n (Some x) true = omega arith
      inner n (Some x) false = omega arith

      by : (elem : Elem) → cond (is_noted after stand.var elem) 0 (elem_degree g elem + 2) ≤ cond (is_noted before stand.var elem) 0 (elem_degree g elem + 2)
      by (Node other) =
          subst (λ (o : Option Bool). cond (is_some o) 0 (degree_of g other + 2) ≤ cond (is_some (noted before stand.var other)) 0 (degree_of g other + 2)) (sym (note stand.var other))
          (inner (degree_of g other + 2) (noted before stand.var other) (is_same_place var id stand.var other))
      by (Edge other) = omega arith

  pub unnoted_less : (pairs : List Stand) → unnoted g after pairs ≤ unnoted g before pairs
  unnoted_less pairs = sum_less (owed g after) (owed g before) owed_less pairs

  pub unnoted_drops : noted before var id ≡ None → (pairs : List Stand) → Contains pairs (stand_at var (Node id)) → unnoted g after pairs + (degree_of g id + 2) ≤ unnoted g before pairs
  unnoted_drops new pairs among =
      sum_drops (owed g after) (owed g before) owed_less (stand_at var (Node id)) (degree_of g id + 2) drop pairs among.0 among.1 among.2
    where
      now : noted after var id ≡ Some answer
      now = note var id ∙ ap (λ b. cond b (Some answer) (noted before var id)) (same_itself var id)

      drop : owed g after (stand_at var (Node id)) + (degree_of g id + 2) ≤ owed g before (stand_at var (Node id))
      drop =
          let none : owed g after (stand_at var (Node id)) ≡ 0 = ap (λ (o : Option Bool). cond (is_some o) 0 (degree_of g id + 2)) now in
          let all : owed g before (stand_at var (Node id)) ≡ degree_of g id + 2 = ap (λ (o : Option Bool). cond (is_some o) 0 (degree_of g id + 2)) new in
          omega (arith, none, all)

-- ---- numbers

pub more_places : (few many long : ℕ) → few ≤ many → 1 + (long + 4) * few ≤ 1 + (long + 4) * many
more_places few many long less = let product = mul-le-mul_right (long + 4) less in omega (arith, product)

pub node_price : (long degree price : ℕ) → long * (long + 4) ≤ price → long * (1 + (long + 4) * degree) ≤ price * (degree + 2)
node_price long degree price few = let product = mul-le-mul_right (degree + 2) few in omega (arith, product)

pub node_sum : (price before mid after start now own degree : ℕ) → now + price * mid ≤ start + 1 + price * before + own → own ≤ price * (degree + 2) → after + (degree + 2) ≤ mid → now + price * after ≤ start + price * before + 1
node_sum price before mid after start now own degree cost few drop = let product = mul-le-mul_left price drop in omega (arith, product, cost, few)

pub less_sum : (price before mid after start now : ℕ) → now + price * mid ≤ start + 1 + price * before → after ≤ mid → now + price * after ≤ start + price * before + 1
less_sum price before mid after start now cost less = let product = mul-le-mul_left price less in omega (arith, product, cost)

pub plan_sum : (long degree : ℕ) → 1 + (long + 4) * degree + long * (1 + (long + 4) * degree) ≤ suc long * (1 + (suc long + 4) * degree)
plan_sum long degree = omega arith

pub first_sum : (long degree : ℕ) → 1 + (long + 4) * degree ≤ suc long * (1 + (suc long + 4) * degree)
first_sum long degree = omega arith

pub rest_price : (step : Step) (rest : List Step) (price : ℕ) → IsPrice (step ∷ rest) price → IsPrice rest price
rest_price step rest price most = by (length rest) most
  where
    by : (long : ℕ) → suc long * (suc long + 4) ≤ price → long * (long + 4) ≤ price
    by long few = omega (arith, few)

-- what was full stays so, so what isn't was not
pub was_room : (before after : Answers) → (before.is_full ≡ true → after.is_full ≡ true) → after.is_full ≡ false → before.is_full ≡ false
was_room before after stays room = by before.is_full refl
  where
    by : (b : Bool) → before.is_full ≡ b → before.is_full ≡ false
    by true is = absurd (true≢false (sym (stays is) ∙ room))
    by false is = is

-- ---- what was admitted

module _ (resolved : Resolved) (g : Graph) (atoms : List Atom) (var : ℕ) where
  pub edge_bound : (id : EdgeId) (x : Bound) → admitted_edge resolved g atoms var id ≡ Some x → (row : EdgeRow) × (edge_at g id ≡ Some row) × (bounds.Edge id row.source row.target ≡ x)
  edge_bound id x h = by (edge_at g id) refl h
    where
      inner : (row : EdgeRow) → edge_at g id ≡ Some row → (b : Bool) → cond b (Some (bounds.Edge id row.source row.target)) None ≡ Some x → (found : EdgeRow) × (edge_at g id ≡ Some found) × (bounds.Edge id found.source found.target ≡ x)
      inner row at true found = let same : bounds.Edge id row.source row.target ≡ x = cc in (row, at, same)
      inner row at false found = cc

      by : (o : Option EdgeRow) → edge_at g id ≡ o → option_and_then (λ (row : EdgeRow). cond (edge_passes resolved g atoms var row) (Some (bounds.Edge id row.source row.target)) None) o ≡ Some x →
          (found : EdgeRow) × (edge_at g id ≡ Some found) × (bounds.Edge id found.source found.target ≡ x)
      by None at found = cc
      by (Some row) at found = inner row at (edge_passes resolved g atoms var row) found

  pub node_bound : (id : NodeId) (x : Bound) → admitted_node resolved g atoms var id ≡ Some x → bounds.Node id ≡ x
  node_bound id x h = by (node_at g id) h
    where
      inner : (b : Bool) → cond b (Some (bounds.Node id)) None ≡ Some x → bounds.Node id ≡ x
      inner true found = cc
      inner false found = cc

      by : (o : Option NodeRow) → option_and_then (λ (own : NodeRow). cond (node_passes resolved atoms var own) (Some (bounds.Node id)) None) o ≡ Some x → bounds.Node id ≡ x
      by None found = cc
      by (Some own) found = inner (node_passes resolved atoms var own) found

  -- an admitted edge is among pairs that have it, and its ends are those of the graph
  pub edge_among : (pairs : List Stand) (id : EdgeId) → (is_some (admitted_edge resolved g atoms var id) ≡ true → Contains pairs (stand_at var (Edge id))) →
      (admitted : Option Bound) → admitted ≡ admitted_edge resolved g atoms var id → (x : Bound) → admitted ≡ Some x → IsAmong g pairs var x
  edge_among pairs id has admitted same x is =
      let found : admitted_edge resolved g atoms var id ≡ Some x = sym same ∙ is in
      let it = edge_bound id x found in
      subst (IsAmong g pairs var) it.2
      (has (ap is_some found), λ source. ap (option_map (λ (row : EdgeRow). cond source row.source row.target)) it.1)

  pub node_among : (pairs : List Stand) (id : NodeId) → (is_some (admitted_node resolved g atoms var id) ≡ true → Contains pairs (stand_at var (Node id))) →
      (admitted : Option Bound) → admitted ≡ admitted_node resolved g atoms var id → (x : Bound) → admitted ≡ Some x → IsAmong g pairs var x
  node_among pairs id has admitted same x is =
      let found : admitted_node resolved g atoms var id ≡ Some x = sym same ∙ is in
      subst (IsAmong g pairs var) (node_bound id x found) (has (ap is_some found), λ source. refl)

  -- from an edge as many look-ups are taken as steps are left at most
  pub edge_own : (rest : List Step) (id : EdgeId) (admitted : Option Bound) → admitted ≡ admitted_edge resolved g atoms var id → option_map_or (own_most g rest) admitted 0 ≤ length rest
  edge_own rest id None same = omega arith
  edge_own rest id (Some x) same =
      let it = edge_bound id x (sym same) in
      subst (λ y. own_most g rest y ≤ length rest) it.2 (by (length rest))
    where
      by : (long : ℕ) → long * (1 + (long + 4) * 0) ≤ long
      by long = omega arith

-- ---- where nothing hangs on a variable

module _ (resolved : Resolved) (g : Graph) (atoms : List Atom) where
  nothing_hangs : (plan : List Step) (var : ℕ) (x : Bound) → list_any (goes_from var) plan ≡ false → can_be_given resolved g atoms plan var x ≡ true
  nothing_hangs [] var x none = refl
  nothing_hangs (step ∷ plan) var x none = by (goes_from var step) none (nothing_hangs plan var x)
    where
      by : (b : Bool) → (b || list_any (goes_from var) plan) ≡ false → (list_any (goes_from var) plan ≡ false → can_be_given resolved g atoms plan var x ≡ true) →
          ((not b || list_any (can_be_given resolved g atoms plan (bound_by step)) (next_bounds resolved g atoms step x)) && can_be_given resolved g atoms plan var x) ≡ true
      by true some rest = absurd (true≢false some)
      by false some rest = rest some

  pub leaf_given : (rest : List Step) (var : ℕ) (admitted : Option Bound) → list_any (goes_from var) rest ≡ false → is_some admitted ≡ option_map_or (can_be_given resolved g atoms rest var) admitted false
  leaf_given rest var None none = refl
  leaf_given rest var (Some x) none = sym (nothing_hangs rest var x none)
