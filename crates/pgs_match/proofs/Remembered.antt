-- What a search that notes its answers takes: each node that is asked of anew pays for the look-ups from it.
use Rattle.std.proofs.Common.{◌≡◌, ℕ, ◌+◌, ◌*◌, ◌≤◌, Bool, true, false, ◌||◌, ◌==◌, List, ◌∷◌, length, Option, Some, None, refl, sym, ◌∙◌, ap, subst, true≢false, arith}
use Rattle.std.specs.Prelude.{is_some}
use Rattle.std.specs.Option.{option_map_or}
use Rattle.std.specs.List.{Contains}
use Rattle.std.proofs.Math.Nat.{mul-le-mul_right}
use Rattle.std.proofs.lemmas.Bool.{eqb-true}
use Rattle.pgs_base.specs.declared.element.NodeId.{NodeId}
use Rattle.pgs_base.specs.declared.element.EdgeId.{EdgeId}
use Rattle.pgs_base.specs.declared.element.Elem.TheVariants.{Node, Edge}
use Rattle.pgs_base.specs.Graph.{Graph}
use Rattle.pgs_graph.specs.Reads.{degree_of}
use Rattle.pgs_syntax.specs.declared.pattern.Atom.{Atom}
use Rattle.pgs_syntax.specs.declared.resolved.Resolved.{Resolved}
use Rattle.pgs_match.specs.declared.answers.Answers.{Answers}
use Rattle.pgs_match.specs.declared.step.Step.{Step}
use Rattle.pgs_match.specs.declared.step.Step.TheVariants.{Along, End}
use Rattle.pgs_match.specs.declared.stand.Stand.{Stand}
use Rattle.pgs_match.specs.declared.bindings.Bound.{Bound}
use Rattle.pgs_match.specs.declared.bindings.Bound.TheVariants as bounds
use Rattle.pgs_match.specs.Answers.{noted, behind, is_bound_in, EndsIn, KeepsOthers, HasAhead, IsClosed, unnoted, IsPaid, IsPrice, IsAmong, own_most}
use Rattle.pgs_match.specs.Bounds.{elem_of, end_at}
use Rattle.pgs_match.specs.Branches.{goes_from, degree_at}
use Rattle.pgs_match.specs.Plans.{bound_by}
use Rattle.pgs_match.specs.Search.{edges_along}
use Rattle.pgs_match.specs.Spread.{stand_at, end_in, edges_in}
use Rattle.pgs_match.specs.Tests.{admitted_node, admitted_edge}
use Rattle.pgs_match.proofs.BranchCosts.{listed_few}
use Rattle.pgs_match.proofs.Noting.{IsNote, IsSame, others_kept, more_places, node_price, node_sum, less_sum, plan_sum, first_sum, was_room, node_bound, node_among, unnoted_less, unnoted_drops}

-- ---- what else was noted stays

or_parts : (a b : Bool) → (a || b) ≡ false → (a ≡ false) × (b ≡ false)
or_parts true b none = absurd (true≢false none)
or_parts false b none = (refl, none)

rest_unbound : (step : Step) (rest : List Step) (var : ℕ) → is_bound_in (step ∷ rest) var ≡ false → is_bound_in rest var ≡ false
rest_unbound step rest var none = (or_parts (bound_by step == var) (is_bound_in rest var) none).1

pub kept_both : (before mid after : Answers) (plan rest : List Step) (step : Step) → plan ≡ step ∷ rest → KeepsOthers (step ∷ rest) before mid → KeepsOthers rest mid after → KeepsOthers plan before after
kept_both before mid after plan rest step first one other = λ var id none.
    let here = subst (λ p. is_bound_in p var ≡ false) first none in
    other var id (rest_unbound step rest var here) ∙ one var id here

pub kept_first : (before after : Answers) (plan rest : List Step) (step : Step) → plan ≡ step ∷ rest → KeepsOthers (step ∷ rest) before after → KeepsOthers plan before after
kept_first before after plan rest step first one = subst (λ p. KeepsOthers p before after) (sym first) one

pub kept_rest : (before after : Answers) (step : Step) (rest : List Step) → KeepsOthers rest before after → KeepsOthers (step ∷ rest) before after
kept_rest before after step rest kept = λ var id none. kept var id (rest_unbound step rest var none)

pub kept_node : (before after : Answers) (step : Step) (rest : List Step) (edge node : ℕ) (source : Bool) → step ≡ End edge node source →
    ((of : ℕ) (other : NodeId) → (node == of || is_bound_in rest of) ≡ false → noted after of other ≡ noted before of other) → KeepsOthers (step ∷ rest) before after
kept_node before after step rest edge node source is kept = subst (λ s. KeepsOthers (s ∷ rest) before after) (sym is) kept

pub kept_noted : (before mid after : Answers) (rest : List Step) (var : ℕ) (id : NodeId) (answer : Bool) → KeepsOthers rest before mid → (after.is_full ≡ false → IsNote var id answer mid after) →
    (after.is_full ≡ true → IsSame mid after) → (of : ℕ) (other : NodeId) → (var == of || is_bound_in rest of) ≡ false → noted after of other ≡ noted before of other
kept_noted before mid after rest var id answer kept note full of other none =
    let parts = or_parts (var == of) (is_bound_in rest of) none in
    others_kept var id answer mid after note full of other parts.0 ∙ kept of other parts.1

-- ---- where a plan ends

pub node_place : (whole rest : List Step) (step : Step) (edge node : ℕ) (source : Bool) → step ≡ End edge node source → EndsIn whole (step ∷ rest) →
    (behind node whole ≡ rest) × (is_bound_in rest node ≡ false) × EndsIn whole rest
node_place whole rest step edge node source is place = subst (λ s. EndsIn whole (s ∷ rest)) is place

module _ (g : Graph) (price : ℕ) (pairs : List Stand) where
  -- ---- the branches of a variable

  pub paid_both : (before mid after : Answers) (start between now : ℕ) (plan rest : List Step) (step : Step) (x : Bound) → plan ≡ step ∷ rest → (mid.is_full ≡ true → after.is_full ≡ true) →
      IsPaid g price pairs before mid start between (1 + (length rest + 4) * degree_at g x) → IsPaid g price pairs mid after between now (own_most g rest x) →
      IsPaid g price pairs before after start now (own_most g plan x)
  paid_both before mid after start between now plan rest step x first stays one other = λ room.
      subst (λ p. now + price * unnoted g after pairs ≤ start + price * unnoted g before pairs + own_most g p x) (sym first)
      (let was = one (was_room mid after stays room) in let more = other room in let all = plan_sum (length rest) (degree_at g x) in omega (arith, was, more, all))

  pub paid_first : (before after : Answers) (start now : ℕ) (plan rest : List Step) (step : Step) (x : Bound) → plan ≡ step ∷ rest →
      IsPaid g price pairs before after start now (1 + (length rest + 4) * degree_at g x) → IsPaid g price pairs before after start now (own_most g plan x)
  paid_first before after start now plan rest step x first one = λ room.
      subst (λ p. now + price * unnoted g after pairs ≤ start + price * unnoted g before pairs + own_most g p x) (sym first)
      (let was = one room in let all = first_sum (length rest) (degree_at g x) in omega (arith, was, all))

  -- ---- the edges of a node

  pub paid_edge : (before mid after : Answers) (start between tried now nth long own : ℕ) → (mid.is_full ≡ true → after.is_full ≡ true) → IsPaid g price pairs before mid start between (nth * (long + 4)) →
      tried ≤ between + 4 → IsPaid g price pairs mid after tried now own → own ≤ long → IsPaid g price pairs before after start now ((nth + 1) * (long + 4))
  paid_edge before mid after start between tried now nth long own stays first few other less = λ room.
      let was = first (was_room mid after stays room) in
      let more = other room in
      omega (arith, was, more, few, less)

  pub paid_edges : (before after : Answers) (start between now nth many long : ℕ) → nth ≤ many → IsPaid g price pairs before after start between (nth * (long + 4)) → now ≤ between + 1 →
      IsPaid g price pairs before after start now (1 + (long + 4) * many)
  paid_edges before after start between now nth many long less first few = λ room.
      let was = first room in
      let product = mul-le-mul_right (long + 4) less in
      omega (arith, was, product, few)

-- ---- a branch

module _ (resolved : Resolved) (g : Graph) (atoms : List Atom) (price : ℕ) (pairs : List Stand) (before after : Answers) (start now : ℕ) (step : Step) (rest : List Step) (var : ℕ) (x : Bound)
    (from : goes_from var step ≡ true) (closed : IsClosed resolved g atoms pairs (step ∷ rest)) (among : IsAmong g pairs var x) where
  pub branch_edges : (edge node : ℕ) (forward : Bool) (id : NodeId) → step ≡ Along edge node forward → x ≡ bounds.Node id →
      (((other : EdgeId) → Contains (edges_in g forward (Node id)) other → is_some (admitted_edge resolved g atoms edge other) ≡ true → Contains pairs (stand_at edge (Edge other))) →
      IsPaid g price pairs before after start now (1 + (length rest + 4) * length (edges_along g forward (Some (bounds.Node id))))) →
      IsPaid g price pairs before after start now (1 + (length rest + 4) * degree_at g x)
  branch_edges edge node forward id is at paid = λ room.
      let ahead : HasAhead resolved g atoms pairs (Along edge node forward) = subst (HasAhead resolved g atoms pairs) is closed.0 in
      let same : node ≡ var = eqb-true node var (sym (ap (goes_from var) is) ∙ from) in
      let own : Contains pairs (stand_at var (Node id)) = subst (λ y. Contains pairs (stand_at var (elem_of y))) at among.0 in
      let here : Contains pairs (stand_at node (Node id)) = subst (λ v. Contains pairs (stand_at v (Node id))) (sym same) own in
      let cost = paid (λ other listed admits. ahead (Node id) other here listed admits) room in
      let few = listed_few resolved g atoms forward (bounds.Node id) in
      let more = more_places (length (edges_along g forward (Some (bounds.Node id)))) (degree_at g (bounds.Node id)) (length rest) few in
      subst (λ y. now + price * unnoted g after pairs ≤ start + price * unnoted g before pairs + (1 + (length rest + 4) * degree_at g y)) (sym at) (omega (arith, cost, more))

  pub branch_node : (edge node : ℕ) (source : Bool) (id : NodeId) → step ≡ End edge node source → Some id ≡ end_at source (Some x) →
      ((is_some (admitted_node resolved g atoms node id) ≡ true → Contains pairs (stand_at node (Node id))) → IsPaid g price pairs before after start now 1) →
      IsPaid g price pairs before after start now (1 + (length rest + 4) * degree_at g x)
  branch_node edge node source id is found paid = λ room.
      let ahead : HasAhead resolved g atoms pairs (End edge node source) = subst (HasAhead resolved g atoms pairs) is closed.0 in
      let same : edge ≡ var = eqb-true edge var (sym (ap (goes_from var) is) ∙ from) in
      let here : Contains pairs (stand_at edge (elem_of x)) = subst (λ v. Contains pairs (stand_at v (elem_of x))) (sym same) among.0 in
      let at : end_in g source (elem_of x) ≡ Some id = among.1 source ∙ sym found in
      let cost = paid (λ admits. ahead (elem_of x) id here at admits) room in
      omega (arith, cost)

-- ---- a node

module _ (resolved : Resolved) (g : Graph) (atoms : List Atom) (price : ℕ) (pairs : List Stand) (rest : List Step) (few : IsPrice rest price) (var : ℕ) (id : NodeId) (answer : Bool) (before mid after : Answers)
    (new : noted before var id ≡ None) (kept : KeepsOthers rest before mid) (unbound : is_bound_in rest var ≡ false)
    (note : after.is_full ≡ false → IsNote var id answer mid after) (stays : mid.is_full ≡ true → after.is_full ≡ true)
    (has : is_some (admitted_node resolved g atoms var id) ≡ true → Contains pairs (stand_at var (Node id))) where
  pub paid_node : (admitted : Option Bound) → admitted ≡ admitted_node resolved g atoms var id → (start tried now : ℕ) → tried ≡ start + 1 →
      (((x : Bound) → admitted ≡ Some x → IsAmong g pairs var x) → IsPaid g price pairs before mid tried now (option_map_or (own_most g rest) admitted 0)) →
      IsPaid g price pairs before after start now 1
  paid_node admitted same start tried now tick paid = λ room.
      let cost = paid (node_among resolved g atoms var pairs id has admitted same) (was_room mid after stays room) in
      by room admitted same (omega (arith, cost, tick))
    where
      still : noted mid var id ≡ None
      still = kept var id unbound ∙ new

      by : after.is_full ≡ false → (o : Option Bound) → o ≡ admitted_node resolved g atoms var id →
          now + price * unnoted g mid pairs ≤ start + 1 + price * unnoted g before pairs + option_map_or (own_most g rest) o 0 →
          now + price * unnoted g after pairs ≤ start + price * unnoted g before pairs + 1
      by room None is cost =
          less_sum price (unnoted g before pairs) (unnoted g mid pairs) (unnoted g after pairs) start now (omega (arith, cost)) (unnoted_less g var id answer mid after (note room) pairs)
      by room (Some x) is cost =
          let at : bounds.Node id ≡ x = node_bound resolved g atoms var id x (sym is) in
          let own = subst (λ y. own_most g rest y ≤ price * (degree_of g id + 2)) at (node_price (length rest) (degree_of g id) price few) in
          node_sum price (unnoted g before pairs) (unnoted g mid pairs) (unnoted g after pairs) start now (own_most g rest x) (degree_of g id) cost own
          (unnoted_drops g var id answer mid after (note room) still pairs (has (ap is_some (sym is))))
