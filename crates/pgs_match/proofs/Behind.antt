-- The nodes behind a node on a way to one variable, edge by edge: which they are, and what it takes to come to them.
use Rattle.std.proofs.Common.{◌≡◌, ℕ, zero, suc, ◌+◌, ◌*◌, ◌≤◌, ◌<◌, Bool, true, false, ◌&&◌, ◌==◌, cond, List, [], ◌∷◌, ◌++◌, map, filter, flat_map, length, Option, Some, None, Result, Ok, Err, OnOk, refl, sym, ◌∙◌, ap, subst, append-nil, arith}
use Rattle.std.specs.Prelude.{filter_map, option_and_then, is_some}
use Rattle.std.specs.Option.{option_map_or}
use Rattle.std.specs.List.{Contains, cons_option, sum_by, slice_index_or}
use Rattle.std.specs.Cmp.{booleans_Decides}
use Rattle.std.proofs.Math.Bool.{beq}
use Rattle.std.proofs.Math.Nat.{mul-le-mul_right}
use Rattle.std.proofs.lemmas.Bool.{and_parts, eqb-true}
use Rattle.std.proofs.lemmas.List.Sums.{sum_by-cons}
use Rattle.std.proofs.lemmas.Grind.{flat_map-append}
use Rattle.pgs_base.specs.declared.element.NodeId.{NodeId}
use Rattle.pgs_base.specs.declared.element.EdgeId.{EdgeId}
use Rattle.pgs_base.specs.declared.element.Elem.TheVariants.{Node, Edge}
use Rattle.pgs_base.specs.Graph.{Graph}
use Rattle.pgs_syntax.specs.declared.pattern.Atom.{Atom}
use Rattle.pgs_syntax.specs.declared.resolved.Resolved.{Resolved}
use Rattle.pgs_match.specs.declared.notes.Notes.{Notes}
use Rattle.pgs_match.specs.declared.notes.Hop.{Hop}
use Rattle.pgs_match.specs.declared.step.Step.{Step}
use Rattle.pgs_match.specs.declared.step.Step.TheVariants.{Along, End}
use Rattle.pgs_match.specs.declared.stand.Stand.{Stand}
use Rattle.pgs_match.specs.declared.bindings.Bound.{Bound}
use Rattle.pgs_match.specs.declared.bindings.Bound.TheVariants as bounds
use Rattle.pgs_match.specs.Answers.{HasAhead, IsAmong}
use Rattle.pgs_match.specs.Bounds.{end_at}
use Rattle.pgs_match.specs.Branches.{can_be_given, asked_most}
use Rattle.pgs_match.specs.Frontier.{kept_bounds, led_on, hop_bounds, at_nodes, AreAllOf, IsPaidOn, StayFull}
use Rattle.pgs_match.specs.Routes.{whole}
use Rattle.pgs_match.specs.Search.{edges_along}
use Rattle.pgs_match.specs.Spread.{stand_at}
use Rattle.pgs_match.specs.Tests.{admitted_node, admitted_edge}
use Rattle.pgs_match.proofs.Noting.{was_room, edge_among}

-- ---- lists

-- those that pass of what a function gives
kept_each : {X Y : Type 0} (p : Y → Bool) (h : X → Option Y) (xs : List X) →
    filter p (filter_map h xs) ≡ flat_map (λ x. option_map_or (λ y. y ∷ []) (option_and_then (λ y. cond (p y) (Some y) None) (h x)) []) xs
kept_each p h [] = refl
kept_each {X} {Y} p h (x ∷ xs) = by (h x) (kept_each p h xs)
  where
    rest : List Y
    rest = flat_map (λ x. option_map_or (λ y. y ∷ []) (option_and_then (λ y. cond (p y) (Some y) None) (h x)) []) xs

    inner : (y : Y) (b : Bool) → filter p (filter_map h xs) ≡ rest → cond b (y ∷ filter p (filter_map h xs)) (filter p (filter_map h xs)) ≡ option_map_or (λ z. z ∷ []) (cond b (Some y) None) [] ++ rest
    inner y true same = ap (λ ys. y ∷ ys) same
    inner y false same = same

    by : (o : Option Y) → filter p (filter_map h xs) ≡ rest →
        filter p (cons_option o (filter_map h xs)) ≡ option_map_or (λ z. z ∷ []) (option_and_then (λ z. cond (p z) (Some z) None) o) [] ++ rest
    by None same = same
    by (Some y) same = inner y (p y) same

-- what lists lead on to
flat_flat : {X Y Z : Type 0} (h : Y → List Z) (f : X → List Y) (xs : List X) → flat_map h (flat_map f xs) ≡ flat_map (λ x. flat_map h (f x)) xs
flat_flat h f [] = refl
flat_flat h f (x ∷ xs) = flat_map-append h (f x) (flat_map f xs) ∙ ap (λ ys. flat_map h (f x) ++ ys) (flat_flat h f xs)

flat_same : {X Y : Type 0} (f h : X → List Y) → ((x : X) → f x ≡ h x) → (xs : List X) → flat_map f xs ≡ flat_map h xs
flat_same f h same [] = refl
flat_same f h same (x ∷ xs) = ap (λ ys. ys ++ flat_map f xs) (same x) ∙ ap (λ ys. h x ++ ys) (flat_same f h same xs)

each_alone : {X : Type 0} (xs : List X) → flat_map (λ x. x ∷ []) xs ≡ xs
each_alone [] = refl
each_alone (x ∷ xs) = ap (λ ys. x ∷ ys) (each_alone xs)

-- what is so in any case
pub on_ok : {T E : Type 0} (r : Result T E) (P : Type 0) → P → OnOk r P
on_ok (Ok x) P p = p
on_ok (Err e) P p = tt

-- what is compared field by field
pub same_hop : (a b : Hop) → (a.edge == b.edge && (beq a.forward b.forward && (a.node == b.node && beq a.source b.source))) ≡ true → a ≡ b
same_hop a b same =
    let edges = and_parts (a.edge == b.edge) _ same in
    let forwards = and_parts (beq a.forward b.forward) _ edges.1 in
    let nodes = and_parts (a.node == b.node) _ forwards.1 in
    let edge = eqb-true a.edge b.edge edges.0 in
    let forward = (booleans_Decides a.forward b.forward).0 forwards.0 in
    let node = eqb-true a.node b.node nodes.0 in
    let source = (booleans_Decides a.source b.source).0 nodes.1 in
    λ i. record { edge = edge i; forward = forward i; node = node i; source = source i }

-- ---- the edges of a node that are on the way

module _ (resolved : Resolved) (g : Graph) (atoms : List Atom) (off : List Step) where
  -- to what an edge binds its variable there, and how many look-ups it takes at most to ask it
  abbrev pub edge_on : ℕ → EdgeId → Option Bound
  edge_on var id = whole resolved g atoms off var (admitted_edge resolved g atoms var id)

  abbrev pub edges_on : ℕ → EdgeId → List Bound
  edges_on var id = option_map_or (λ bound. bound ∷ []) (edge_on var id) []

  abbrev pub edge_most : ℕ → EdgeId → ℕ
  edge_most var id = 3 + option_map_or (λ next. asked_most resolved g atoms off var next + 0) (admitted_edge resolved g atoms var id) 0

  pub edges_of_node : (var node : ℕ) (forward : Bool) (from : NodeId) →
      flat_map (edges_on var) (edges_along g forward (Some (bounds.Node from))) ≡ kept_bounds resolved g atoms off (Along var node forward) (bounds.Node from)
  edges_of_node var node forward from =
      sym (kept_each (can_be_given resolved g atoms off var) (admitted_edge resolved g atoms var) (edges_along g forward (Some (bounds.Node from))))

  -- what is on the way was admitted
  pub on_admitted : (var : ℕ) (o : Option Bound) (x : Bound) → whole resolved g atoms off var o ≡ Some x → o ≡ Some x
  on_admitted var None x is = cc
  on_admitted var (Some y) x is = by (can_be_given resolved g atoms off var y) is
    where
      by : (b : Bool) → cond b (Some y) None ≡ Some x → Some y ≡ Some x
      by true found = found
      by false found = cc

  pub edge_cost : (var : ℕ) (id : EdgeId) (now after : ℕ) →
      after ≤ now + (3 + option_map_or (asked_most resolved g atoms off var) (admitted_edge resolved g atoms var id) 0) → after ≤ now + edge_most var id
  edge_cost var id now after = by (admitted_edge resolved g atoms var id)
    where
      by : (o : Option Bound) → after ≤ now + (3 + option_map_or (asked_most resolved g atoms off var) o 0) → after ≤ now + (3 + option_map_or (λ next. asked_most resolved g atoms off var next + 0) o 0)
      by None few = few
      by (Some x) few = omega (arith, few)

  -- ---- and the nodes at their other ends

  abbrev pub ends_on : Hop → EdgeId → List Bound
  ends_on hop id = option_map_or (kept_bounds resolved g atoms off (End hop.edge hop.node hop.source)) (edge_on hop.edge id) []

  abbrev pub end_most : Hop → Bound → ℕ
  end_most hop next =
      1 + option_map_or (λ end. asked_most resolved g atoms off hop.node end + 0) (option_and_then (admitted_node resolved g atoms hop.node) (end_at hop.source (Some next))) 0

  abbrev pub hop_cost : Hop → EdgeId → ℕ
  hop_cost hop id = 3 + option_map_or (λ next. asked_most resolved g atoms off hop.edge next + end_most hop next) (admitted_edge resolved g atoms hop.edge id) 0

  end_of_each : (hop : Hop) (o : Option Bound) → flat_map (led_on resolved g atoms off (End hop.edge hop.node hop.source ∷ [])) (option_map_or (λ bound. bound ∷ []) o [])
      ≡ option_map_or (kept_bounds resolved g atoms off (End hop.edge hop.node hop.source)) o []
  end_of_each hop None = refl
  end_of_each hop (Some x) =
      append-nil _ ∙ each_alone (kept_bounds resolved g atoms off (End hop.edge hop.node hop.source) x)

  pub ends_of_node : (hop : Hop) (from : NodeId) → flat_map (ends_on hop) (edges_along g hop.forward (Some (bounds.Node from))) ≡ hop_bounds resolved g atoms off hop from
  ends_of_node hop from =
      let on = led_on resolved g atoms off (End hop.edge hop.node hop.source ∷ []) in
      sym (ap (flat_map on) (sym (edges_of_node hop.edge 0 hop.forward from))
      ∙ flat_flat on (edges_on hop.edge) (edges_along g hop.forward (Some (bounds.Node from)))
      ∙ flat_same (λ id. flat_map on (edges_on hop.edge id)) (ends_on hop) (λ id. end_of_each hop (edge_on hop.edge id)) (edges_along g hop.forward (Some (bounds.Node from))))

  -- an edge that isn't on the way takes no more
  pub no_end_cost : (hop : Hop) (id : EdgeId) (now after : ℕ) →
      after ≤ now + (3 + option_map_or (asked_most resolved g atoms off hop.edge) (admitted_edge resolved g atoms hop.edge id) 0) → after ≤ now + hop_cost hop id
  no_end_cost hop id now after = by (admitted_edge resolved g atoms hop.edge id)
    where
      by : (o : Option Bound) → after ≤ now + (3 + option_map_or (asked_most resolved g atoms off hop.edge) o 0) →
          after ≤ now + (3 + option_map_or (λ next. asked_most resolved g atoms off hop.edge next + end_most hop next) o 0)
      by None few = few
      by (Some x) few = omega (arith, few)

  pub end_cost : (hop : Hop) (id : EdgeId) (x : Bound) (now mid after : ℕ) → edge_on hop.edge id ≡ Some x →
      mid ≤ now + (3 + option_map_or (asked_most resolved g atoms off hop.edge) (admitted_edge resolved g atoms hop.edge id) 0) →
      after ≤ mid + (1 + option_map_or (asked_most resolved g atoms off hop.node) (option_and_then (admitted_node resolved g atoms hop.node) (end_at hop.source (Some x))) 0) →
      after ≤ now + hop_cost hop id
  end_cost hop id x now mid after is =
      by (admitted_edge resolved g atoms hop.edge id) (on_admitted hop.edge (admitted_edge resolved g atoms hop.edge id) x is) (option_and_then (admitted_node resolved g atoms hop.node) (end_at hop.source (Some x))) refl
    where
      inner : (o : Option Bound) → option_map_or (asked_most resolved g atoms off hop.node) o 0 ≤ option_map_or (λ end. asked_most resolved g atoms off hop.node end + 0) o 0
      inner None = omega arith
      inner (Some y) = omega arith

      by : (o : Option Bound) → o ≡ Some x → (e : Option Bound) → option_and_then (admitted_node resolved g atoms hop.node) (end_at hop.source (Some x)) ≡ e →
          mid ≤ now + (3 + option_map_or (asked_most resolved g atoms off hop.edge) o 0) → after ≤ mid + (1 + option_map_or (asked_most resolved g atoms off hop.node) e 0) →
          after ≤ now + (3 + option_map_or (λ next. asked_most resolved g atoms off hop.edge next + end_most hop next) o 0)
      by o at e end few more =
          let less = inner e in
          let one : option_map_or (asked_most resolved g atoms off hop.edge) o 0 ≡ asked_most resolved g atoms off hop.edge x = ap (λ p. option_map_or (asked_most resolved g atoms off hop.edge) p 0) at in
          let all : option_map_or (λ next. asked_most resolved g atoms off hop.edge next + end_most hop next) o 0 ≡ asked_most resolved g atoms off hop.edge x + end_most hop x =
          ap (λ p. option_map_or (λ next. asked_most resolved g atoms off hop.edge next + end_most hop next) p 0) at in
          let last : end_most hop x ≡ 1 + option_map_or (λ y. asked_most resolved g atoms off hop.node y + 0) e 0 = ap (λ p. 1 + option_map_or (λ y. asked_most resolved g atoms off hop.node y + 0) p 0) end in
          omega (arith, few, more, less, one, all, last)

  -- with one edge more

  pub edge_more : (var : ℕ) (id : EdgeId) (x : Bound) (now more : List Bound) → edge_on var id ≡ Some x → more ≡ now ++ x ∷ [] → more ≡ now ++ edges_on var id
  edge_more var id x now more on added = added ∙ ap (λ (o : Option Bound). now ++ option_map_or (λ bound. bound ∷ []) o []) (sym on)

  pub edge_not : (var : ℕ) (id : EdgeId) (now more : List Bound) → edge_on var id ≡ None → more ≡ now → more ≡ now ++ edges_on var id
  edge_not var id now more none same = same ∙ sym (append-nil now) ∙ ap (λ (o : Option Bound). now ++ option_map_or (λ bound. bound ∷ []) o []) (sym none)

  pub end_more : (hop : Hop) (id : EdgeId) (x : Bound) (now more : List Bound) → edge_on hop.edge id ≡ Some x →
      more ≡ now ++ kept_bounds resolved g atoms off (End hop.edge hop.node hop.source) x → more ≡ now ++ ends_on hop id
  end_more hop id x now more on added = added ∙ ap (λ (o : Option Bound). now ++ option_map_or (kept_bounds resolved g atoms off (End hop.edge hop.node hop.source)) o []) (sym on)

  pub end_not : (hop : Hop) (id : EdgeId) (now more : List Bound) → edge_on hop.edge id ≡ None → more ≡ now → more ≡ now ++ ends_on hop id
  end_not hop id now more none same =
      same ∙ sym (append-nil now) ∙ ap (λ (o : Option Bound). now ++ option_map_or (kept_bounds resolved g atoms off (End hop.edge hop.node hop.source)) o []) (sym none)

  -- ---- which pairs have them

  module _ (pairs : List Stand) (node var : ℕ) (forward : Bool) (from : NodeId) (among : Contains pairs (stand_at node (Node from))) (ahead : HasAhead resolved g atoms pairs (Along var node forward)) where
    pub edge_in : (id : EdgeId) → Contains (edges_along g forward (Some (bounds.Node from))) id → is_some (admitted_edge resolved g atoms var id) ≡ true → Contains pairs (stand_at var (Edge id))
    edge_in id listed admits = ahead (Node from) id among listed admits

    pub edge_on_among : (id : EdgeId) (x : Bound) → Contains (edges_along g forward (Some (bounds.Node from))) id → edge_on var id ≡ Some x → IsAmong g pairs var x
    edge_on_among id x listed is =
        edge_among resolved g atoms var pairs id (edge_in id listed) (admitted_edge resolved g atoms var id) refl x (on_admitted var (admitted_edge resolved g atoms var id) x is)

-- ---- nodes in order

from_map : {X Y R : Type 0} (f : X → Y) (xs : List X) (y : Y) (k : ℕ) → k < length (map f xs) → slice_index_or (map f xs) k y ≡ y → ((x : X) → f x ≡ y → Contains xs x → R) → R
from_map f [] y k below at then = absurd (omega (arith, below))
from_map f (x ∷ xs) y zero below at then = then x at (0, omega arith, refl)
from_map f (x ∷ xs) y (suc k) below at then = from_map f xs y k (omega (arith, below)) at (λ z is it. then z is (suc it.0, omega (arith, it.1), it.2))

in_map : {X Y : Type 0} (f : X → Y) (xs : List X) (x : X) (k : ℕ) → k < length xs → slice_index_or xs k x ≡ x → Contains (map f xs) (f x)
in_map f [] x k below at = absurd (omega (arith, below))
in_map f (z ∷ xs) x zero below at = (0, omega arith, ap f at)
in_map f (z ∷ xs) x (suc k) below at = let rest = in_map f xs x k (omega (arith, below)) at in (suc rest.0, omega (arith, rest.1), rest.2)

pub sum_map : {X Y : Type 0} (count : Y → ℕ) (f : X → Y) (xs : List X) → sum_by count (map f xs) ≡ sum_by (λ x. count (f x)) xs
sum_map count f [] = refl
sum_map count f (x ∷ xs) = sum_by-cons count (f x) (map f xs) ∙ ap (λ n. count (f x) + n) (sum_map count f xs) ∙ sym (sum_by-cons (λ y. count (f y)) x xs)

bounds_among : (xs ys : List NodeId) → ((id : NodeId) → Contains xs id → Contains ys id) → (x : Bound) → Contains (at_nodes xs) x → Contains (at_nodes ys) x
bounds_among xs ys all x it =
    from_map bounds.Node xs x it.0 it.1 it.2 (λ id same own. subst (Contains (at_nodes ys)) same (let there = all id own in in_map bounds.Node ys id there.0 there.1 there.2))

pub all_in_order : (ends ids : List NodeId) (all : List Bound) → at_nodes ends ≡ all → ((id : NodeId) → Contains ends id → Contains ids id) → ((id : NodeId) → Contains ids id → Contains ends id) →
    ((count : NodeId → ℕ) → sum_by count ids ≤ sum_by count ends) → AreAllOf all (at_nodes ids)
all_in_order ends ids all is kept none_other few =
    subst (λ xs. AreAllOf xs (at_nodes ids)) is (
      bounds_among ends ids kept,
      bounds_among ids ends none_other,
      λ count.
          let less = few (λ id. count (bounds.Node id)) in
          let one = sum_map count bounds.Node ids in
          let other = sum_map count bounds.Node ends in
          omega (arith, less, one, other),
    )

-- ---- what is paid

module _ (g : Graph) (pairs : List Stand) where
  -- for one edge more
  pub paid_edge_on : (before mid after : Notes) (start between tried now nth long : ℕ) → StayFull mid after → IsPaidOn g pairs before mid start between (nth * (long + 4)) → tried ≡ between + 1 →
      IsPaidOn g pairs mid after tried now (3 + long) → IsPaidOn g pairs before after start now ((nth + 1) * (long + 4))
  paid_edge_on before mid after start between tried now nth long stays first tick other = λ on off.
      let was = first (was_room mid.on after.on stays.0 on) (was_room mid.off after.off stays.1 off) in
      let more = other on off in
      omega (arith, was, more, tick)

  pub paid_no_end : (before mid after : Notes) (start between tried now nth long : ℕ) → StayFull mid after → IsPaidOn g pairs before mid start between (nth * (long + 5)) → tried ≡ between + 1 →
      IsPaidOn g pairs mid after tried now (3 + long) → IsPaidOn g pairs before after start now ((nth + 1) * (long + 5))
  paid_no_end before mid after start between tried now nth long stays first tick other = λ on off.
      let was = first (was_room mid.on after.on stays.0 on) (was_room mid.off after.off stays.1 off) in
      let more = other on off in
      omega (arith, was, more, tick)

  pub paid_end : (before mid kept after : Notes) (start between tried asked now nth long : ℕ) → StayFull mid kept → StayFull kept after → IsPaidOn g pairs before mid start between (nth * (long + 5)) →
      tried ≡ between + 1 → IsPaidOn g pairs mid kept tried asked (3 + long) → IsPaidOn g pairs kept after asked now 1 → IsPaidOn g pairs before after start now ((nth + 1) * (long + 5))
  paid_end before mid kept after start between tried asked now nth long stays still first tick one last = λ on off.
      let on_kept = was_room kept.on after.on still.0 on in
      let off_kept = was_room kept.off after.off still.1 off in
      let was = first (was_room mid.on kept.on stays.0 on_kept) (was_room mid.off kept.off stays.1 off_kept) in
      let more = one on_kept off_kept in
      let then = last on off in
      omega (arith, was, more, then, tick)

  -- and for all of a node
  pub paid_edges : (before after : Notes) (start between now nth many degree long : ℕ) → nth ≤ many → many ≤ degree → now ≤ between + 1 → IsPaidOn g pairs before after start between (nth * (long + 4)) →
      IsPaidOn g pairs before after start now (1 + (long + 5) * degree)
  paid_edges before after start between now nth many degree long less listed few paid = λ on off.
      let was = paid on off in
      let product = mul-le-mul_right (long + 4) (let all : nth ≤ degree = omega (arith, less, listed) in all) in
      omega (arith, was, product, few)

  pub paid_ends : (before after : Notes) (start between now nth many degree long : ℕ) → nth ≤ many → many ≤ degree → now ≤ between + 1 → IsPaidOn g pairs before after start between (nth * (long + 5)) →
      IsPaidOn g pairs before after start now (1 + (long + 5) * degree)
  paid_ends before after start between now nth many degree long less listed few paid = λ on off.
      let was = paid on off in
      let product = mul-le-mul_right (long + 5) (let all : nth ≤ degree = omega (arith, less, listed) in all) in
      omega (arith, was, product, few)

  -- the same where notes and look-ups are these
  pub paid_same : (before after now_notes : Notes) (start now last own : ℕ) → now_notes ≡ after → last ≡ now → IsPaidOn g pairs before after start now own → IsPaidOn g pairs before now_notes start last own
  paid_same before after now_notes start now last own same is paid =
      subst (λ (n : Notes). IsPaidOn g pairs before n start last own) (sym same) (subst (λ s. IsPaidOn g pairs before after start s own) (sym is) paid)
