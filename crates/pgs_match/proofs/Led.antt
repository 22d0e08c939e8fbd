-- What the steps of a plan lead back to from one element at a variable: it stands at one variable, is near the element, is little where few edges
-- are near, and takes few look-ups.
use Rattle.std.proofs.Common.{◌≡◌, ◌≢◌, ◌⊎◌, inl, inr, ⊎_elim, ℕ, zero, suc, zero-add, ◌+◌, ◌*◌, ◌^◌, ◌≤◌, ◌<◌, Bool, true, false, ◌||◌, ◌==◌, cond, List, [], ◌∷◌, ◌++◌, flat_map, length, slice_get, replicate, Option, Some, None, refl, sym, ◌∙◌, ap, subst, true≢false, arith}
use Rattle.std.specs.Prelude.{option_and_then, option_map}
use Rattle.std.specs.Option.{option_map_or}
use Rattle.std.specs.List.{list_any, sum_by}
use Rattle.std.proofs.Math.Nat.{pow-succ', mul-le-mul_right}
use Rattle.std.proofs.lemmas.Bool.{and_parts, or_cases, or_left, or_right, eqb-true, eq-eqb}
use Rattle.std.proofs.lemmas.List.{length-set}
use Rattle.std.proofs.lemmas.List.Concat.{length-flat_map}
use Rattle.std.proofs.lemmas.List.Sums.{sum_by-cons}
use Rattle.pgs_base.specs.declared.element.NodeId.{NodeId}
use Rattle.pgs_base.specs.declared.element.EdgeId.{EdgeId}
use Rattle.pgs_base.specs.declared.element.Elem.{Elem}
use Rattle.pgs_base.specs.declared.element.Elem.TheVariants.{Node, Edge}
use Rattle.pgs_base.specs.declared.row.EdgeRow.{EdgeRow}
use Rattle.pgs_base.specs.Graph.{Graph, edge_at, is_end, is_graph}
use Rattle.pgs_syntax.specs.declared.pattern.Pattern.{Pattern}
use Rattle.pgs_syntax.specs.declared.resolved.Resolved.{Resolved}
use Rattle.pgs_syntax.specs.Valid.{edge_count, is_edge_var, is_node_var, is_valid_pattern}
use Rattle.pgs_match.specs.declared.step.Step.{Step}
use Rattle.pgs_match.specs.declared.step.Step.TheVariants.{Along, End}
use Rattle.pgs_match.specs.declared.stand.Stand.{Stand}
use Rattle.pgs_match.specs.declared.bindings.Bound.{Bound}
use Rattle.pgs_match.specs.Bounds.{elem_of}
use Rattle.pgs_match.specs.Near.{is_within, IsSparse, IsNearTo}
use Rattle.pgs_match.specs.Plans.{bound_by, is_known, and_known, known_alone, known_after, is_step, are_steps, is_plan}
use Rattle.pgs_match.specs.Spread.{stand_at, stands_of, end_in, edges_in, back_most, back, one_back, led_back, one_most, led_most}
use Rattle.pgs_match.specs.Tests.{admitted_node, admitted_edge}
use Rattle.pgs_match.proofs.Bounded.{edge_weight, all_left, power_more}
use Rattle.pgs_match.proofs.Completed.{then_gives, step_facts, along_facts, end_facts}
use Rattle.pgs_match.proofs.Costs.{one_at_least}
use Rattle.pgs_match.proofs.Counts.{left, left_less, some_at}
use Rattle.pgs_match.proofs.Known.{covers_at, valid_most}
use Rattle.pgs_match.proofs.Leading.{sum_flat}
use Rattle.pgs_match.proofs.Nearby.{listed_from, within_less, within_by, few_at}
use Rattle.pgs_match.proofs.Standing.{edge_elem, node_elem, known_other, one_or_other}
use Rattle.pgs_match.proofs.Started.{none_known}
use Rattle.pgs_match.proofs.There.{edge_kind, node_kind, no_two_kinds}

-- ---- each of a list

abbrev pub Each : {X : Type 0} → (X → Type 0) → List X → Type 0
Each P [] = Unit {0}
Each P (x ∷ xs) = P x × Each P xs

each_append : {X : Type 0} (P : X → Type 0) (xs ys : List X) → Each P xs → Each P ys → Each P (xs ++ ys)
each_append P [] ys first second = second
each_append P (x ∷ xs) ys first second = (first.0, each_append P xs ys first.1 second)

each_flat : {X Y : Type 0} (P : X → Type 0) (Q : Y → Type 0) (f : X → List Y) → ((x : X) → P x → Each Q (f x)) → (xs : List X) → Each P xs → Each Q (flat_map f xs)
each_flat P Q f h [] all = tt {0}
each_flat P Q f h (x ∷ xs) all = each_append Q (f x) (flat_map f xs) (h x all.0) (each_flat P Q f h xs all.1)

each_place : {X : Type 0} (P : X → Type 0) (xs : List X) → ((i : ℕ) (x : X) → slice_get xs i ≡ Some x → P x) → Each P xs
each_place P [] h = tt {0}
each_place P (x ∷ xs) h = (h 0 x refl, each_place P xs (λ i y at. h (suc i) y at))

pub each_any : {X : Type 0} (P : X → Type 0) (test : X → Bool) (xs : List X) → Each P xs → list_any test xs ≡ true → (x : X) × P x × (test x ≡ true)
each_any P test [] all some = absurd (true≢false (sym some))
each_any P test (x ∷ xs) all some = ⊎_elim (λ here. (x, all.0, here)) (λ later. each_any P test xs all.1 later) (or_cases (test x) _ some)

sum_each : {X : Type 0} (P : X → Type 0) (f h : X → ℕ) (more : ℕ) → ((x : X) → P x → f x ≤ h x + more) → (xs : List X) → Each P xs → sum_by f xs ≤ sum_by h xs + length xs * more
sum_each P f h more less [] all = omega arith
sum_each P f h more less (x ∷ xs) all =
    let first = less x all.0 in
    let rest = sum_each P f h more less xs all.1 in
    let one = sum_by-cons f x xs in
    let two = sum_by-cons h x xs in
    omega (arith, first, rest, one, two)

sum_sum : {X : Type 0} (f h : X → ℕ) (xs : List X) → sum_by (λ x. f x + h x) xs ≡ sum_by f xs + sum_by h xs
sum_sum f h [] = refl
sum_sum f h (x ∷ xs) =
    let rest = sum_sum f h xs in
    let one = sum_by-cons f x xs in
    let two = sum_by-cons h x xs in
    let both = sum_by-cons (λ y. f y + h y) x xs in
    omega (arith, rest, one, two, both)

sum_none : {X : Type 0} (xs : List X) → sum_by (λ x. 0) xs ≡ 0
sum_none [] = refl
sum_none (x ∷ xs) = let rest = sum_none xs in let cons = sum_by-cons (λ y. 0) x xs in omega (arith, rest, cons)

-- ---- at which variable the steps come to an end, and along how many edges

abbrev pub left_by : Step → ℕ
left_by (Along edge node forward) = node
left_by (End edge node source) = edge

abbrev pub root : List Step → ℕ → ℕ
root [] var = var
root (step ∷ plan) var = cond (root plan var == bound_by step) (left_by step) (root plan var)

abbrev goes_up : Step → ℕ
goes_up (Along edge node forward) = 0
goes_up (End edge node source) = 1

abbrev pub rise : Step → ℕ → ℕ
rise step var = cond (var == bound_by step) (goes_up step) 0

abbrev pub ups : List Step → ℕ → ℕ
ups [] var = 0
ups (step ∷ plan) var = rise step (root plan var) + ups plan var

differ : (a b : ℕ) → a ≢ b → (a == b) ≡ false
differ a b apart = by (a == b) refl
  where
    by : (t : Bool) → (a == b) ≡ t → (a == b) ≡ false
    by true is = absurd (apart (eqb-true a b is))
    by false is = is

module _ (resolved : Resolved) (g : Graph) (pattern : Pattern) (valid : is_valid_pattern pattern ≡ true) where
  abbrev kind_at : ℕ → ℕ
  kind_at var = edge_weight (is_edge_var pattern.edge_vars var)

  abbrev IsClimbed : List Bool → List Step → ℕ → Type 0
  IsClimbed known plan var = (is_known known (root plan var) ≡ true) × (ups plan var ≤ left edge_weight pattern.edge_vars known + kind_at (root plan var))

  not_edge : (var : ℕ) → is_node_var pattern.edge_vars var ≡ true → is_edge_var pattern.edge_vars var ≡ false
  not_edge var node = by (is_edge_var pattern.edge_vars var) refl
    where
      by : (b : Bool) → is_edge_var pattern.edge_vars var ≡ b → is_edge_var pattern.edge_vars var ≡ false
      by true is = absurd (no_two_kinds pattern.edge_vars var is node)
      by false is = is

  climb : (plan : List Step) (known : List Bool) (var : ℕ) → length known ≡ 20 → are_steps pattern.atoms known plan ≡ true → is_known (known_after known plan) var ≡ true → IsClimbed known plan var
  climb [] known var size steps is = (is, omega arith)
  climb (Along edge node forward ∷ plan) known var size steps is =
      let parts = and_parts (is_step pattern.atoms known (Along edge node forward)) _ steps in
      let facts = along_facts resolved g pattern valid known edge node forward parts.0 in
      let step = step_facts resolved g pattern valid known (Along edge node forward) parts.0 in
      let below : edge < length known = omega (arith, size, step.0) in
      let one = left_less edge_weight pattern.edge_vars known edge true (edge_kind pattern.edge_vars edge facts.2) step.1 below in
      by facts.0 (ap edge_weight facts.2) one (climb plan (and_known known edge) var (length-set known edge true ∙ size) parts.1 is) (one_or_other (root plan var) edge)
    where
      by : is_known known node ≡ true → kind_at edge ≡ 1 → left edge_weight pattern.edge_vars (and_known known edge) + 1 ≡ left edge_weight pattern.edge_vars known →
          IsClimbed (and_known known edge) plan var → (root plan var ≡ edge) ⊎ (root plan var ≢ edge) → IsClimbed known (Along edge node forward ∷ plan) var
      by from kind one rest (inl same) =
          let own = eq-eqb (root plan var) edge same in
          let at : root (Along edge node forward ∷ plan) var ≡ node = ap (λ b. cond b node (root plan var)) own in
          let flat : rise (Along edge node forward) (root plan var) ≡ 0 = ap (λ b. cond b 0 0) own in
          let was : kind_at (root plan var) ≡ 1 = ap kind_at same ∙ kind in
          (subst (λ v. is_known known v ≡ true) (sym at) from, omega (arith, rest.1, one, was, flat))
      by from kind one rest (inr apart) =
          let own = differ (root plan var) edge apart in
          let at : root (Along edge node forward ∷ plan) var ≡ root plan var = ap (λ b. cond b node (root plan var)) own in
          let flat : rise (Along edge node forward) (root plan var) ≡ 0 = ap (λ b. cond b 0 0) own in
          let same : kind_at (root (Along edge node forward ∷ plan) var) ≡ kind_at (root plan var) = ap kind_at at in
          (subst (λ v. is_known known v ≡ true) (sym at) (sym (known_other known edge (root plan var) apart) ∙ rest.0), omega (arith, rest.1, one, flat, same))
  climb (End edge node source ∷ plan) known var size steps is =
      let parts = and_parts (is_step pattern.atoms known (End edge node source)) _ steps in
      let facts = end_facts resolved g pattern valid known edge node source parts.0 in
      let step = step_facts resolved g pattern valid known (End edge node source) parts.0 in
      let below : node < length known = omega (arith, size, step.0) in
      let one = left_less edge_weight pattern.edge_vars known node false (node_kind pattern.edge_vars node facts.3) step.1 below in
      by facts.0 (ap edge_weight (not_edge node facts.3)) (ap edge_weight facts.2) one (climb plan (and_known known node) var (length-set known node true ∙ size) parts.1 is) (one_or_other (root plan var) node)
    where
      by : is_known known edge ≡ true → kind_at node ≡ 0 → kind_at edge ≡ 1 → left edge_weight pattern.edge_vars (and_known known node) + 0 ≡ left edge_weight pattern.edge_vars known →
          IsClimbed (and_known known node) plan var → (root plan var ≡ node) ⊎ (root plan var ≢ node) → IsClimbed known (End edge node source ∷ plan) var
      by from none kind one rest (inl same) =
          let own = eq-eqb (root plan var) node same in
          let at : root (End edge node source ∷ plan) var ≡ edge = ap (λ b. cond b edge (root plan var)) own in
          let up : rise (End edge node source) (root plan var) ≡ 1 = ap (λ b. cond b 1 0) own in
          let was : kind_at (root plan var) ≡ 0 = ap kind_at same ∙ none in
          let now : kind_at (root (End edge node source ∷ plan) var) ≡ 1 = ap kind_at at ∙ kind in
          (subst (λ v. is_known known v ≡ true) (sym at) from, omega (arith, rest.1, one, was, up, now))
      by from none kind one rest (inr apart) =
          let own = differ (root plan var) node apart in
          let at : root (End edge node source ∷ plan) var ≡ root plan var = ap (λ b. cond b edge (root plan var)) own in
          let flat : rise (End edge node source) (root plan var) ≡ 0 = ap (λ b. cond b 1 0) own in
          let same : kind_at (root (End edge node source ∷ plan) var) ≡ kind_at (root plan var) = ap kind_at at in
          (subst (λ v. is_known known v ≡ true) (sym at) (sym (known_other known node (root plan var) apart) ∙ rest.0), omega (arith, rest.1, one, flat, same))

  -- from each variable to variable 0, along no more edges than the pattern has edge variables
  pub climbs : (plan : List Step) → is_plan pattern 0 plan ≡ true → (var : ℕ) → var < length pattern.edge_vars → (root plan var ≡ 0) × (ups plan var ≤ edge_count pattern.edge_vars)
  climbs plan plans var below =
      let most = valid_most pattern valid in
      let parts = and_parts (are_steps pattern.atoms (known_alone 0) plan) _ plans in
      let is = covers_at pattern.edge_vars (known_after (known_alone 0) plan) var parts.1 below in
      let all = climb plan (known_alone 0) var (length-set (replicate 20 false) 0 true) parts.0 is in
      let first = some_at pattern.edge_vars 0 (let inside : 0 < length pattern.edge_vars = omega (arith, below) in inside) in
      let at = at_first (root plan var) all.0 (one_or_other (root plan var) 0) in
      let one = left_less edge_weight pattern.edge_vars (replicate 20 false) 0 first.0 first.1 (none_known 20 0) (omega arith) in
      let whole = all_left pattern.edge_vars 20 in
      let kind : kind_at (root plan var) ≡ edge_weight first.0 = ap kind_at at ∙ ap (λ (o : Option Bool). edge_weight (option_map_or (λ is_edge. is_edge) o false)) first.1 in
      (at, omega (arith, all.1, one, whole.0, kind))
    where
      at_first : (v : ℕ) → is_known (known_alone 0) v ≡ true → (v ≡ 0) ⊎ (v ≢ 0) → v ≡ 0
      at_first v known (inl same) = same
      at_first v known (inr apart) = absurd (true≢false (sym known ∙ known_other (replicate 20 false) 0 v apart ∙ none_known 20 v))

-- ---- where what is led back to stands, and how near

module _ (resolved : Resolved) (g : Graph) (graph : is_graph g ≡ true) (pattern : Pattern) (from : Elem) where
  -- at a variable, and within so many edges
  abbrev pub StandsNear : ℕ → ℕ → Stand → Type 0
  StandsNear var near stand = (stand.var ≡ var) × IsNearTo g near from stand.elem

  one_node : (a b : NodeId) → (a.0 == b.0) ≡ true → a ≡ b
  one_node a b h = ap (λ n. record { 0 = n }) (eqb-true a.0 b.0 h)

  at_node : (near : ℕ) (id : NodeId) (elem : Elem) → elem ≡ Node id → is_within g near from id ≡ true → IsNearTo g near from elem
  at_node near id elem same within = subst (IsNearTo g near from) (sym same) (λ other is. subst (λ n. is_within g near from n ≡ true) (one_node id other is) within)

  end_back : (near node : ℕ) (forward : Bool) (elem : Elem) → IsNearTo g near from elem →
      Each (StandsNear node near) (stands_of node (option_and_then (admitted_node resolved g pattern.atoms node) (end_in g forward elem)))
  end_back near node forward (Node id) all = tt {0}
  end_back near node forward (Edge id) all = by (edge_at g id) refl
    where
      is_its_end : (forward : Bool) (row : EdgeRow) → is_end (cond forward row.source row.target) row ≡ true
      is_its_end true row = or_left _ _ (eq-eqb row.source.0 row.source.0 refl)
      is_its_end false row = or_right _ _ (eq-eqb row.target.0 row.target.0 refl)

      inner : (end : NodeId) → is_within g near from end ≡ true → (o : Option Bound) → admitted_node resolved g pattern.atoms node end ≡ o → Each (StandsNear node near) (stands_of node o)
      inner end within None at = tt {0}
      inner end within (Some x) at = ((refl, at_node near end (elem_of x) (node_elem resolved g pattern node end x at) within), tt {0})

      by : (o : Option EdgeRow) → edge_at g id ≡ o →
          Each (StandsNear node near) (stands_of node (option_and_then (admitted_node resolved g pattern.atoms node) (option_map (λ (row : EdgeRow). cond forward row.source row.target) o)))
      by None at = tt {0}
      by (Some row) at =
          inner (cond forward row.source row.target) (all (cond forward row.source row.target) (ap (λ o. option_map_or (is_end (cond forward row.source row.target)) o false) at ∙ is_its_end forward row))
          (admitted_node resolved g pattern.atoms node (cond forward row.source row.target)) refl

  edges_back : (near edge : ℕ) (forward : Bool) (elem : Elem) → IsNearTo g near from elem →
      Each (StandsNear edge (suc near)) (flat_map (λ id. stands_of edge (admitted_edge resolved g pattern.atoms edge id)) (edges_in g forward elem))
  edges_back near edge forward (Edge id) all = tt {0}
  edges_back near edge forward (Node node) all =
      each_flat (λ id. Each (StandsNear edge (suc near)) (stands_of edge (admitted_edge resolved g pattern.atoms edge id))) (StandsNear edge (suc near))
      (λ id. stands_of edge (admitted_edge resolved g pattern.atoms edge id)) (λ id h. h) (edges_in g forward (Node node))
      (each_place _ (edges_in g forward (Node node)) (λ i id at. by i id at (admitted_edge resolved g pattern.atoms edge id) refl))
    where
      some : (forward : Bool) (row : EdgeRow) → cond forward row.source row.target ≡ node → (is_within g near from row.source || is_within g near from row.target) ≡ true
      some true row same = or_left _ _ (subst (λ n. is_within g near from n ≡ true) (sym same) (all node (eq-eqb node.0 node.0 refl)))
      some false row same = or_right _ _ (subst (λ n. is_within g near from n ≡ true) (sym same) (all node (eq-eqb node.0 node.0 refl)))

      by : (i : ℕ) (id : EdgeId) → slice_get (edges_in g forward (Node node)) i ≡ Some id → (o : Option Bound) → admitted_edge resolved g pattern.atoms edge id ≡ o → Each (StandsNear edge (suc near)) (stands_of edge o)
      by i id at None is = tt {0}
      by i id at (Some x) is =
          let row = then_gives _ (edge_at g id) x is in
          let end = listed_from g graph forward node id row.0 i at row.1 in
          let near_edge : IsNearTo g (suc near) from (Edge id) = λ other its.
          within_by g from near id row.0 other row.1 (sym (ap (λ o. option_map_or (is_end other) o false) row.1) ∙ its) (some forward row.0 end) in
          ((refl, subst (IsNearTo g (suc near) from) (sym (edge_elem resolved g pattern edge id x is)) near_edge), tt {0})

  -- an element at the variable that a step binds is gone back from, any other stays
  one_near : (step : Step) (var near : ℕ) (stand : Stand) → StandsNear var near stand →
      Each (StandsNear (cond (var == bound_by step) (left_by step) var) (rise step var + near)) (one_back resolved g pattern.atoms step stand)
  one_near step var near stand all =
      subst (λ v. Each (StandsNear (cond (v == bound_by step) (left_by step) v) (rise step v + near)) (one_back resolved g pattern.atoms step stand)) all.0 (by step (stand.var == bound_by step))
    where
      by : (step : Step) (b : Bool) → Each (StandsNear (cond b (left_by step) stand.var) (cond b (goes_up step) 0 + near)) (cond b (back resolved g pattern.atoms step stand.elem) (stand ∷ []))
      by (Along edge node forward) true =
          subst (λ n. Each (StandsNear node n) (back resolved g pattern.atoms (Along edge node forward) stand.elem)) (sym (zero-add near)) (end_back near node forward stand.elem all.1)
      by (End edge node source) true =
          let same : suc near ≡ 1 + near = omega arith in
          subst (λ n. Each (StandsNear edge n) (back resolved g pattern.atoms (End edge node source) stand.elem)) same (edges_back near edge source stand.elem all.1)
      by step false = ((refl, subst (λ n. IsNearTo g n from stand.elem) (sym (zero-add near)) all.1), tt {0})

  pub led_near : (plan : List Step) (var : ℕ) → Each (StandsNear (root plan var) (ups plan var)) (led_back resolved g pattern.atoms plan (stand_at var from))
  led_near [] var = ((refl, λ id is. is), tt {0})
  led_near (step ∷ plan) var =
      each_flat (StandsNear (root plan var) (ups plan var)) (StandsNear (root (step ∷ plan) var) (ups (step ∷ plan) var)) (one_back resolved g pattern.atoms step)
      (λ stand all. one_near step (root plan var) (ups plan var) stand all) (led_back resolved g pattern.atoms plan (stand_at var from)) (led_near plan var)

  -- ---- how much it is, and how many look-ups it takes

  module _ (w d : ℕ) (sparse : IsSparse g w from d) where
    few_in : (near : ℕ) → near ≤ w → (source : Bool) (id : NodeId) → IsNearTo g near from (Node id) → length (edges_in g source (Node id)) ≤ d
    few_in near less source id all =
        let degree = sparse id (within_less g from near w id less (all id (eq-eqb id.0 id.0 refl))) in
        let some = few_at g from source id in
        omega (arith, degree, some)

    -- so many times as much, and so many look-ups more, by a step that goes up along edges, and by one that doesn't
    abbrev times : ℕ → ℕ
    times zero = 1
    times (suc more) = d

    abbrev extra : ℕ → ℕ
    extra zero = 0
    extra (suc more) = 6 * d + 1

    -- two look-ups for an edge are counted before its end is looked up
    abbrev weight : Elem → ℕ
    weight (Node id) = 0
    weight (Edge id) = 2

    abbrev weight_of : Stand → ℕ
    weight_of stand = weight stand.elem

    one_stand : (var : ℕ) (o : Option Bound) → length (stands_of var o) ≤ 1
    one_stand var None = omega arith
    one_stand var (Some x) = omega arith

    edge_stand : (var : ℕ) (o : Option Bound) → sum_by weight_of (stands_of var o) ≤ 2
    edge_stand var None = omega arith
    edge_stand var (Some x) = by (elem_of x)
      where
        by : (elem : Elem) → sum_by weight_of (stand_at var elem ∷ []) ≤ 2
        by (Node id) = omega arith
        by (Edge id) = omega arith

    node_stand : (var : ℕ) (id : NodeId) → sum_by weight_of (stands_of var (admitted_node resolved g pattern.atoms var id)) ≡ 0
    node_stand var id = by (admitted_node resolved g pattern.atoms var id) refl
      where
        by : (o : Option Bound) → admitted_node resolved g pattern.atoms var id ≡ o → sum_by weight_of (stands_of var o) ≡ 0
        by None at = refl
        by (Some x) at = zero-add (weight (elem_of x)) ∙ ap weight (node_elem resolved g pattern var id x at)

    sum_most : {X : Type 0} (f : X → ℕ) (most : ℕ) → ((x : X) → f x ≤ most) → (xs : List X) → sum_by f xs ≤ length xs * most
    sum_most f most less [] = omega arith
    sum_most f most less (x ∷ xs) = let first = less x in let rest = sum_most f most less xs in let cons = sum_by-cons f x xs in omega (arith, first, rest, cons)

    back_size : (step : Step) (near : ℕ) (elem : Elem) → near ≤ w → IsNearTo g near from elem → length (back resolved g pattern.atoms step elem) ≤ times (goes_up step)
    back_size (Along edge node forward) near elem less all = one_stand node (option_and_then (admitted_node resolved g pattern.atoms node) (end_in g forward elem))
    back_size (End edge node source) near (Edge id) less all = omega arith
    back_size (End edge node source) near (Node id) less all =
        let few = few_in near less source id all in
        let whole = length-flat_map (λ i. stands_of edge (admitted_edge resolved g pattern.atoms edge i)) (edges_in g source (Node id)) in
        let most = sum_most (λ i. length (stands_of edge (admitted_edge resolved g pattern.atoms edge i))) 1 (λ i. one_stand edge (admitted_edge resolved g pattern.atoms edge i)) (edges_in g source (Node id)) in
        omega (arith, few, whole, most)

    end_weight : (node : ℕ) (o : Option NodeId) → sum_by weight_of (stands_of node (option_and_then (admitted_node resolved g pattern.atoms node) o)) ≡ 0
    end_weight node None = refl
    end_weight node (Some id) = node_stand node id

    back_cost : (step : Step) (near : ℕ) (elem : Elem) → near ≤ w → IsNearTo g near from elem →
        back_most g step elem + sum_by weight_of (back resolved g pattern.atoms step elem) ≤ weight elem + extra (goes_up step)
    back_cost (Along edge node forward) near (Node id) less all = omega arith
    back_cost (Along edge node forward) near (Edge id) less all = let none = end_weight node (end_in g forward (Edge id)) in omega (arith, none)
    back_cost (End edge node source) near (Edge id) less all = omega arith
    back_cost (End edge node source) near (Node id) less all =
        let few = few_in near less source id all in
        let whole = sum_flat weight_of (λ i. stands_of edge (admitted_edge resolved g pattern.atoms edge i)) (edges_in g source (Node id)) in
        let most = sum_most (λ i. sum_by weight_of (stands_of edge (admitted_edge resolved g pattern.atoms edge i))) 2 (λ i. edge_stand edge (admitted_edge resolved g pattern.atoms edge i)) (edges_in g source (Node id)) in
        omega (arith, few, whole, most)

    one_size : (step : Step) (var near : ℕ) → near ≤ w → (stand : Stand) → StandsNear var near stand → length (one_back resolved g pattern.atoms step stand) ≤ times (rise step var)
    one_size step var near less stand all =
        subst (λ v. length (one_back resolved g pattern.atoms step stand) ≤ times (rise step v)) all.0 (by (stand.var == bound_by step))
      where
        by : (b : Bool) → length (cond b (back resolved g pattern.atoms step stand.elem) (stand ∷ [])) ≤ times (cond b (goes_up step) 0)
        by true = back_size step near stand.elem less all.1
        by false = omega arith

    one_cost : (step : Step) (var near : ℕ) → near ≤ w → (stand : Stand) → StandsNear var near stand →
        one_most g step stand + sum_by weight_of (one_back resolved g pattern.atoms step stand) ≤ weight_of stand + extra (rise step var)
    one_cost step var near less stand all =
        subst (λ v. one_most g step stand + sum_by weight_of (one_back resolved g pattern.atoms step stand) ≤ weight_of stand + extra (rise step v)) all.0 (by (stand.var == bound_by step))
      where
        by : (b : Bool) → cond b (back_most g step stand.elem) 0 + sum_by weight_of (cond b (back resolved g pattern.atoms step stand.elem) (stand ∷ [])) ≤ weight_of stand + extra (cond b (goes_up step) 0)
        by true = back_cost step near stand.elem less all.1
        by false = omega arith

    -- so much further along a plan
    grown : (n all up : ℕ) → n ≤ (d + 2) ^ up → (x : ℕ) → x ≤ 1 → all ≤ n * times x → all ≤ (d + 2) ^ (x + up)
    grown n all up few zero small more = let same : (d + 2) ^ (0 + up) ≡ (d + 2) ^ up = ap (λ e. (d + 2) ^ e) (let e : 0 + up ≡ up = omega arith in e) in omega (arith, few, more, same)
    grown n all up few (suc zero) small more =
        let power = pow-succ' (d + 2) up in
        let same : (d + 2) ^ (1 + up) ≡ (d + 2) ^ suc up = ap (λ e. (d + 2) ^ e) (let e : 1 + up ≡ suc up = omega arith in e) in
        let part = mul-le-mul_right d few in
        turn n ((d + 2) ^ up) all ((d + 2) ^ (1 + up)) part more (same ∙ power)
      where
        turn : (n power all whole : ℕ) → n * d ≤ power * d → all ≤ n * d → whole ≡ (d + 2) * power → all ≤ whole
        turn n power all whole a b c = omega (arith, a, b, c)
    grown n all up few (suc (suc x)) small more = absurd (omega (arith, small))

    small_rise : (step : Step) (var : ℕ) → rise step var ≤ 1
    small_rise (Along edge node forward) var = by (var == edge)
      where
        by : (b : Bool) → cond b 0 0 ≤ 1
        by true = omega arith
        by false = omega arith
    small_rise (End edge node source) var = by (var == node)
      where
        by : (b : Bool) → cond b 1 0 ≤ 1
        by true = omega arith
        by false = omega arith

    pub led_size : (plan : List Step) (var : ℕ) → ups plan var ≤ w → length (led_back resolved g pattern.atoms plan (stand_at var from)) ≤ (d + 2) ^ ups plan var
    led_size [] var less = one_at_least d 0
    led_size (step ∷ plan) var less =
        let so_far = led_back resolved g pattern.atoms plan (stand_at var from) in
        let x = rise step (root plan var) in
        let before = led_size plan var (omega (arith, less)) in
        let each = sum_each (StandsNear (root plan var) (ups plan var)) (λ stand. length (one_back resolved g pattern.atoms step stand)) (λ stand. 0) (times x)
        (λ stand all. let size = one_size step (root plan var) (ups plan var) (omega (arith, less)) stand all in omega (arith, size)) so_far (led_near plan var) in
        let none = sum_none so_far in
        let whole = length-flat_map (one_back resolved g pattern.atoms step) so_far in
        grown (length so_far) _ (ups plan var) before x (small_rise step (root plan var)) (omega (arith, each, none, whole))

    cost_grown : (n cost all up : ℕ) → n ≤ (d + 2) ^ up → cost ≤ 8 * (d + 2) ^ up → (x : ℕ) → x ≤ 1 → all ≤ cost + n * extra x → all ≤ 8 * (d + 2) ^ (x + up)
    cost_grown n cost all up few before zero small more =
        let same : (d + 2) ^ (0 + up) ≡ (d + 2) ^ up = ap (λ e. (d + 2) ^ e) (let e : 0 + up ≡ up = omega arith in e) in omega (arith, before, more, same)
    cost_grown n cost all up few before (suc zero) small more =
        let power = pow-succ' (d + 2) up in
        let same : (d + 2) ^ (1 + up) ≡ (d + 2) ^ suc up = ap (λ e. (d + 2) ^ e) (let e : 1 + up ≡ suc up = omega arith in e) in
        let part = mul-le-mul_right (6 * d + 1) few in
        turn n ((d + 2) ^ up) cost all ((d + 2) ^ (1 + up)) part before more (same ∙ power)
      where
        turn : (n power cost all whole : ℕ) → n * (6 * d + 1) ≤ power * (6 * d + 1) → cost ≤ 8 * power → all ≤ cost + n * (6 * d + 1) → whole ≡ (d + 2) * power → all ≤ 8 * whole
        turn n power cost all whole a b c e = omega (arith, a, b, c, e)
    cost_grown n cost all up few before (suc (suc x)) small more = absurd (omega (arith, small))

    pub led_steps : (plan : List Step) (var : ℕ) → ups plan var ≤ w →
        led_most resolved g pattern.atoms plan (stand_at var from) + sum_by weight_of (led_back resolved g pattern.atoms plan (stand_at var from)) ≤ 8 * (d + 2) ^ ups plan var
    led_steps [] var less = let one = one_at_least d 0 in let some = by from in omega (arith, one, some)
      where
        by : (elem : Elem) → sum_by weight_of (stand_at var elem ∷ []) ≤ 2
        by (Node id) = omega arith
        by (Edge id) = omega arith
    led_steps (step ∷ plan) var less =
        let so_far = led_back resolved g pattern.atoms plan (stand_at var from) in
        let x = rise step (root plan var) in
        let few = led_size plan var (omega (arith, less)) in
        let before = led_steps plan var (omega (arith, less)) in
        let each = sum_each (StandsNear (root plan var) (ups plan var)) (λ stand. one_most g step stand + sum_by weight_of (one_back resolved g pattern.atoms step stand)) weight_of (extra x)
        (λ stand all. one_cost step (root plan var) (ups plan var) (omega (arith, less)) stand all) so_far (led_near plan var) in
        let both = sum_sum (one_most g step) (λ stand. sum_by weight_of (one_back resolved g pattern.atoms step stand)) so_far in
        let whole = sum_flat weight_of (one_back resolved g pattern.atoms step) so_far in
        cost_grown (length so_far) (led_most resolved g pattern.atoms plan (stand_at var from) + sum_by weight_of so_far) _ (ups plan var) few before x (small_rise step (root plan var))
        (omega (arith, each, both, whole))

    -- of a plan of the whole pattern from its first variable
    module _ (valid : is_valid_pattern pattern ≡ true) (within : edge_count pattern.edge_vars ≤ w) (plan : List Step) (plans : is_plan pattern 0 plan ≡ true) (var : ℕ) (below : var < length pattern.edge_vars) where
      pub led_few_of : length (led_back resolved g pattern.atoms plan (stand_at var from)) ≤ (d + 2) ^ w
      led_few_of =
          let up = climbs resolved g pattern valid plan plans var below in
          let size = led_size plan var (omega (arith, up.1, within)) in
          let more = power_more d (ups plan var) w (omega (arith, up.1, within)) in
          omega (arith, size, more)

      pub led_most_of : led_most resolved g pattern.atoms plan (stand_at var from) ≤ 8 * (d + 2) ^ w
      led_most_of =
          let up = climbs resolved g pattern valid plan plans var below in
          let cost = led_steps plan var (omega (arith, up.1, within)) in
          let more = power_more d (ups plan var) w (omega (arith, up.1, within)) in
          omega (arith, cost, more)
