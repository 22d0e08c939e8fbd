-- A sound delta touches its own elements and the edges at its nodes; what is near them over both graphs has few edges.
use Rattle.std.proofs.Common.{◌≡◌, ℕ, zero, suc, ◌+◌, ◌*◌, ◌-◌, ◌≤◌, zero-add, Bool, true, false, ◌&&◌, ◌||◌, cond, not, ⊎_elim, List, [], ◌∷◌, ◌++◌, map, filter, length, Option, Some, None, refl, sym, ◌∙◌, ap, subst, true≢false, arith, is_lt}
use Rattle.std.specs.Option.{option_map_or}
use Rattle.std.specs.Ordering.{is_eq}
use Rattle.std.specs.List.{list_any, list_all}
use Rattle.std.specs.Map.{keys_of, lookup}
use Rattle.std.specs.BTreeMap.{is_at}
use Rattle.std.specs.Cmp.{tied_itself, Equal-is}
use Rattle.std.proofs.lemmas.Bool.{and_parts, and_from, or_cases, or_parts, or_left, or_right}
use Rattle.std.proofs.lemmas.List.{length-append}
use Rattle.std.proofs.lemmas.List.Folds.{list_any-append, list_all-append}
use Rattle.pgs_base.specs.declared.element.NodeId.{NodeId}
use Rattle.pgs_base.specs.declared.element.EdgeId.{EdgeId}
use Rattle.pgs_base.specs.declared.element.Elem.{Elem}
use Rattle.pgs_base.specs.declared.element.Elem.TheVariants.{Node, Edge}
use Rattle.pgs_base.specs.declared.row.EdgeRow.{EdgeRow}
use Rattle.pgs_base.specs.Graph.{Graph, node_cmp, edge_cmp, node_at, edge_at, is_end, is_graph}
use Rattle.pgs_base.specs.Order.{ascends, elem_cmp}
use Rattle.pgs_base.specs.OrderLaws.{elem_cmp_total, exact_elem}
use Rattle.pgs_graph.specs.declared.delta.Delta.{Delta}
use Rattle.pgs_graph.specs.Changed.{changed, is_sound, after_changes}
use Rattle.pgs_graph.specs.Reads.{degree_of}
use Rattle.pgs_graph.proofs.Deltas.{node_after, edge_after}
use Rattle.pgs_syntax.specs.Matches.{same_elem, elements}
use Rattle.pgs_syntax.proofs.Halves.{any_map, any_filter}
use Rattle.pgs_match.specs.Near.{is_at_element, is_within, IsNearTo}
use Rattle.pgs_match.proofs.Started.{same_truth}
use Rattle.pgs_match.proofs.There.{edge_there}
use Rattle.pgs_check_affected.specs.Changes.{elems_of}
use Rattle.pgs_check_affected.specs.Local.{is_one_of, AgreeBut, has_touched_end}
use Rattle.pgs_check_affected.specs.Touched.{is_beside, touched, is_near, AreSparse, IsSparseInBoth, AreSparseInBoth}
use Rattle.pgs_check_affected.proofs.BoundEnds.{ends_same}

-- ---- tests of lists

pub any_implied : {X : Type 0} (p q : X → Bool) → ((x : X) → p x ≡ true → q x ≡ true) → (xs : List X) → list_any p xs ≡ true → list_any q xs ≡ true
any_implied p q by [] h = h
any_implied p q by (x ∷ xs) h = ⊎_elim (λ here. or_left (q x) _ (by x here)) (λ later. or_right (q x) _ (any_implied p q by xs later)) (or_cases (p x) _ h)

-- a test that an element of a list passes is passed by one of it
pub any_of : (test : Elem → Bool) (x : Elem) (xs : List Elem) → is_one_of xs x ≡ true → test x ≡ true → list_any test xs ≡ true
any_of test x xs there h =
    any_implied (same_elem x) test (λ y same. ap test (sym (exact_elem x y ((Equal-is (elem_cmp x y)).0 same))) ∙ h) xs there

-- and an element of a list that passes is found
pub one_that : (test : Elem → Bool) (xs : List Elem) → list_any test xs ≡ true → (x : Elem) × (is_one_of xs x ≡ true) × (test x ≡ true)
one_that test [] h = absurd (true≢false (sym h))
one_that test (x ∷ xs) h =
    ⊎_elim (λ here. (x, or_left (same_elem x x) _ (ap is_eq (tied_itself elem_cmp_total x)), here))
    (λ later. let rest = one_that test xs later in (rest.0, or_right (same_elem rest.0 x) _ rest.1, rest.2)) (or_cases (test x) _ h)

pub itself : (x : Elem) → same_elem x x ≡ true
itself x = ap is_eq (tied_itself elem_cmp_total x)

-- ---- a sound delta

absent : {K V : Type 0} (test : K → Bool) (es : List (K × V)) → list_any test (keys_of es) ≡ false → lookup test es ≡ None
absent test [] none = refl
absent {K} {V} test (e ∷ es) none = by (test e.0) (or_parts (test e.0) _ none).0 (absent test es (or_parts (test e.0) _ none).1)
  where
    by : (b : Bool) → b ≡ false → lookup test es ≡ None → cond b (Some e.1) (lookup test es) ≡ None
    by true is rest = absurd (true≢false is)
    by false is rest = rest

module _ (delta : Delta) where
  abbrev node_elems : List Elem
  node_elems = map (λ id. Node id) (keys_of delta.nodes)

  abbrev edge_elems : List Elem
  edge_elems = map (λ id. Edge id) (keys_of delta.edges)

  no_node : (id : NodeId) → is_one_of (elems_of delta) (Node id) ≡ false → lookup (is_at (node_cmp id)) delta.nodes ≡ None
  no_node id none =
      absent (is_at (node_cmp id)) delta.nodes
      (sym (any_map (same_elem (Node id)) (λ id. Node id) (keys_of delta.nodes))
      ∙ (or_parts (list_any (same_elem (Node id)) node_elems) (list_any (same_elem (Node id)) edge_elems) (sym (list_any-append (same_elem (Node id)) node_elems edge_elems) ∙ none)).0)

  no_edge : (id : EdgeId) → is_one_of (elems_of delta) (Edge id) ≡ false → lookup (is_at (edge_cmp id)) delta.edges ≡ None
  no_edge id none =
      absent (is_at (edge_cmp id)) delta.edges
      (sym (any_map (same_elem (Edge id)) (λ id. Edge id) (keys_of delta.edges))
      ∙ (or_parts (list_any (same_elem (Edge id)) node_elems) (list_any (same_elem (Edge id)) edge_elems) (sym (list_any-append (same_elem (Edge id)) node_elems edge_elems) ∙ none)).1)

  pub changed_agrees : (g : Graph) → is_graph g ≡ true → is_sound g delta ≡ true → AgreeBut (is_one_of (elems_of delta)) g (changed g delta)
  changed_agrees g graph sound = record {
    nodes = λ id out. sym (node_after g delta id graph sound ∙ ap (λ o. after_changes o (node_at g id)) (no_node id out));
    edges = λ id out. sym (edge_after g delta id graph sound ∙ ap (λ o. after_changes o (edge_at g id)) (no_edge id out));
  }

  -- ---- its elements ascend

  later_nodes : (k : NodeId) (ks : List NodeId) → list_all (λ later. is_lt (node_cmp k later)) ks ≡ true → list_all (λ later. is_lt (elem_cmp (Node k) later)) (map (λ id. Node id) ks) ≡ true
  later_nodes k [] h = refl
  later_nodes k (x ∷ xs) h = let parts = and_parts (is_lt (node_cmp k x)) _ h in and_from _ _ parts.0 (later_nodes k xs parts.1)

  nodes_rise : (ks : List NodeId) → ascends node_cmp ks ≡ true → ascends elem_cmp (map (λ id. Node id) ks) ≡ true
  nodes_rise [] h = refl
  nodes_rise (x ∷ xs) h = let parts = and_parts _ _ h in and_from _ _ (later_nodes x xs parts.0) (nodes_rise xs parts.1)

  later_edges : (k : EdgeId) (ks : List EdgeId) → list_all (λ later. is_lt (edge_cmp k later)) ks ≡ true → list_all (λ later. is_lt (elem_cmp (Edge k) later)) (map (λ id. Edge id) ks) ≡ true
  later_edges k [] h = refl
  later_edges k (x ∷ xs) h = let parts = and_parts (is_lt (edge_cmp k x)) _ h in and_from _ _ parts.0 (later_edges k xs parts.1)

  edges_rise : (ks : List EdgeId) → ascends edge_cmp ks ≡ true → ascends elem_cmp (map (λ id. Edge id) ks) ≡ true
  edges_rise [] h = refl
  edges_rise (x ∷ xs) h = let parts = and_parts _ _ h in and_from _ _ (later_edges x xs parts.0) (edges_rise xs parts.1)

  all_edges_later : (id : NodeId) (ks : List EdgeId) → list_all (λ later. is_lt (elem_cmp (Node id) later)) (map (λ id. Edge id) ks) ≡ true
  all_edges_later id [] = refl
  all_edges_later id (x ∷ xs) = all_edges_later id xs

  joined : (ks : List NodeId) (js : List EdgeId) → ascends node_cmp ks ≡ true → ascends edge_cmp js ≡ true →
      ascends elem_cmp (map (λ id. Node id) ks ++ map (λ id. Edge id) js) ≡ true
  joined [] js first second = edges_rise js second
  joined (x ∷ xs) js first second =
      let parts = and_parts _ _ first in
      and_from _ _
      (list_all-append (λ later. is_lt (elem_cmp (Node x) later)) (map (λ id. Node id) xs) (map (λ id. Edge id) js)
      ∙ and_from _ _ (later_nodes x xs parts.0) (all_edges_later x js))
      (joined xs js parts.1 second)

  pub elems_ascend : (g : Graph) → is_sound g delta ≡ true → ascends elem_cmp (elems_of delta) ≡ true
  elems_ascend g sound =
      let order = and_parts (ascends node_cmp (keys_of delta.nodes)) _ (and_parts _ _ sound).0 in joined (keys_of delta.nodes) (keys_of delta.edges) order.0 order.1

-- ---- what a change touches

pub own_fewer : (g : Graph) (elems : List Elem) → length elems ≤ length (touched g elems)
own_fewer g elems = let all = length-append elems (filter (is_beside g elems) (elements g true)) in omega arith

module _ (g h : Graph) (elems : List Elem) where
  pub own_touched : (elem : Elem) → is_one_of elems elem ≡ true → is_one_of (touched g elems) elem ≡ true
  own_touched elem own = list_any-append (same_elem elem) elems (filter (is_beside g elems) (elements g true)) ∙ or_left _ _ own

  has_row : (elem : Elem) → has_touched_end (is_one_of elems) g elem ≡ true → is_one_of (elements g true) elem ≡ true
  has_row (Node id) some = absurd (true≢false (sym some))
  has_row (Edge id) some = by (edge_at g id) refl some
    where
      by : (o : Option EdgeRow) → edge_at g id ≡ o →
          option_map_or (λ (row : EdgeRow). is_one_of elems (Node row.source) || is_one_of elems (Node row.target)) o false ≡ true → is_one_of (elements g true) (Edge id) ≡ true
      by None at some = absurd (true≢false (sym some))
      by (Some row) at some = edge_there g id row at

  beside_is : (elem : Elem) → is_one_of (filter (is_beside g elems) (elements g true)) elem ≡ is_beside g elems elem
  beside_is elem =
      any_filter (same_elem elem) (is_beside g elems) (elements g true)
      ∙ same_truth _ _ there back
    where
      there : list_any (λ x. is_beside g elems x && same_elem elem x) (elements g true) ≡ true → is_beside g elems elem ≡ true
      there some =
          let it = one_that (λ x. is_beside g elems x && same_elem elem x) (elements g true) some in
          let parts = and_parts (is_beside g elems it.0) _ it.2 in
          ap (is_beside g elems) (exact_elem elem it.0 ((Equal-is (elem_cmp elem it.0)).0 parts.1)) ∙ parts.0

      back : is_beside g elems elem ≡ true → list_any (λ x. is_beside g elems x && same_elem elem x) (elements g true) ≡ true
      back is =
          any_of (λ x. is_beside g elems x && same_elem elem x) elem (elements g true) (has_row elem (and_parts _ _ is).0) (and_from _ _ is (itself elem))

  module _ (agree : AgreeBut (is_one_of elems) g h) where
    pub touched_is : (elem : Elem) →
        is_one_of (touched g elems) elem ≡ (is_one_of elems elem || (has_touched_end (is_one_of elems) g elem || has_touched_end (is_one_of elems) h elem))
    touched_is elem =
        list_any-append (same_elem elem) elems (filter (is_beside g elems) (elements g true))
        ∙ ap (λ t. is_one_of elems elem || t) (beside_is elem) ∙ by (is_one_of elems elem) refl
      where
        twice : (a b : Bool) → a ≡ b → (a && true) ≡ (a || b)
        twice true b same = refl
        twice false b same = same

        by : (b : Bool) → is_one_of elems elem ≡ b →
            (b || (has_touched_end (is_one_of elems) g elem && not b)) ≡ (b || (has_touched_end (is_one_of elems) g elem || has_touched_end (is_one_of elems) h elem))
        by true is = refl
        by false is = twice _ _ (ends_same (is_one_of elems) g h agree elem is)

-- ---- what is near over both graphs

module _ (g h : Graph) where
  -- what is within so many edges in one graph is near over both
  abbrev step : (NodeId → Bool) → NodeId → EdgeId × EdgeRow → Bool
  step near id edge = is_end id edge.1 && (near edge.1.source || near edge.1.target)

  step_implied : (p q : NodeId → Bool) → ((n : NodeId) → p n ≡ true → q n ≡ true) → (id : NodeId) (edge : EdgeId × EdgeRow) → step p id edge ≡ true → step q id edge ≡ true
  step_implied p q by id edge h =
      let parts = and_parts (is_end id edge.1) _ h in
      and_from _ _ parts.0 (⊎_elim (λ s. or_left _ _ (by edge.1.source s)) (λ t. or_right (q edge.1.source) _ (by edge.1.target t)) (or_cases (p edge.1.source) _ parts.1))

  pub near_before : (edges : ℕ) (elem : Elem) (id : NodeId) → is_within g edges elem id ≡ true → is_near g h edges elem id ≡ true
  near_before zero elem id is = or_left _ _ is
  near_before (suc edges) elem id is =
      ⊎_elim (λ here. or_left _ _ (near_before edges elem id here))
      (λ far. or_right (is_near g h edges elem id) _
      (list_any-append (step (is_near g h edges elem) id) g.edges h.edges
      ∙ or_left _ _ (any_implied (step (is_within g edges elem) id) (step (is_near g h edges elem) id) (step_implied _ _ (near_before edges elem) id) g.edges far)))
      (or_cases (is_within g edges elem id) _ is)

  pub near_after : (edges : ℕ) (elem : Elem) (id : NodeId) → is_within h edges elem id ≡ true → is_near g h edges elem id ≡ true
  near_after zero elem id is = or_right (is_at_element g elem id) _ is
  near_after (suc edges) elem id is =
      ⊎_elim (λ here. or_left _ _ (near_after edges elem id here))
      (λ far. or_right (is_near g h edges elem id) _
      (list_any-append (step (is_near g h edges elem) id) g.edges h.edges
      ∙ or_right (list_any (step (is_near g h edges elem) id) g.edges) _
      (any_implied (step (is_within h edges elem) id) (step (is_near g h edges elem) id) (step_implied _ _ (near_after edges elem) id) h.edges far)))
      (or_cases (is_within h edges elem id) _ is)

  near_further : (near more : ℕ) (elem : Elem) (id : NodeId) → is_near g h near elem id ≡ true → is_near g h (more + near) elem id ≡ true
  near_further near zero elem id is = subst (λ n. is_near g h n elem id ≡ true) (sym (zero-add near)) is
  near_further near (suc more) elem id is =
      let same : suc (more + near) ≡ suc more + near = omega arith in
      subst (λ n. is_near g h n elem id ≡ true) same (or_left (is_near g h (more + near) elem id) _ (near_further near more elem id is))

  pub near_less : (near far : ℕ) (elem : Elem) (id : NodeId) → near ≤ far → is_near g h near elem id ≡ true → is_near g h far elem id ≡ true
  near_less near far elem id less is =
      let same : (far - near) + near ≡ far = omega arith in subst (λ n. is_near g h n elem id ≡ true) same (near_further near (far - near) elem id is)

  -- the nodes at an element, in either graph, are near another
  abbrev pub IsNearBoth : ℕ → Elem → Elem → Type 0
  IsNearBoth edges from elem = (id : NodeId) → is_near g h 0 elem id ≡ true → is_near g h edges from id ≡ true

  -- what is near an element that is near another is near that
  pub near_through : (edges more : ℕ) (from elem : Elem) → IsNearBoth edges from elem → (id : NodeId) → is_near g h more elem id ≡ true → is_near g h (more + edges) from id ≡ true
  near_through edges zero from elem near id is = subst (λ n. is_near g h n from id ≡ true) (sym (zero-add edges)) (near id is)
  near_through edges (suc more) from elem near id is =
      let same : suc (more + edges) ≡ suc more + edges = omega arith in
      subst (λ n. is_near g h n from id ≡ true) same
      (⊎_elim (λ here. or_left _ _ (near_through edges more from elem near id here))
      (λ far. or_right (is_near g h (more + edges) from id) _
      (any_implied (step (is_near g h more elem) id) (step (is_near g h (more + edges) from) id)
      (step_implied _ _ (near_through edges more from elem near) id) (g.edges ++ h.edges) far))
      (or_cases (is_near g h more elem id) _ is))

  module _ (elems : List Elem) (agree : AgreeBut (is_one_of elems) g h) (edges most : ℕ) (sparse : AreSparse g h (2 * edges) (touched g elems) most) where
    -- so an element near a touched one has few edges near it
    pub sparse_through : (from elem : Elem) → is_one_of (touched g elems) from ≡ true → IsNearBoth edges from elem → IsSparseInBoth g h edges elem most
    sparse_through from elem own near =
        (λ id is. (by id (near_before edges elem id is)).0, λ id is. (by id (near_after edges elem id is)).1)
      where
        by : (id : NodeId) → is_near g h edges elem id ≡ true → (degree_of g id ≤ most) × (degree_of h id ≤ most)
        by id is =
            let same : edges + edges ≡ 2 * edges = omega arith in
            sparse from own id (subst (λ n. is_near g h n from id ≡ true) same (near_through edges edges from elem near id is))

    pub sparse_touched : (elem : Elem) → is_one_of (touched g elems) elem ≡ true → IsSparseInBoth g h edges elem most
    sparse_touched elem own = sparse_through elem elem own (λ id here. near_less 0 edges elem id (omega arith) here)

    pub sparse_own : (least : ℕ) → least ≤ edges → AreSparseInBoth g h least elems most
    sparse_own least less elem own =
        let all = sparse_touched elem (own_touched g h elems elem own) in (
          λ id is. (sparse elem (own_touched g h elems elem own) id (near_less least (2 * edges) elem id (omega (arith, less)) (near_before least elem id is))).0,
          λ id is. (sparse elem (own_touched g h elems elem own) id (near_less least (2 * edges) elem id (omega (arith, less)) (near_after least elem id is))).1,
        )

    -- an element that is near a touched one in one of the graphs is so in both, or is touched
    at_same : (elem : Elem) → is_one_of elems elem ≡ false → (id : NodeId) → is_at_element g elem id ≡ is_at_element h elem id
    at_same (Node other) out id = refl
    at_same (Edge edge) out id = ap (λ o. option_map_or (is_end id) o false) (agree.edges edge out)

    at_one : (elem : Elem) → is_one_of elems elem ≡ false → (id : NodeId) → is_near g h 0 elem id ≡ true → is_at_element g elem id ≡ true
    at_one elem out id is = ⊎_elim (λ here. here) (λ there. at_same elem out id ∙ there) (or_cases (is_at_element g elem id) _ is)

    pub sparse_before : (least : ℕ) → least ≤ edges → (from elem : Elem) → is_one_of elems from ≡ true → IsNearTo g least from elem → IsSparseInBoth g h edges elem most
    sparse_before least less from elem own near = by (is_one_of elems elem) refl
      where
        by : (b : Bool) → is_one_of elems elem ≡ b → IsSparseInBoth g h edges elem most
        by true is = sparse_touched elem (own_touched g h elems elem is)
        by false out =
            sparse_through from elem (own_touched g h elems from own)
            (λ id is. near_less least edges from id less (near_before least from id (near id (at_one elem out id is))))

    pub sparse_after : (least : ℕ) → least ≤ edges → (from elem : Elem) → is_one_of elems from ≡ true → IsNearTo h least from elem → IsSparseInBoth g h edges elem most
    sparse_after least less from elem own near = by (is_one_of elems elem) refl
      where
        by : (b : Bool) → is_one_of elems elem ≡ b → IsSparseInBoth g h edges elem most
        by true is = sparse_touched elem (own_touched g h elems elem is)
        by false out =
            sparse_through from elem (own_touched g h elems from own)
            (λ id is. near_less least edges from id less (near_after least from id (near id (sym (at_same elem out id) ∙ at_one elem out id is))))
