-- The pairs of a match in a graph that can stand are as the placed pattern asks.
use Rattle.std.proofs.Common.{◌≡◌, ℕ, suc, zero, ◌+◌, Bool, true, false, ◌&&◌, ◌||◌, cond, List, [], ◌∷◌, map, length, Option, Some, None, slice_get, is_some, unwrap_or, refl, sym, ◌∙◌, ap, arith, ◌==◌}
use Rattle.std.specs.Prelude.{option_and_then}
use Rattle.std.specs.BTreeMap.{is_at}
use Rattle.std.specs.Map.{lookup}
use Rattle.std.specs.Option.{option_map_or, option_map}
use Rattle.std.specs.List.{list_any, list_all}
use Rattle.std.proofs.lemmas.Bool.{true≢false, and_parts, and_from, eqb-true}
use Rattle.std.proofs.lemmas.List.{length-map}
use Rattle.std.proofs.lemmas.Option.{same_Some, slice_get-map}
use Rattle.pgs_base.specs.declared.element.EdgeId.{EdgeId}
use Rattle.pgs_base.specs.declared.element.Elem.{Elem}
use Rattle.pgs_base.specs.declared.element.Elem.TheVariants.{Node, Edge}
use Rattle.pgs_base.specs.declared.element.NodeId.{NodeId}
use Rattle.pgs_base.specs.declared.part.Part.TheVariants as parts
use Rattle.pgs_base.specs.declared.row.EdgeRow.{EdgeRow}
use Rattle.pgs_base.specs.declared.row.NodeRow.{NodeRow}
use Rattle.pgs_base.specs.declared.value.Value.{Value}
use Rattle.pgs_base.specs.Graph.{Graph, node_cmp, edge_cmp, node_at, edge_at}
use Rattle.pgs_base.specs.Pair.{has_name, value_at, pair_of, is_pair}
use Rattle.pgs_syntax.specs.declared.pattern.Atom.{Atom}
use Rattle.pgs_syntax.specs.declared.pattern.Atom.TheVariants.{Ends, HasLabel, FitsNode, FitsEdge, Equals}
use Rattle.pgs_syntax.specs.declared.pattern.Expr.{Expr}
use Rattle.pgs_syntax.specs.declared.pattern.Expr.TheVariants.{Element, Property}
use Rattle.pgs_syntax.specs.declared.resolved.Resolved.{Resolved}
use Rattle.pgs_syntax.specs.Fitting.{fits_node, fits_edge}
use Rattle.pgs_syntax.specs.Join.{PairTriple}
use Rattle.pgs_syntax.specs.KeyValues.{part_of}
use Rattle.pgs_syntax.specs.Matches.{same_elem, carried, leads, carries, holds, elements, are_there, same_value, is_node_of_type, is_edge_of_type}
use Rattle.pgs_syntax.specs.Typed.{triple_at}
use Rattle.pgs_syntax.specs.Valid.{is_edge_var, gives_ends}
use Rattle.pgs_syntax.proofs.Carried.{carried_pair}
use Rattle.pgs_conform.specs.Shapes.{triple_of}
use Rattle.pgs_standing.specs.Standing.{can_stand_node, can_stand_edge}
use Rattle.pgs_key_standing.specs.Placed.{Placed, ends_of, passes_at, pass_at, asks, asks_present, stand_from, ask_all, IsPlaced, fits_places}
use Rattle.pgs_key_standing.specs.Reach.{IsStanding}
use Rattle.pgs_key_standing.proofs.Built.{to_zero}

abbrev Pairs : Type 0
Pairs = List NodeRow

-- ---- what is there

-- nothing is no value, and what holds two equal ones is equal
none_is_some : {X Y : Type 0} (x : X) → None ≡ Some x → Y
none_is_some x e = cc

same_node : (a b : NodeId) → Node a ≡ Node b → a ≡ b
same_node a b e = cc

same_edge : (a b : EdgeId) → Edge a ≡ Edge b → a ≡ b
same_edge a b e = cc

same_some_edge : (a b : EdgeId) → Some (Edge a) ≡ Some (Edge b) → a ≡ b
same_some_edge a b e = cc

node_listed : (elem : Elem) (nodes : List (NodeId × NodeRow)) → list_any (same_elem elem) (map (λ (node : NodeId × NodeRow). Node node.0) nodes) ≡ true →
    (id : NodeId) × (p : NodeRow) × (elem ≡ Node id) × (lookup (is_at (node_cmp id)) nodes ≡ Some p)
node_listed elem [] h = absurd (true≢false (sym h))
node_listed (Edge id) (n ∷ nodes) h = let later = node_listed (Edge id) nodes h in cc
node_listed (Node id) (n ∷ nodes) h = by (node_listed (Node id) nodes) (is_at (node_cmp id) n.0) refl h
  where
    by : (list_any (same_elem (Node id)) (map (λ (node : NodeId × NodeRow). Node node.0) nodes) ≡ true →
        (other : NodeId) × (p : NodeRow) × (Node id ≡ Node other) × (lookup (is_at (node_cmp other)) nodes ≡ Some p)) → (b : Bool) → is_at (node_cmp id) n.0 ≡ b → (b || list_any (same_elem (Node id)) (map (λ (node : NodeId × NodeRow). Node node.0) nodes)) ≡ true →
        (other : NodeId) × (p : NodeRow) × (Node id ≡ Node other) × (lookup (is_at (node_cmp other)) (n ∷ nodes) ≡ Some p)
    by rest true e h = (id, n.1, refl, ap (λ b. cond b (Some n.1) (lookup (is_at (node_cmp id)) nodes)) e)
    by rest false e h =
        let later = rest h in (
          id,
          later.1,
          refl,
          ap (λ b. cond b (Some n.1) (lookup (is_at (node_cmp id)) nodes)) e
              ∙ ap (λ other. lookup (is_at (node_cmp other)) nodes) (same_node id later.0 later.2) ∙ later.3,
        )

pub edge_listed : (elem : Elem) (edges : List (EdgeId × EdgeRow)) → list_any (same_elem elem) (map (λ (edge : EdgeId × EdgeRow). Edge edge.0) edges) ≡ true →
    (id : EdgeId) × (row : EdgeRow) × (elem ≡ Edge id) × (lookup (is_at (edge_cmp id)) edges ≡ Some row)
edge_listed elem [] h = absurd (true≢false (sym h))
edge_listed (Node id) (n ∷ edges) h = let later = edge_listed (Node id) edges h in cc
edge_listed (Edge id) (n ∷ edges) h = by (edge_listed (Edge id) edges) (is_at (edge_cmp id) n.0) refl h
  where
    by : (list_any (same_elem (Edge id)) (map (λ (edge : EdgeId × EdgeRow). Edge edge.0) edges) ≡ true →
        (other : EdgeId) × (row : EdgeRow) × (Edge id ≡ Edge other) × (lookup (is_at (edge_cmp other)) edges ≡ Some row)) → (b : Bool) → is_at (edge_cmp id) n.0 ≡ b → (b || list_any (same_elem (Edge id)) (map (λ (edge : EdgeId × EdgeRow). Edge edge.0) edges)) ≡ true →
        (other : EdgeId) × (row : EdgeRow) × (Edge id ≡ Edge other) × (lookup (is_at (edge_cmp other)) (n ∷ edges) ≡ Some row)
    by rest true e h = (id, n.1, refl, ap (λ b. cond b (Some n.1) (lookup (is_at (edge_cmp id)) edges)) e)
    by rest false e h =
        let later = rest h in (
          id,
          later.1,
          refl,
          ap (λ b. cond b (Some n.1) (lookup (is_at (edge_cmp id)) edges)) e
              ∙ ap (λ other. lookup (is_at (edge_cmp other)) edges) (same_edge id later.0 later.2) ∙ later.3,
        )

-- what is found passes, under some key, the test that all entries pass
pub found_passes : {K V : Type 0} (test : V → Bool) (at : K → Bool) (es : List (K × V)) (v : V) → list_all (λ (e : K × V). test e.1) es ≡ true → lookup at es ≡ Some v → test v ≡ true
found_passes test at [] v all found = cc
found_passes {K} {V} test at (e ∷ es) v all found = by (found_passes test at es v (and_parts _ _ all).1) (at e.0) found
  where
    by : (lookup at es ≡ Some v → test v ≡ true) → (b : Bool) → cond b (Some e.1) (lookup at es) ≡ Some v → test v ≡ true
    by rest true found = ap test (sym (same_Some e.1 v found)) ∙ (and_parts _ _ all).0
    by rest false found = rest found

some_passes : {X : Type 0} (o : Option X) (test : X → Bool) → option_map_or test o false ≡ true → (x : X) × (o ≡ Some x) × (test x ≡ true)
some_passes None test h = absurd (true≢false (sym h))
some_passes (Some x) test h = (x, refl, h)

then_some : {X Y : Type 0} (f : X → Option Y) (o : Option X) (y : Y) → option_and_then f o ≡ Some y → (x : X) × (o ≡ Some x) × (f x ≡ Some y)
then_some f None y e = cc
then_some f (Some x) y e = (x, refl, e)

map_some : {X Y : Type 0} (f : X → Y) (o : Option X) (y : Y) → option_map f o ≡ Some y → (x : X) × (o ≡ Some x) × (f x ≡ y)
map_some f None y e = cc
map_some f (Some x) y e = (x, refl, cc)

-- the three that an edge leads between
pub record Leads (g : Graph) (edge source target : Option Elem) : Type 0 where
  pub id : EdgeId
  pub from : NodeId
  pub to : NodeId
  pub row : EdgeRow
  pub edge_is : edge ≡ Some (Edge id)
  pub source_is : source ≡ Some (Node from)
  pub target_is : target ≡ Some (Node to)
  pub row_is : edge_at g id ≡ Some row
  pub ends_are : (row.source.0 == from.0 && row.target.0 == to.0) ≡ true

pub led : (g : Graph) (edge source target : Option Elem) → leads g edge source target ≡ true → Leads g edge source target
led g (Some (Edge id)) (Some (Node a)) (Some (Node b)) h =
    let one = some_passes (edge_at g id) (λ (row : EdgeRow). row.source.0 == a.0 && row.target.0 == b.0) h in
    record { id = id; from = a; to = b; row = one.0; edge_is = refl; source_is = refl; target_is = refl; row_is = one.1; ends_are = one.2 }
led g (Some (Edge id)) (Some (Node a)) (Some (Edge b)) h = absurd (true≢false (sym h))
led g (Some (Edge id)) (Some (Node a)) None h = absurd (true≢false (sym h))
led g (Some (Edge id)) (Some (Edge a)) target h = absurd (true≢false (sym h))
led g (Some (Edge id)) None target h = absurd (true≢false (sym h))
led g (Some (Node id)) source target h = absurd (true≢false (sym h))
led g None source target h = absurd (true≢false (sym h))

module _ (resolved : Resolved) (g : Graph) (elems : List Elem) where
  -- an edge leads between the elements of the ends that it is first given
  pub ends_led : (edge : ℕ) (atoms : List Atom) → list_any (gives_ends edge) atoms ≡ true → list_all (holds resolved g elems) atoms ≡ true →
      leads g (slice_get elems edge) (slice_get elems (ends_of atoms edge).0) (slice_get elems (ends_of atoms edge).1) ≡ true
  ends_led edge [] some all = absurd (true≢false (sym some))
  ends_led edge (Ends e source target ∷ atoms) some all = by (λ h. ends_led edge atoms h (and_parts _ _ all).1) (edge == e) refl some
    where
      by : (list_any (gives_ends edge) atoms ≡ true →
          leads g (slice_get elems edge) (slice_get elems (ends_of atoms edge).0) (slice_get elems (ends_of atoms edge).1) ≡ true) → (b : Bool) → (edge == e) ≡ b → (b || list_any (gives_ends edge) atoms) ≡ true →
          leads g (slice_get elems edge) (slice_get elems (cond b (source, target) (ends_of atoms edge)).0) (slice_get elems (cond b (source, target) (ends_of atoms edge)).1) ≡ true
      by rest true same h = ap (λ n. leads g (slice_get elems n) (slice_get elems source) (slice_get elems target)) (eqb-true edge e same) ∙ (and_parts _ _ all).0
      by rest false other h = rest h
  ends_led edge (HasLabel v l ∷ atoms) some all = ends_led edge atoms some (and_parts _ _ all).1
  ends_led edge (FitsNode v n ∷ atoms) some all = ends_led edge atoms some (and_parts _ _ all).1
  ends_led edge (FitsEdge v n ∷ atoms) some all = ends_led edge atoms some (and_parts _ _ all).1
  ends_led edge (Equals v k value ∷ atoms) some all = ends_led edge atoms some (and_parts _ _ all).1

-- the element of a place is there
elem_there : (g : Graph) (kinds : List Bool) (es : List Elem) (j : ℕ) (kind : Bool) → are_there g kinds es ≡ true → slice_get kinds j ≡ Some kind →
    (elem : Elem) × (slice_get es j ≡ Some elem) × (list_any (same_elem elem) (elements g kind) ≡ true)
elem_there g [] es j kind all at = none_is_some kind at
elem_there g (k ∷ kinds) [] j kind all at = absurd (true≢false (sym all))
elem_there g (k ∷ kinds) (e ∷ es) zero kind all at = (e, refl, ap (λ b. list_any (same_elem e) (elements g b)) (sym (same_Some k kind at)) ∙ (and_parts _ _ all).0)
elem_there g (k ∷ kinds) (e ∷ es) (suc j) kind all at = elem_there g kinds es j kind (and_parts _ _ all).1 at

-- as many elements as places
counted : (g : Graph) (kinds : List Bool) (es : List Elem) → are_there g kinds es ≡ true → length es ≡ length kinds
counted g [] [] h = refl
counted g [] (e ∷ es) h = absurd (true≢false (sym h))
counted g (k ∷ kinds) [] h = absurd (true≢false (sym h))
counted g (k ∷ kinds) (e ∷ es) h =
    let rest : length es ≡ length kinds = counted g kinds es (and_parts (list_any (same_elem e) (elements g k)) (are_there g kinds es) h).1 in omega arith

at_start : (i : ℕ) → i + 0 ≡ i
at_start i = omega arith

one_behind : (i j : ℕ) → i + suc j ≡ (i + 1) + j
one_behind i j = omega arith

abbrev pub empty : NodeRow
empty = pair_of [] []

module _ (resolved : Resolved) (placed : Placed) (ok : IsPlaced placed) (g : Graph) (standing : IsStanding resolved g) (elems : List Elem)
    (there : are_there g placed.kinds elems ≡ true) (hold : list_all (holds resolved g elems) placed.atoms ≡ true) where
  abbrev pub row_of : Elem → NodeRow
  row_of elem = unwrap_or (carried g elem) empty

  abbrev pub taken : Pairs
  taken = map row_of elems

  -- a pair that an element of a place carries stands at the place
  stood : (j : ℕ) (elem : Elem) (p : NodeRow) → slice_get elems j ≡ Some elem → carried g elem ≡ Some p → slice_get taken j ≡ Some p
  stood j elem p at is = slice_get-map row_of elems j ∙ ap (option_map row_of) at ∙ ap (λ o. Some (unwrap_or o empty)) is

  node_taken : (j : ℕ) → slice_get placed.kinds j ≡ Some false → (id : NodeId) × (p : NodeRow) × (slice_get elems j ≡ Some (Node id)) × (node_at g id ≡ Some p) × (can_stand_node resolved p ≡ true)
  node_taken j kind =
      let one = elem_there g placed.kinds elems j false there kind in
      let listed = node_listed one.0 g.nodes one.2 in
      (listed.0, listed.1, one.1 ∙ ap Some listed.2, listed.3, found_passes (can_stand_node resolved) (is_at (node_cmp listed.0)) g.nodes listed.1 standing.nodes listed.3)

  edge_taken : (j : ℕ) → slice_get placed.kinds j ≡ Some true →
      (id : EdgeId) × (row : EdgeRow) × (t : PairTriple) × (slice_get elems j ≡ Some (Edge id)) × (edge_at g id ≡ Some row) × (triple_at g row ≡ Some t) × (can_stand_edge resolved t ≡ true)
  edge_taken j kind =
      let one = elem_there g placed.kinds elems j true there kind in
      let listed = edge_listed one.0 g.edges one.2 in
      let passes = found_passes (λ (row : EdgeRow). option_map_or (can_stand_edge resolved) (triple_at g row) false) (is_at (edge_cmp listed.0)) g.edges listed.1 standing.edges listed.3 in
      let t = some_passes (triple_at g listed.1) (can_stand_edge resolved) passes in
      (listed.0, listed.1, t.0, one.1 ∙ ap Some listed.2, listed.3, t.1, t.2)

  -- so the pairs at its ends are those of its triple
  triple_taken : (j : ℕ) (id : EdgeId) (row : EdgeRow) (t : PairTriple) → slice_get placed.kinds j ≡ Some true → slice_get elems j ≡ Some (Edge id) → edge_at g id ≡ Some row → triple_at g row ≡ Some t →
      (slice_get taken (ends_of placed.atoms j).0 ≡ Some t.source) × (slice_get taken j ≡ Some t.own) × (slice_get taken (ends_of placed.atoms j).1 ≡ Some t.target)
  triple_taken j id row t kind at is ends =
      let ways = led g (slice_get elems j) (slice_get elems (ends_of placed.atoms j).0) (slice_get elems (ends_of placed.atoms j).1)
      (ends_led resolved g elems j placed.atoms (ok.ends j kind).2 hold) in
      let own : ways.id ≡ id = same_some_edge ways.id id (sym ways.edge_is ∙ at) in
      let same : ways.row ≡ row = same_Some ways.row row (sym ways.row_is ∙ ap (edge_at g) own ∙ is) in
      let nodes = and_parts (ways.row.source.0 == ways.from.0) (ways.row.target.0 == ways.to.0) ways.ends_are in
      let source = then_some _ (node_at g row.source) t ends in
      let target = map_some _ (node_at g row.target) t source.2 in (
        stood (ends_of placed.atoms j).0 (Node ways.from) t.source ways.source_is
            (ap (node_at g) (one_node ways.from row.source (sym (eqb-true ways.row.source.0 ways.from.0 nodes.0) ∙ ap (λ (r : EdgeRow). r.source.0) same)) ∙ source.1 ∙ ap (λ (u : PairTriple). Some u.source) target.2),
        stood j (Edge id) t.own at (ap (option_map (λ (r : EdgeRow). pair_of r.labels r.props)) is ∙ ap (λ (u : PairTriple). Some u.own) target.2),
        stood (ends_of placed.atoms j).1 (Node ways.to) t.target ways.target_is
            (ap (node_at g) (one_node ways.to row.target (sym (eqb-true ways.row.target.0 ways.to.0 nodes.1) ∙ ap (λ (r : EdgeRow). r.target.0) same)) ∙ target.1 ∙ ap (λ (u : PairTriple). Some u.target) target.2),
      )
    where
      one_node : (a b : NodeId) → a.0 ≡ b.0 → a ≡ b
      one_node a b e = ap (λ n. record { 0 = n }) e

  pass_three : (j : ℕ) (ends : ℕ × ℕ) (t : PairTriple) (test : PairTriple → Bool) → (slice_get taken ends.0 ≡ Some t.source) × (slice_get taken j ≡ Some t.own) × (slice_get taken ends.1 ≡ Some t.target) →
      test t ≡ true → pass_at taken j ends test ≡ true
  pass_three j ends t test at h =
      ap (λ o. option_map_or (λ source. passes_at taken j (λ own. passes_at taken ends.1 (λ target. test (triple_of source own target)))) o false) at.0
      ∙ ap (λ o. option_map_or (λ own. passes_at taken ends.1 (λ target. test (triple_of t.source own target))) o false) at.1
      ∙ ap (λ o. option_map_or (λ target. test (triple_of t.source t.own target)) o false) at.2 ∙ h

  pass_one : (j : ℕ) (p : NodeRow) (test : NodeRow → Bool) → slice_get taken j ≡ Some p → test p ≡ true → passes_at taken j test ≡ true
  pass_one j p test at h = ap (λ o. option_map_or test o false) at ∙ h

  stand_taken : (kinds : List Bool) (i : ℕ) → ((j : ℕ) (kind : Bool) → slice_get kinds j ≡ Some kind → slice_get placed.kinds (i + j) ≡ Some kind) →
      stand_from resolved placed.atoms taken i kinds ≡ true
  stand_taken [] i each = refl
  stand_taken (true ∷ kinds) i each =
      let kind = sym (ap (slice_get placed.kinds) (at_start i)) ∙ each 0 true refl in
      let one = edge_taken i kind in
      and_from _ _ (pass_three i (ends_of placed.atoms i) one.2 (can_stand_edge resolved) (triple_taken i one.0 one.1 one.2 kind one.3 one.4 one.5) one.6)
      (stand_taken kinds (i + 1) (λ j k at. sym (ap (slice_get placed.kinds) (one_behind i j)) ∙ each (suc j) k at))
  stand_taken (false ∷ kinds) i each =
      let kind = sym (ap (slice_get placed.kinds) (at_start i)) ∙ each 0 false refl in
      let one = node_taken i kind in
      and_from _ _ (pass_one i one.1 (can_stand_node resolved) (stood i (Node one.0) one.1 one.2 one.3) one.4)
      (stand_taken kinds (i + 1) (λ j k at. sym (ap (slice_get placed.kinds) (one_behind i j)) ∙ each (suc j) k at))

  carried_taken : (j : ℕ) (test : NodeRow → Bool) → carries g elems j test ≡ true → passes_at taken j test ≡ true
  carried_taken j test h =
      let one = some_passes (option_and_then (carried g) (slice_get elems j)) test h in
      let elem = then_some (carried g) (slice_get elems j) one.0 one.1 in
      pass_one j one.0 test (stood j elem.0 one.0 elem.1 elem.2) one.2

  node_fit : (number : ℕ) (elem : Elem) → is_node_of_type resolved g number elem ≡ true → (p : NodeRow) × (carried g elem ≡ Some p) × (fits_node resolved number p ≡ true)
  node_fit number (Node id) h = some_passes (node_at g id) (fits_node resolved number) h
  node_fit number (Edge id) h = absurd (true≢false (sym h))

  edge_fit : (number : ℕ) (elem : Elem) → is_edge_of_type resolved g number elem ≡ true →
      (id : EdgeId) × (row : EdgeRow) × (t : PairTriple) × (elem ≡ Edge id) × (edge_at g id ≡ Some row) × (triple_at g row ≡ Some t) × (fits_edge resolved number t ≡ true)
  edge_fit number (Node id) h = absurd (true≢false (sym h))
  edge_fit number (Edge id) h =
      let one = some_passes (option_and_then (triple_at g) (edge_at g id)) (fits_edge resolved number) h in
      let row = then_some (triple_at g) (edge_at g id) one.0 one.1 in
      (id, row.0, one.0, refl, row.1, row.2, one.2)

  edge_kind : (j : ℕ) → is_edge_var placed.kinds j ≡ true → slice_get placed.kinds j ≡ Some true
  edge_kind j h = by (slice_get placed.kinds j) refl h
    where
      by : (o : Option Bool) → slice_get placed.kinds j ≡ o → option_map_or (λ is_edge. is_edge) o false ≡ true → slice_get placed.kinds j ≡ Some true
      by None e h = absurd (true≢false (sym h))
      by (Some true) e h = e
      by (Some false) e h = absurd (true≢false (sym h))

  atom_taken : (atom : Atom) → fits_places placed.kinds placed.atoms atom ≡ true → holds resolved g elems atom ≡ true → asks resolved placed.atoms taken atom ≡ true
  atom_taken (Ends edge source target) fit h = refl
  atom_taken (HasLabel place label) fit h = carried_taken place (λ own. has_name label own.labels) h
  atom_taken (Equals place key value) fit h = carried_taken place (λ own. option_map_or (same_value value) (value_at key own.props) false) h
  atom_taken (FitsNode place number) fit h =
      let elem = some_passes (slice_get elems place) (is_node_of_type resolved g number) h in
      let one = node_fit number elem.0 elem.2 in
      pass_one place one.0 (fits_node resolved number) (stood place elem.0 one.0 elem.1 one.1) one.2
  atom_taken (FitsEdge place number) fit h =
      let elem = some_passes (slice_get elems place) (is_edge_of_type resolved g number) h in
      let one = edge_fit number elem.0 elem.2 in
      pass_three place (ends_of placed.atoms place) one.2 (fits_edge resolved number)
      (triple_taken place one.0 one.1 one.2 (edge_kind place fit) (elem.1 ∙ ap Some one.3) one.4 one.5) one.6

  atoms_taken : (atoms : List Atom) → list_all (fits_places placed.kinds placed.atoms) atoms ≡ true → list_all (holds resolved g elems) atoms ≡ true →
      list_all (asks resolved placed.atoms taken) atoms ≡ true
  atoms_taken [] fit h = refl
  atoms_taken (atom ∷ atoms) fit h =
      let first = and_parts _ _ fit in
      let second = and_parts _ _ h in
      and_from _ _ (atom_taken atom first.0 second.0) (atoms_taken atoms first.1 second.1)

  expr_taken : (expr : Expr) → is_some (part_of g elems expr) ≡ true → asks_present taken expr ≡ true
  expr_taken (Element place) h = refl
  expr_taken (Property place key) h = by (option_and_then (carried g) (slice_get elems place)) refl h
    where
      present : (o : Option Value) → is_some (option_map parts.Value o) ≡ true → is_some o ≡ true
      present None e = e
      present (Some v) e = e

      by : (o : Option NodeRow) → option_and_then (carried g) (slice_get elems place) ≡ o →
          is_some (option_map parts.Value (option_and_then (λ (own : NodeRow). value_at key own.props) o)) ≡ true → passes_at taken place (λ p. is_some (value_at key p.props)) ≡ true
      by None e h = absurd (true≢false (sym h))
      by (Some p) e h =
          let elem = then_some (carried g) (slice_get elems place) p e in
          pass_one place p (λ q. is_some (value_at key q.props)) (stood place elem.0 p elem.1 elem.2) (present (value_at key p.props) h)

  exprs_taken : (exprs : List Expr) → list_all (λ expr. is_some (part_of g elems expr)) exprs ≡ true → list_all (asks_present taken) exprs ≡ true
  exprs_taken [] h = refl
  exprs_taken (expr ∷ exprs) h = let parts = and_parts _ _ h in and_from _ _ (expr_taken expr parts.0) (exprs_taken exprs parts.1)

  pub taken_asked : list_all (λ expr. is_some (part_of g elems expr)) placed.exprs ≡ true → ask_all resolved placed taken ≡ true
  taken_asked present =
      and_from _ _ (and_from _ _ (stand_taken placed.kinds 0 (λ j kind at. to_zero (λ n. slice_get placed.kinds n ≡ Some kind) j at)) (atoms_taken placed.atoms ok.atoms hold)) (exprs_taken placed.exprs present)

  -- as many pairs as places
  pub taken_count : length taken ≡ length placed.kinds
  taken_count = length-map elems row_of ∙ counted g placed.kinds elems there

  pub taken_pairs : list_all is_pair taken ≡ true
  taken_pairs = each elems
    where
      one : (elem : Elem) (o : Option NodeRow) → carried g elem ≡ o → is_pair (unwrap_or o empty) ≡ true
      one elem None e = refl
      one elem (Some p) e = carried_pair g standing.graph elem p e

      each : (es : List Elem) → list_all is_pair (map row_of es) ≡ true
      each [] = refl
      each (e ∷ es) = and_from _ _ (one e (carried g e) refl) (each es)
