-- A graph of places: a node at each node place and an edge at each edge place, numbered as the places are; and what is found in it.
use Rattle.std.proofs.Common.{◌≡◌, ℕ, suc, zero, ◌+◌, ◌<◌, Bool, true, false, ◌||◌, cond, List, [], ◌∷◌, map, Some, slice_get, refl, sym, ◌∙◌, ap, subst, arith, is_lt, is_eq}
use Rattle.std.specs.List.{list_any, list_all}
use Rattle.std.specs.Map.{lookup, keys_of}
use Rattle.std.specs.BTreeMap.{is_at}
use Rattle.std.specs.Ordering.{nat_cmp}
use Rattle.std.proofs.lemmas.Bool.{true≢false, and_from}
use Rattle.std.proofs.lemmas.Bool.Decides.{nat_tests}
use Rattle.std.proofs.lemmas.Option.{same_Some}
use Rattle.pgs_base.specs.declared.element.EdgeId.{EdgeId}
use Rattle.pgs_base.specs.declared.element.Elem.{Elem}
use Rattle.pgs_base.specs.declared.element.Elem.TheVariants.{Node, Edge}
use Rattle.pgs_base.specs.declared.element.NodeId.{NodeId}
use Rattle.pgs_base.specs.declared.row.EdgeRow.{EdgeRow}
use Rattle.pgs_base.specs.declared.row.NodeRow.{NodeRow}
use Rattle.pgs_base.specs.Graph.{Graph, node_cmp, edge_cmp}
use Rattle.pgs_base.specs.Order.{ascends}
use Rattle.pgs_syntax.specs.declared.pattern.Atom.{Atom}
use Rattle.pgs_syntax.specs.Matches.{same_elem}
use Rattle.pgs_key_standing.specs.Placed.{ends_of}

abbrev pub Pairs : Type 0
Pairs = List NodeRow

abbrev pub the_node : ℕ → NodeId
the_node i = record { 0 = i }

abbrev pub the_edge : ℕ → EdgeId
the_edge i = record { 0 = i }

-- the row of an edge of a pair, between two nodes
abbrev pub row_between : ℕ × ℕ → NodeRow → EdgeRow
row_between ends p = record { source = the_node ends.0; target = the_node ends.1; labels = p.labels; props = p.props }

abbrev pub nodes_from : ℕ → List Bool → Pairs → List (NodeId × NodeRow)
nodes_from i [] ps = []
nodes_from i (kind ∷ kinds) [] = []
nodes_from i (true ∷ kinds) (p ∷ ps) = nodes_from (i + 1) kinds ps
nodes_from i (false ∷ kinds) (p ∷ ps) = (the_node i, p) ∷ nodes_from (i + 1) kinds ps

abbrev pub edges_from : List Atom → ℕ → List Bool → Pairs → List (EdgeId × EdgeRow)
edges_from atoms i [] ps = []
edges_from atoms i (kind ∷ kinds) [] = []
edges_from atoms i (true ∷ kinds) (p ∷ ps) = (the_edge i, row_between (ends_of atoms i) p) ∷ edges_from atoms (i + 1) kinds ps
edges_from atoms i (false ∷ kinds) (p ∷ ps) = edges_from atoms (i + 1) kinds ps

abbrev pub elem_at : Bool → ℕ → Elem
elem_at true i = Edge (the_edge i)
elem_at false i = Node (the_node i)

abbrev pub elems_from : ℕ → List Bool → List Elem
elems_from i [] = []
elems_from i (kind ∷ kinds) = elem_at kind i ∷ elems_from (i + 1) kinds

abbrev pub built : List Atom → List Bool → Pairs → Graph
built atoms kinds ps = record { nodes = nodes_from 0 kinds ps; edges = edges_from atoms 0 kinds ps }

-- ---- numbers

same_number : (a : ℕ) → is_eq (nat_cmp a a) ≡ true
same_number a = grind (arith, nat_tests)

other_number : (a b : ℕ) → b < a → is_eq (nat_cmp a b) ≡ false
other_number a b lt = grind (arith, nat_tests)

lower_number : (a b : ℕ) → a < b → is_lt (nat_cmp a b) ≡ true
lower_number a b lt = grind (arith, nat_tests)

one_on : (i j : ℕ) → i + suc j ≡ (i + 1) + j
one_on i j = omega arith

pub at_zero : (P : ℕ → Type 0) (j : ℕ) → P (0 + j) → P j
at_zero P j h = subst P (let e : 0 + j ≡ j = omega arith in e) h

pub to_zero : (P : ℕ → Type 0) (j : ℕ) → P j → P (0 + j)
to_zero P j h = subst P (let e : j ≡ 0 + j = omega arith in e) h

-- ---- what is found at a place

pub node_found : (kinds : List Bool) (ps : Pairs) (i j : ℕ) (p : NodeRow) → slice_get kinds j ≡ Some false → slice_get ps j ≡ Some p →
    lookup (is_at (node_cmp (the_node (i + j)))) (nodes_from i kinds ps) ≡ Some p
node_found [] ps i j p kind there = cc
node_found (k ∷ kinds) [] i j p kind there = cc
node_found (true ∷ kinds) (q ∷ ps) i zero p kind there = absurd (true≢false (same_Some true false kind))
node_found (true ∷ kinds) (q ∷ ps) i (suc j) p kind there =
    ap (λ n. lookup (is_at (node_cmp (the_node n))) (nodes_from (i + 1) kinds ps)) (one_on i j) ∙ node_found kinds ps (i + 1) j p kind there
node_found (false ∷ kinds) (q ∷ ps) i zero p kind there =
    ap (λ n. cond (is_eq (nat_cmp n i)) (Some q) (lookup (is_at (node_cmp (the_node n))) (nodes_from (i + 1) kinds ps))) (let e : i + 0 ≡ i = omega arith in e)
    ∙ ap (λ b. cond b (Some q) (lookup (is_at (node_cmp (the_node i))) (nodes_from (i + 1) kinds ps))) (same_number i) ∙ there
node_found (false ∷ kinds) (q ∷ ps) i (suc j) p kind there =
    ap (λ b. cond b (Some q) (lookup (is_at (node_cmp (the_node (i + suc j)))) (nodes_from (i + 1) kinds ps))) (other_number (i + suc j) i (omega arith))
    ∙ ap (λ n. lookup (is_at (node_cmp (the_node n))) (nodes_from (i + 1) kinds ps)) (one_on i j) ∙ node_found kinds ps (i + 1) j p kind there

module _ (atoms : List Atom) where
  pub edge_found : (kinds : List Bool) (ps : Pairs) (i j : ℕ) (p : NodeRow) → slice_get kinds j ≡ Some true → slice_get ps j ≡ Some p →
      lookup (is_at (edge_cmp (the_edge (i + j)))) (edges_from atoms i kinds ps) ≡ Some (row_between (ends_of atoms (i + j)) p)
  edge_found [] ps i j p kind there = cc
  edge_found (k ∷ kinds) [] i j p kind there = cc
  edge_found (false ∷ kinds) (q ∷ ps) i zero p kind there = absurd (true≢false (sym (same_Some false true kind)))
  edge_found (false ∷ kinds) (q ∷ ps) i (suc j) p kind there =
      ap (λ n. lookup (is_at (edge_cmp (the_edge n))) (edges_from atoms (i + 1) kinds ps)) (one_on i j) ∙ edge_found kinds ps (i + 1) j p kind there
      ∙ ap (λ n. Some (row_between (ends_of atoms n) p)) (sym (one_on i j))
  edge_found (true ∷ kinds) (q ∷ ps) i zero p kind there =
      ap (λ n. cond (is_eq (nat_cmp n i)) (Some (row_between (ends_of atoms i) q)) (lookup (is_at (edge_cmp (the_edge n))) (edges_from atoms (i + 1) kinds ps)))
      (let e : i + 0 ≡ i = omega arith in e)
      ∙ ap (λ b. cond b (Some (row_between (ends_of atoms i) q)) (lookup (is_at (edge_cmp (the_edge i))) (edges_from atoms (i + 1) kinds ps))) (same_number i)
      ∙ ap (λ r. Some (row_between (ends_of atoms i) r)) (same_Some q p there)
      ∙ ap (λ n. Some (row_between (ends_of atoms n) p)) (let e : i ≡ i + 0 = omega arith in e)
  edge_found (true ∷ kinds) (q ∷ ps) i (suc j) p kind there =
      ap (λ b. cond b (Some (row_between (ends_of atoms i) q)) (lookup (is_at (edge_cmp (the_edge (i + suc j)))) (edges_from atoms (i + 1) kinds ps)))
      (other_number (i + suc j) i (omega arith))
      ∙ ap (λ n. lookup (is_at (edge_cmp (the_edge n))) (edges_from atoms (i + 1) kinds ps)) (one_on i j) ∙ edge_found kinds ps (i + 1) j p kind there
      ∙ ap (λ n. Some (row_between (ends_of atoms n) p)) (sym (one_on i j))

pub elem_found : (kinds : List Bool) (i j : ℕ) (kind : Bool) → slice_get kinds j ≡ Some kind → slice_get (elems_from i kinds) j ≡ Some (elem_at kind (i + j))
elem_found [] i j kind there = cc
elem_found (k ∷ kinds) i zero kind there = ap (λ b. Some (elem_at b i)) (same_Some k kind there) ∙ ap (λ n. Some (elem_at kind n)) (let e : i ≡ i + 0 = omega arith in e)
elem_found (k ∷ kinds) i (suc j) kind there = elem_found kinds (i + 1) j kind there ∙ ap (λ n. Some (elem_at kind n)) (sym (one_on i j))

-- ---- numbers ascend

nodes_above : (k : ℕ) (kinds : List Bool) (ps : Pairs) (i : ℕ) → k < i → list_all (λ later. is_lt (node_cmp (the_node k) later)) (keys_of (nodes_from i kinds ps)) ≡ true
nodes_above k [] ps i lt = refl
nodes_above k (kind ∷ kinds) [] i lt = refl
nodes_above k (true ∷ kinds) (p ∷ ps) i lt = nodes_above k kinds ps (i + 1) (omega arith)
nodes_above k (false ∷ kinds) (p ∷ ps) i lt = and_from _ _ (lower_number k i lt) (nodes_above k kinds ps (i + 1) (omega arith))

pub nodes_ascend : (kinds : List Bool) (ps : Pairs) (i : ℕ) → ascends node_cmp (keys_of (nodes_from i kinds ps)) ≡ true
nodes_ascend [] ps i = refl
nodes_ascend (kind ∷ kinds) [] i = refl
nodes_ascend (true ∷ kinds) (p ∷ ps) i = nodes_ascend kinds ps (i + 1)
nodes_ascend (false ∷ kinds) (p ∷ ps) i = and_from _ _ (nodes_above i kinds ps (i + 1) (omega arith)) (nodes_ascend kinds ps (i + 1))

module _ (atoms : List Atom) where
  edges_above : (k : ℕ) (kinds : List Bool) (ps : Pairs) (i : ℕ) → k < i → list_all (λ later. is_lt (edge_cmp (the_edge k) later)) (keys_of (edges_from atoms i kinds ps)) ≡ true
  edges_above k [] ps i lt = refl
  edges_above k (kind ∷ kinds) [] i lt = refl
  edges_above k (false ∷ kinds) (p ∷ ps) i lt = edges_above k kinds ps (i + 1) (omega arith)
  edges_above k (true ∷ kinds) (p ∷ ps) i lt = and_from _ _ (lower_number k i lt) (edges_above k kinds ps (i + 1) (omega arith))

  pub edges_ascend : (kinds : List Bool) (ps : Pairs) (i : ℕ) → ascends edge_cmp (keys_of (edges_from atoms i kinds ps)) ≡ true
  edges_ascend [] ps i = refl
  edges_ascend (kind ∷ kinds) [] i = refl
  edges_ascend (false ∷ kinds) (p ∷ ps) i = edges_ascend kinds ps (i + 1)
  edges_ascend (true ∷ kinds) (p ∷ ps) i = and_from _ _ (edges_above i kinds ps (i + 1) (omega arith)) (edges_ascend kinds ps (i + 1))

-- ---- tests of all

pub all_nodes : (test : NodeId × NodeRow → Bool) (kinds : List Bool) (ps : Pairs) (i : ℕ) →
    ((j : ℕ) (p : NodeRow) → slice_get kinds j ≡ Some false → slice_get ps j ≡ Some p → test (the_node (i + j), p) ≡ true) → list_all test (nodes_from i kinds ps) ≡ true
all_nodes test [] ps i each = refl
all_nodes test (kind ∷ kinds) [] i each = refl
all_nodes test (true ∷ kinds) (p ∷ ps) i each =
    all_nodes test kinds ps (i + 1) (λ j q kind there. ap (λ n. test (the_node n, q)) (sym (one_on i j)) ∙ each (suc j) q kind there)
all_nodes test (false ∷ kinds) (p ∷ ps) i each =
    and_from _ _ (ap (λ n. test (the_node n, p)) (let e : i ≡ i + 0 = omega arith in e) ∙ each 0 p refl refl)
    (all_nodes test kinds ps (i + 1) (λ j q kind there. ap (λ n. test (the_node n, q)) (sym (one_on i j)) ∙ each (suc j) q kind there))

pub all_edges : (atoms : List Atom) (test : EdgeId × EdgeRow → Bool) (kinds : List Bool) (ps : Pairs) (i : ℕ) →
    ((j : ℕ) (p : NodeRow) → slice_get kinds j ≡ Some true → slice_get ps j ≡ Some p → test (the_edge (i + j), row_between (ends_of atoms (i + j)) p) ≡ true) →
    list_all test (edges_from atoms i kinds ps) ≡ true
all_edges atoms test [] ps i each = refl
all_edges atoms test (kind ∷ kinds) [] i each = refl
all_edges atoms test (false ∷ kinds) (p ∷ ps) i each =
    all_edges atoms test kinds ps (i + 1)
    (λ j q kind there. ap (λ n. test (the_edge n, row_between (ends_of atoms n) q)) (sym (one_on i j)) ∙ each (suc j) q kind there)
all_edges atoms test (true ∷ kinds) (p ∷ ps) i each =
    and_from _ _ (ap (λ n. test (the_edge n, row_between (ends_of atoms n) p)) (let e : i ≡ i + 0 = omega arith in e) ∙ each 0 p refl refl)
    (all_edges atoms test kinds ps (i + 1)
    (λ j q kind there. ap (λ n. test (the_edge n, row_between (ends_of atoms n) q)) (sym (one_on i j)) ∙ each (suc j) q kind there))

-- ---- what is found is among the elements

pub node_among : (id : NodeId) (nodes : List (NodeId × NodeRow)) (p : NodeRow) → lookup (is_at (node_cmp id)) nodes ≡ Some p →
    list_any (same_elem (Node id)) (map (λ (node : NodeId × NodeRow). Node node.0) nodes) ≡ true
node_among id [] p there = cc
node_among id (n ∷ nodes) p there = by (node_among id nodes p) (is_at (node_cmp id) n.0) there
  where
    by : (lookup (is_at (node_cmp id)) nodes ≡ Some p → list_any (same_elem (Node id)) (map (λ (node : NodeId × NodeRow). Node node.0) nodes) ≡ true) →
        (b : Bool) → cond b (Some n.1) (lookup (is_at (node_cmp id)) nodes) ≡ Some p →
        (b || list_any (same_elem (Node id)) (map (λ (node : NodeId × NodeRow). Node node.0) nodes)) ≡ true
    by later true h = refl
    by later false h = later h

pub edge_among : (id : EdgeId) (edges : List (EdgeId × EdgeRow)) (row : EdgeRow) → lookup (is_at (edge_cmp id)) edges ≡ Some row →
    list_any (same_elem (Edge id)) (map (λ (edge : EdgeId × EdgeRow). Edge edge.0) edges) ≡ true
edge_among id [] row there = cc
edge_among id (e ∷ edges) row there = by (edge_among id edges row) (is_at (edge_cmp id) e.0) there
  where
    by : (lookup (is_at (edge_cmp id)) edges ≡ Some row → list_any (same_elem (Edge id)) (map (λ (edge : EdgeId × EdgeRow). Edge edge.0) edges) ≡ true) →
        (b : Bool) → cond b (Some e.1) (lookup (is_at (edge_cmp id)) edges) ≡ Some row →
        (b || list_any (same_elem (Edge id)) (map (λ (edge : EdgeId × EdgeRow). Edge edge.0) edges)) ≡ true
    by later true h = refl
    by later false h = later h
