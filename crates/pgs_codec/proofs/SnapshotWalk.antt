-- A snapshot is walked to where it is read, and its kind is what is read.
use Rattle.std.proofs.Common.{◌≡◌, ℕ, ◌^◌, ◌<◌, Bool, true, false, cond, ◌&&◌, ◌||◌, List, [], ◌∷◌, length, map, Option, Some, None, refl, sym, ap, ◌∙◌}
use Rattle.std.specs.Prelude.{eqb, leb, ltb, is_some}
use Rattle.std.specs.Int.{Width, w64, to_be_bytes}
use Rattle.std.specs.List.{list_all, list_any}
use Rattle.std.specs.Map.{keys_of, lookup}
use Rattle.std.specs.BTreeMap.{is_at}
use Rattle.std.specs.Option.{option_map}
use Rattle.std.specs.Ordering.{nat_cmp}
use Rattle.std.specs.Cmp.Lexicographic.{slice_cmp}
use Rattle.std.proofs.lemmas.Bool.{and_parts, and_from}
use Rattle.pgs_base.specs.declared.element.NodeId.{NodeId}
use Rattle.pgs_base.specs.declared.element.EdgeId.{EdgeId}
use Rattle.pgs_base.specs.declared.row.NodeRow.{NodeRow}
use Rattle.pgs_base.specs.declared.row.EdgeRow.{EdgeRow}
use Rattle.pgs_base.specs.declared.value.Value.{Value}
use Rattle.pgs_base.specs.Graph.{node_cmp, edge_cmp, has_ends, is_node_entry, is_edge_entry, is_graph}
use Rattle.pgs_base.specs.Name.{is_name}
use Rattle.pgs_base.specs.Options.{◌>>=◌}
use Rattle.pgs_base.specs.Order.{ascends}
use Rattle.pgs_base.specs.Pair.{pair_of, is_pair}
use Rattle.pgs_base.specs.Properties.{has_value}
use Rattle.pgs_codec.specs.declared.command.Command.{Command}
use Rattle.pgs_codec.specs.declared.command.Command.TheVariants as commands
use Rattle.pgs_codec.specs.declared.walking.payload.PayloadKind.{PayloadKind}
use Rattle.pgs_codec.specs.declared.walking.payload.PayloadKind.TheVariants as kinds
use Rattle.pgs_codec.specs.Encodable.{is_labels, is_props, is_property, is_node_id, is_edge_id, is_node_row, is_edge_row, is_node, is_edge, snapshot_graph}
use Rattle.pgs_codec.specs.Payload.{nodes_field}
use Rattle.pgs_codec.specs.Places.{command_kind}
use Rattle.pgs_codec.specs.Reading.{Reading, pair_at, named_at, tested_at, many_at, counted_at, number_at, labels_at, props_at, node_id, edge_id, node_id_at, edge_id_at, node_row_at, edge_row_at, node_at, edge_at, snapshot_parts_at, snapshot_at, whole}
use Rattle.pgs_codec.specs.declared.unread.Unread.{Unread}
use Rattle.pgs_codec.specs.declared.unread.Unread.TheVariants as unread
use Rattle.pgs_codec.specs.Unread.{Fails, end_of}
use Rattle.pgs_codec.specs.Walking.{has_ends_in, node_ids_at, edge_id_in, edge_ids_in}
use Rattle.pgs_codec.proofs.Commands.{nodes_exact, edges_exact}
use Rattle.pgs_codec.proofs.Exact.{IsBytes, IsBytes-rest, number_exact, eight_bytes}
use Rattle.pgs_codec.proofs.Lengths.{count_fits}
use Rattle.pgs_codec.proofs.Walks.{seen, only_if, many_keys, many_tested, end_some, end_none}

-- ---- the rows that were read can stand in a graph

names_of_props : (props : List (List ℕ × Value)) → list_all is_property props ≡ true → (list_all is_name (keys_of props) ≡ true) × (list_all has_value props ≡ true)
names_of_props [] e = (refl, refl)
names_of_props (p ∷ props) e =
    let parts = and_parts (is_property p) (list_all is_property props) e in
    let one = and_parts (is_name p.0) (has_value p) parts.0 in
    let rest = names_of_props props parts.1 in
    (and_from _ _ one.0 rest.0, and_from _ _ one.1 rest.1)

pair_stands : (labels : List (List ℕ)) (props : List (List ℕ × Value)) → (is_labels labels && is_props props) ≡ true → is_pair (pair_of labels props) ≡ true
pair_stands labels props e =
    let both = and_parts (is_labels labels) (is_props props) e in
    let l = and_parts (leb (length labels) 64 && list_all is_name labels) (ascends (slice_cmp nat_cmp) labels) both.0 in
    let p = and_parts (leb (length props) 256 && list_all is_property props) (ascends (slice_cmp nat_cmp) (keys_of props)) both.1 in
    let names = names_of_props props (and_parts (leb (length props) 256) (list_all is_property props) p.0).1 in
    and_from _ _ (and_from _ _ l.1 (and_parts (leb (length labels) 64) (list_all is_name labels) l.0).1) (and_from _ _ (and_from _ _ p.1 names.0) names.1)

node_stands : (node : NodeId × NodeRow) → is_node node ≡ true → is_node_entry node ≡ true
node_stands node e =
    let parts = and_parts (is_node_id node.0) (is_node_row node.1) e in
    and_from _ _ parts.0 (pair_stands node.1.labels node.1.props parts.1)

edge_stands : (edge : EdgeId × EdgeRow) → is_edge edge ≡ true → is_edge_entry edge ≡ true
edge_stands edge e =
    let row = edge.1 in
    let parts = and_parts (is_edge_id edge.0) (is_edge_row row) e in
    let behind = and_parts (is_node_id row.source) (is_node_id row.target && (is_labels row.labels && is_props row.props)) parts.1 in
    let carried = and_parts (is_node_id row.target) (is_labels row.labels && is_props row.props) behind.1 in
    and_from _ _ parts.0 (pair_stands row.labels row.props carried.1)

all_stand : {A : Type 0} (p q : A → Bool) (xs : List A) → ((x : A) → p x ≡ true → q x ≡ true) → list_all p xs ≡ true → list_all q xs ≡ true
all_stand p q [] stands e = refl
all_stand p q (x ∷ xs) stands e =
    let parts = and_parts (p x) (list_all p xs) e in
    and_from (q x) (list_all q xs) (stands x parts.0) (all_stand p q xs stands parts.1)

-- ---- the ends of edges, among numbers

found_in_keys : (id : NodeId) (nodes : List (NodeId × NodeRow)) → is_some (lookup (is_at (node_cmp id)) nodes) ≡ list_any (is_at (node_cmp id)) (keys_of nodes)
found_in_keys id [] = refl
found_in_keys id (n ∷ nodes) = by (is_at (node_cmp id) n.0) (found_in_keys id nodes)
  where
    by : (here : Bool) → is_some (lookup (is_at (node_cmp id)) nodes) ≡ list_any (is_at (node_cmp id)) (keys_of nodes) →
        is_some (cond here (Some n.1) (lookup (is_at (node_cmp id)) nodes)) ≡ (here || list_any (is_at (node_cmp id)) (keys_of nodes))
    by true rest = refl
    by false rest = rest

ends_in_keys : (nodes : List (NodeId × NodeRow)) (all edges : List (EdgeId × EdgeRow)) →
    list_all (λ (edge : EdgeId × EdgeRow). has_ends (snapshot_graph nodes all) edge.1) edges ≡ list_all (λ (edge : EdgeId × EdgeRow). has_ends_in (keys_of nodes) edge.1) edges
ends_in_keys nodes all [] = refl
ends_in_keys nodes all (e ∷ edges) = rw (found_in_keys e.1.source nodes, found_in_keys e.1.target nodes, ends_in_keys nodes all edges) refl

graph_walk : (nodes : List (NodeId × NodeRow)) (edges : List (EdgeId × EdgeRow)) → list_all is_node_entry nodes ≡ true → list_all is_edge_entry edges ≡ true →
    is_graph (snapshot_graph nodes edges)
    ≡ (ascends node_cmp (keys_of nodes) && (list_all (λ (edge : EdgeId × EdgeRow). has_ends_in (keys_of nodes) edge.1) edges && ascends edge_cmp (keys_of edges)))
graph_walk nodes edges n e =
    rw (n, e, ends_in_keys nodes edges edges)
    (by (ascends node_cmp (keys_of nodes)) (ascends edge_cmp (keys_of edges)) (list_all (λ (edge : EdgeId × EdgeRow). has_ends_in (keys_of nodes) edge.1) edges))
  where
    by : (a b x : Bool) → (a && b && true && true && x) ≡ (a && (x && b))
    by true true true = refl
    by true true false = refl
    by true false true = refl
    by true false false = refl
    by false b x = refl

-- ---- fields that are there, or not

module _ {A B : Type 0} (r : Reading A) (bytes : List ℕ) where
  pub named_some : (f : A → B) (a : A) (rest : List ℕ) → r bytes ≡ Some (a, rest) → named_at f r bytes ≡ Some (f a, rest)
  unfolding named_at
  named_some f a rest e = rw e refl

  pub named_none : (f : A → B) → r bytes ≡ None → named_at f r bytes ≡ None
  unfolding named_at
  named_none f e = rw e refl

  pub pair_none : (s : Reading B) → r bytes ≡ None → pair_at r s bytes ≡ None
  unfolding pair_at
  pair_none s e = rw e refl

  pub pair_both : (s : Reading B) (a : A) (mid : List ℕ) (b : B) (rest : List ℕ) → r bytes ≡ Some (a, mid) → s mid ≡ Some (b, rest) → pair_at r s bytes ≡ Some ((a, b), rest)
  unfolding pair_at
  pair_both s a mid b rest e h = rw (e, h) refl

  pub pair_second_none : (s : Reading B) (a : A) (mid : List ℕ) → r bytes ≡ Some (a, mid) → s mid ≡ None → pair_at r s bytes ≡ None
  unfolding pair_at
  pair_second_none s a mid e h = rw (e, h) refl

-- ---- the walk over one row

abbrev pub row_at : Reading (List (List ℕ) × List (List ℕ × Value))
row_at = pair_at labels_at props_at

id_read : (bytes b1 : List ℕ) (n : ℕ) → number_at w64 bytes ≡ Some (n, b1) → node_id_at bytes ≡ Some (node_id n, b1)
unfolding node_id_at
id_read bytes b1 n e = named_some (number_at w64) bytes node_id n b1 e

no_id : (bytes : List ℕ) → number_at w64 bytes ≡ None → node_id_at bytes ≡ None
unfolding node_id_at
no_id bytes e = named_none (number_at w64) bytes node_id e

edge_id_read : (bytes b1 : List ℕ) (n : ℕ) → number_at w64 bytes ≡ Some (n, b1) → edge_id_at bytes ≡ Some (edge_id n, b1)
unfolding edge_id_at
edge_id_read bytes b1 n e = named_some (number_at w64) bytes edge_id n b1 e

no_edge_id : (bytes : List ℕ) → number_at w64 bytes ≡ None → edge_id_at bytes ≡ None
unfolding edge_id_at
no_edge_id bytes e = named_none (number_at w64) bytes edge_id e

pub no_node : (bytes : List ℕ) → number_at w64 bytes ≡ None → named_at (λ node. node.0) node_at bytes ≡ None
unfolding node_at
no_node bytes e = named_none node_at bytes (λ node. node.0) (pair_none node_id_at bytes node_row_at (no_id bytes e))

module _ (bytes b1 : List ℕ) (n : ℕ) (id : number_at w64 bytes ≡ Some (n, b1)) where
  pub no_node_row : end_of (row_at b1) ≡ None → named_at (λ node. node.0) node_at bytes ≡ None
  unfolding node_at node_row_at
  no_node_row e =
      named_none node_at bytes (λ node. node.0)
      (pair_second_none node_id_at bytes node_row_at (node_id n) b1 (id_read bytes b1 n id) (named_none row_at b1 _ (end_none (row_at b1) e)))

  pub node_seen : (rest : List ℕ) → end_of (row_at b1) ≡ Some rest → named_at (λ node. node.0) node_at bytes ≡ Some (node_id n, rest)
  unfolding node_at node_row_at
  node_seen rest e =
      let row = end_some (row_at b1) rest e in
      named_some node_at bytes (λ node. node.0) _ rest
      (pair_both node_id_at bytes node_row_at (node_id n) b1 _ rest (id_read bytes b1 n id) (named_some row_at b1 _ row.0 rest row.1))

abbrev row_of : NodeId × (NodeId × (List (List ℕ) × List (List ℕ × Value))) → EdgeRow
row_of row = record { source = row.0; target = row.1.0; labels = row.1.1.0; props = row.1.1.1 }

ends_at : Reading (NodeId × (NodeId × (List (List ℕ) × List (List ℕ × Value))))
ends_at = pair_at node_id_at (pair_at node_id_at row_at)

edge_in_none : (nodes : List NodeId) (bytes : List ℕ) → edge_at bytes ≡ None → edge_id_in nodes bytes ≡ None
unfolding edge_id_in named_at tested_at
edge_in_none nodes bytes e = rw e refl

edge_in_some : (nodes : List NodeId) (bytes : List ℕ) (edge : EdgeId × EdgeRow) (rest : List ℕ) → edge_at bytes ≡ Some (edge, rest) →
    edge_id_in nodes bytes ≡ cond (has_ends_in nodes edge.1) (Some (edge.0, rest)) None
unfolding edge_id_in named_at tested_at
edge_in_some nodes bytes edge rest e = rw e (by (has_ends_in nodes edge.1))
  where
    by : (is : Bool) → seen (λ (edge : EdgeId × EdgeRow). edge.0) (cond is (Some (edge, rest)) None) ≡ cond is (Some (edge.0, rest)) None
    by true = refl
    by false = refl

pub no_edge : (nodes : List NodeId) (bytes : List ℕ) → number_at w64 bytes ≡ None → edge_id_in nodes bytes ≡ None
unfolding edge_at
no_edge nodes bytes e = edge_in_none nodes bytes (pair_none edge_id_at bytes edge_row_at (no_edge_id bytes e))

module _ (nodes : List NodeId) (bytes b1 : List ℕ) (n : ℕ) (id : number_at w64 bytes ≡ Some (n, b1)) where
  edge_none : ends_at b1 ≡ None → edge_id_in nodes bytes ≡ None
  unfolding edge_at edge_row_at ends_at
  edge_none e = edge_in_none nodes bytes (pair_second_none edge_id_at bytes edge_row_at (edge_id n) b1 (edge_id_read bytes b1 n id) (named_none ends_at b1 row_of e))

  pub no_source : number_at w64 b1 ≡ None → edge_id_in nodes bytes ≡ None
  unfolding ends_at
  no_source e = edge_none (pair_none node_id_at b1 (pair_at node_id_at row_at) (no_id b1 e))

  module _ (b2 : List ℕ) (s : ℕ) (source : number_at w64 b1 ≡ Some (s, b2)) where
    pub no_target : number_at w64 b2 ≡ None → edge_id_in nodes bytes ≡ None
    unfolding ends_at
    no_target e = edge_none (pair_second_none node_id_at b1 (pair_at node_id_at row_at) (node_id s) b2 (id_read b1 b2 s source) (pair_none node_id_at b2 row_at (no_id b2 e)))

    module _ (b3 : List ℕ) (t : ℕ) (target : number_at w64 b2 ≡ Some (t, b3)) where
      pub no_edge_row : end_of (row_at b3) ≡ None → edge_id_in nodes bytes ≡ None
      unfolding ends_at
      no_edge_row e =
          edge_none (pair_second_none node_id_at b1 (pair_at node_id_at row_at) (node_id s) b2 (id_read b1 b2 s source)
          (pair_second_none node_id_at b2 row_at (node_id t) b3 (id_read b2 b3 t target) (end_none (row_at b3) e)))

      pub edge_seen : (rest : List ℕ) → end_of (row_at b3) ≡ Some rest →
          edge_id_in nodes bytes ≡ cond (list_any (is_at (node_cmp (node_id s))) nodes && list_any (is_at (node_cmp (node_id t))) nodes) (Some (edge_id n, rest)) None
      unfolding edge_at edge_row_at ends_at
      edge_seen rest e =
          let row = end_some (row_at b3) rest e in
          let ends : ends_at b1 ≡ Some ((node_id s, (node_id t, row.0)), rest) =
          pair_both node_id_at b1 (pair_at node_id_at row_at) (node_id s) b2 (node_id t, row.0) rest (id_read b1 b2 s source)
          (pair_both node_id_at b2 row_at (node_id t) b3 row.0 rest (id_read b2 b3 t target) row.1) in
          edge_in_some nodes bytes (edge_id n, row_of (node_id s, (node_id t, row.0))) rest
          (pair_both edge_id_at bytes edge_row_at (edge_id n) b1 (row_of (node_id s, (node_id t, row.0))) rest (edge_id_read bytes b1 n id)
          (named_some ends_at b1 row_of (node_id s, (node_id t, row.0)) rest ends))

      pub edge_among : (rest : List ℕ) → end_of (row_at b3) ≡ Some rest → (list_any (is_at (node_cmp (node_id s))) nodes && list_any (is_at (node_cmp (node_id t))) nodes) ≡ true →
          edge_id_in nodes bytes ≡ Some (edge_id n, rest)
      edge_among rest e is = edge_seen rest e ∙ ap (λ (b : Bool). cond b (Some (edge_id n, rest)) None) is

      pub edge_apart : (rest : List ℕ) → end_of (row_at b3) ≡ Some rest → (list_any (is_at (node_cmp (node_id s))) nodes && list_any (is_at (node_cmp (node_id t))) nodes) ≡ false →
          edge_id_in nodes bytes ≡ None
      edge_apart rest e is = edge_seen rest e ∙ ap (λ (b : Bool). cond b (Some (edge_id n, rest)) None) is

-- ---- all nodes, and all edges

nodes_at : Reading (List (NodeId × NodeRow))
nodes_at = counted_at w64 (2 ^ 64) node_at

edges_at : Reading (List (EdgeId × EdgeRow))
edges_at = counted_at w64 (2 ^ 64) edge_at

counted_keys : {A K : Type 0} (key : A → K) (w : Width) (most : ℕ) (field : Reading A) (bytes : List ℕ) → counted_at w most (named_at key field) bytes ≡ named_at (map key) (counted_at w most field) bytes
unfolding counted_at named_at
counted_keys {A = A} {K = K} key w most field bytes = by (number_at w bytes)
  where
    few : (n : ℕ) (rest : List ℕ) (is : Bool) → cond is (many_at (named_at key field) n rest) None ≡ (cond is (many_at field n rest) None >>= λ a. Some (map key a.0, a.1))
    few n rest true = many_keys key field n rest
    few n rest false = refl

    by : (o : Option (ℕ × List ℕ)) → (o >>= λ n. cond (leb n.0 most) (many_at (named_at key field) n.0 n.1) None)
        ≡ ((o >>= λ n. cond (leb n.0 most) (many_at field n.0 n.1) None) >>= λ a. Some (map key a.0, a.1))
    by None = refl
    by (Some n) = few n.0 n.1 (leb n.0 most)

counted_tested : {A : Type 0} (test : A → Bool) (w : Width) (most : ℕ) (field : Reading A) (bytes : List ℕ) → counted_at w most (tested_at test field) bytes ≡ tested_at (list_all test) (counted_at w most field) bytes
unfolding counted_at tested_at
counted_tested {A = A} test w most field bytes = by (number_at w bytes)
  where
    few : (n : ℕ) (rest : List ℕ) (is : Bool) → cond is (many_at (tested_at test field) n rest) None ≡ (cond is (many_at field n rest) None >>= λ a. cond (list_all test a.0) (Some a) None)
    few n rest true = many_tested test field n rest
    few n rest false = refl

    by : (o : Option (ℕ × List ℕ)) → (o >>= λ n. cond (leb n.0 most) (many_at (tested_at test field) n.0 n.1) None)
        ≡ ((o >>= λ n. cond (leb n.0 most) (many_at field n.0 n.1) None) >>= λ a. cond (list_all test a.0) (Some a) None)
    by None = refl
    by (Some n) = few n.0 n.1 (leb n.0 most)

node_ids_read : (bytes : List ℕ) → node_ids_at bytes ≡ (nodes_at bytes >>= λ nodes. cond (ascends node_cmp (keys_of nodes.0)) (Some (keys_of nodes.0, nodes.1)) None)
unfolding node_ids_at nodes_at tested_at named_at
node_ids_read bytes = rw (counted_keys (λ (node : NodeId × NodeRow). node.0) w64 (2 ^ 64) node_at bytes) (by (counted_at w64 (2 ^ 64) node_at bytes))
  where
    by : (o : Option (List (NodeId × NodeRow) × List ℕ)) → only_if (ascends node_cmp) (seen keys_of o)
        ≡ (o >>= λ nodes. cond (ascends node_cmp (keys_of nodes.0)) (Some (keys_of nodes.0, nodes.1)) None)
    by None = refl
    by (Some nodes) = refl

abbrev all_among : List NodeId → List (EdgeId × EdgeRow) → Bool
all_among nodes edges = list_all (λ (edge : EdgeId × EdgeRow). has_ends_in nodes edge.1) edges

edges_end : (nodes : List NodeId) (bytes : List ℕ) → end_of (edge_ids_in nodes bytes)
    ≡ (edges_at bytes >>= λ edges. cond (all_among nodes edges.0 && ascends edge_cmp (keys_of edges.0)) (Some edges.1) None)
unfolding edge_ids_in edge_id_in edges_at tested_at named_at
edges_end nodes bytes =
    rw (
      counted_keys (λ (edge : EdgeId × EdgeRow). edge.0) w64 (2 ^ 64) (tested_at (λ edge. has_ends_in nodes edge.1) edge_at) bytes,
      counted_tested (λ (edge : EdgeId × EdgeRow). has_ends_in nodes edge.1) w64 (2 ^ 64) edge_at bytes,
    ) (by (counted_at w64 (2 ^ 64) edge_at bytes))
  where
    both : (all up : Bool) (edges : List (EdgeId × EdgeRow)) (rest : List ℕ) → ascends edge_cmp (keys_of edges) ≡ up →
        end_of (only_if (ascends edge_cmp) (seen keys_of (cond all (Some (edges, rest)) None)))
        ≡ cond (all && up) (Some rest) None
    both true true edges rest e = rw e refl
    both true false edges rest e = rw e refl
    both false up edges rest e = refl

    by : (o : Option (List (EdgeId × EdgeRow) × List ℕ)) →
        end_of (only_if (ascends edge_cmp) (seen keys_of (only_if (all_among nodes) o)))
        ≡ (o >>= λ edges. cond (all_among nodes edges.0 && ascends edge_cmp (keys_of edges.0)) (Some edges.1) None)
    by None = refl
    by (Some a) = both (all_among nodes a.0) (ascends edge_cmp (keys_of a.0)) a.0 a.1 refl

module _ (bytes b1 : List ℕ) (n : ℕ) (count : number_at w64 bytes ≡ Some (n, b1)) (few : n < 2 ^ 64) where
  ids_tested : (ids : List NodeId) (b2 : List ℕ) → many_at (named_at (λ node. node.0) node_at) n b1 ≡ Some (ids, b2) → node_ids_at bytes ≡ cond (ascends node_cmp ids) (Some (ids, b2)) None
  unfolding node_ids_at tested_at counted_at
  ids_tested ids b2 e = rw (count, count_fits n (2 ^ 64) few, e) refl

  pub ids_read : (ids : List NodeId) (b2 : List ℕ) → many_at (named_at (λ node. node.0) node_at) n b1 ≡ Some (ids, b2) → ascends node_cmp ids ≡ true → node_ids_at bytes ≡ Some (ids, b2)
  ids_read ids b2 e is = ids_tested ids b2 e ∙ ap (λ (b : Bool). cond b (Some (ids, b2)) None) is

  pub ids_unread : (ids : List NodeId) (b2 : List ℕ) → many_at (named_at (λ node. node.0) node_at) n b1 ≡ Some (ids, b2) → ascends node_cmp ids ≡ false → node_ids_at bytes ≡ None
  ids_unread ids b2 e is = ids_tested ids b2 e ∙ ap (λ (b : Bool). cond b (Some (ids, b2)) None) is

-- ---- the snapshot

abbrev Parts : Type 0
Parts = ℕ × (List (NodeId × NodeRow) × List (EdgeId × EdgeRow))

abbrev ended : ℕ → List ℕ → Option PayloadKind
ended commits rest = cond (eqb (length rest) 0) (Some (kinds.Snapshot commits)) None

abbrev snapshot_of : Parts → Command
snapshot_of parts = commands.Snapshot parts.0 parts.1.0 parts.1.1

abbrev tested_kind : Option (Parts × List ℕ) → Option PayloadKind
tested_kind parts = option_map command_kind (seen snapshot_of (only_if (λ parts. is_graph (snapshot_graph parts.1.0 parts.1.1)) parts) >>= whole)

kind_read : (bytes : List ℕ) → option_map command_kind (snapshot_at bytes >>= whole) ≡ tested_kind (snapshot_parts_at bytes)
unfolding snapshot_at named_at tested_at
kind_read bytes = refl

pub no_commits : (bytes : List ℕ) → number_at w64 bytes ≡ None → option_map command_kind (snapshot_at bytes >>= whole) ≡ None
unfolding snapshot_parts_at nodes_at edges_at
no_commits bytes e = kind_read bytes ∙ ap tested_kind (pair_none (number_at w64) bytes (pair_at nodes_at edges_at) e)

parts_none : (bytes b1 : List ℕ) (commits : ℕ) → number_at w64 bytes ≡ Some (commits, b1) → pair_at nodes_at edges_at b1 ≡ None → option_map command_kind (snapshot_at bytes >>= whole) ≡ None
unfolding snapshot_parts_at nodes_at edges_at
parts_none bytes b1 commits c e = kind_read bytes ∙ ap tested_kind (pair_second_none (number_at w64) bytes (pair_at nodes_at edges_at) commits b1 c e)

parts_some : (bytes b1 : List ℕ) (commits : ℕ) (nodes : List (NodeId × NodeRow)) (edges : List (EdgeId × EdgeRow)) (rest : List ℕ) → number_at w64 bytes ≡ Some (commits, b1) →
    pair_at nodes_at edges_at b1 ≡ Some ((nodes, edges), rest) →
    option_map command_kind (snapshot_at bytes >>= whole) ≡ cond (is_graph (snapshot_graph nodes edges)) (ended commits rest) None
unfolding snapshot_parts_at nodes_at edges_at
parts_some bytes b1 commits nodes edges rest c e =
    kind_read bytes ∙ ap tested_kind (pair_both (number_at w64) bytes (pair_at nodes_at edges_at) commits b1 (nodes, edges) rest c e) ∙ by (is_graph (snapshot_graph nodes edges))
  where
    each : (empty : Bool) → option_map command_kind (cond empty (Some (snapshot_of (commits, (nodes, edges)))) None) ≡ cond empty (Some (kinds.Snapshot commits)) None
    each true = refl
    each false = refl

    by : (graph : Bool) → option_map command_kind (seen snapshot_of (cond graph (Some ((commits, (nodes, edges)), rest)) None) >>= whole) ≡ cond graph (ended commits rest) None
    by true = each (eqb (length rest) 0)
    by false = refl

module _ (bytes b1 : List ℕ) (commits : ℕ) (fits : IsBytes bytes) (c : number_at w64 bytes ≡ Some (commits, b1)) where
  fits_behind : IsBytes b1
  fits_behind = IsBytes-rest bytes (to_be_bytes w64 commits) b1 ((number_exact w64 (2 ^ 64) eight_bytes).takes bytes (commits, b1) fits c).spelled fits

  -- what is made of nodes that were read, and of edges that were
  snapshot_walk : option_map command_kind (snapshot_at bytes >>= whole) ≡ (node_ids_at b1 >>= λ ids. end_of (edge_ids_in ids.0 ids.1) >>= λ rest. ended commits rest)
  unfolding nodes_at edges_at
  snapshot_walk = by_nodes (nodes_at b1) refl
    where
      pull : (a : Bool) (ids : List NodeId) (b2 : List ℕ) → (cond {A = Option (List NodeId × List ℕ)} a (Some (ids, b2)) None >>= λ ids. end_of (edge_ids_in ids.0 ids.1) >>= λ rest. ended commits rest)
          ≡ cond a (end_of (edge_ids_in ids b2) >>= λ rest. ended commits rest) None
      pull true ids b2 = refl
      pull false ids b2 = refl

      none : (a : Bool) → cond {A = Option PayloadKind} a None None ≡ None
      none true = refl
      none false = refl

      chosen : (a b : Bool) (rest : List ℕ) → cond (a && b) (ended commits rest) None ≡ cond a (cond {A = Option (List ℕ)} b (Some rest) None >>= λ rest. ended commits rest) None
      chosen true true rest = refl
      chosen true false rest = refl
      chosen false b rest = refl

      by_edges : (nodes : List (NodeId × NodeRow)) (b2 : List ℕ) → nodes_at b1 ≡ Some (nodes, b2) → (o : Option (List (EdgeId × EdgeRow) × List ℕ)) → edges_at b2 ≡ o →
          option_map command_kind (snapshot_at bytes >>= whole) ≡ cond (ascends node_cmp (keys_of nodes))
          ((o >>= λ edges. cond (all_among (keys_of nodes) edges.0 && ascends edge_cmp (keys_of edges.0)) (Some edges.1) None) >>= λ rest. ended commits rest) None
      by_edges nodes b2 n None e = parts_none bytes b1 commits c (pair_second_none nodes_at b1 edges_at nodes b2 n e) ∙ sym (none (ascends node_cmp (keys_of nodes)))
      by_edges nodes b2 n (Some edges) e =
          let tn = nodes_exact.takes b1 (nodes, b2) fits_behind n in
          let te = edges_exact.takes b2 edges (IsBytes-rest b1 (nodes_field nodes) b2 tn.spelled fits_behind) e in
          let stand = all_stand is_node is_node_entry nodes node_stands (and_parts (ltb (length nodes) (2 ^ 64)) (list_all is_node nodes) tn.fit).1 in
          let join = all_stand is_edge is_edge_entry edges.0 edge_stands (and_parts (ltb (length edges.0) (2 ^ 64)) (list_all is_edge edges.0) te.fit).1 in
          parts_some bytes b1 commits nodes edges.0 edges.1 c (pair_both nodes_at b1 edges_at nodes b2 edges.0 edges.1 n e)
          ∙ ap (λ (g : Bool). cond g (ended commits edges.1) None) (graph_walk nodes edges.0 stand join)
          ∙ chosen (ascends node_cmp (keys_of nodes)) (all_among (keys_of nodes) edges.0 && ascends edge_cmp (keys_of edges.0)) edges.1

      by_nodes : (o : Option (List (NodeId × NodeRow) × List ℕ)) → nodes_at b1 ≡ o →
          option_map command_kind (snapshot_at bytes >>= whole) ≡ (node_ids_at b1 >>= λ ids. end_of (edge_ids_in ids.0 ids.1) >>= λ rest. ended commits rest)
      by_nodes None n = parts_none bytes b1 commits c (pair_none nodes_at b1 edges_at n) ∙ sym (ap (λ (o : Option (List NodeId × List ℕ)). o >>= λ ids. end_of (edge_ids_in ids.0 ids.1) >>= λ rest. ended commits rest)
          (node_ids_read b1 ∙ ap (λ (o : Option (List (NodeId × NodeRow) × List ℕ)). o >>= λ nodes. cond (ascends node_cmp (keys_of nodes.0)) (Some (keys_of nodes.0, nodes.1)) None) n))
      by_nodes (Some nodes) n =
          by_edges nodes.0 nodes.1 n (edges_at nodes.1) refl
          ∙ ap (λ (o : Option (List ℕ)). cond (ascends node_cmp (keys_of nodes.0)) (o >>= λ rest. ended commits rest) None) (sym (edges_end (keys_of nodes.0) nodes.1))
          ∙ sym (pull (ascends node_cmp (keys_of nodes.0)) (keys_of nodes.0) nodes.1)
          ∙ sym (ap (λ (o : Option (List NodeId × List ℕ)). o >>= λ ids. end_of (edge_ids_in ids.0 ids.1) >>= λ rest. ended commits rest)
          (node_ids_read b1 ∙ ap (λ (o : Option (List (NodeId × NodeRow) × List ℕ)). o >>= λ nodes. cond (ascends node_cmp (keys_of nodes.0)) (Some (keys_of nodes.0, nodes.1)) None) n))

  pub no_node_ids : (e : Unread) → Fails e (node_ids_at b1) → Fails e (option_map command_kind (snapshot_at bytes >>= whole))
  no_node_ids unread.Memory e = tt
  no_node_ids unread.Unfit e = snapshot_walk ∙ ap (λ (o : Option (List NodeId × List ℕ)). o >>= λ ids. end_of (edge_ids_in ids.0 ids.1) >>= λ rest. ended commits rest) e

  module _ (ids : List NodeId) (b2 : List ℕ) (n : node_ids_at b1 ≡ Some (ids, b2)) where
    kind_by_edges : option_map command_kind (snapshot_at bytes >>= whole) ≡ (end_of (edge_ids_in ids b2) >>= λ rest. ended commits rest)
    kind_by_edges = snapshot_walk ∙ ap (λ (o : Option (List NodeId × List ℕ)). o >>= λ ids. end_of (edge_ids_in ids.0 ids.1) >>= λ rest. ended commits rest) n

    pub no_edge_ids : end_of (edge_ids_in ids b2) ≡ None → option_map command_kind (snapshot_at bytes >>= whole) ≡ None
    no_edge_ids e = kind_by_edges ∙ ap (λ (o : Option (List ℕ)). o >>= λ rest. ended commits rest) e

    pub snapshot_ended : (rest : List ℕ) → end_of (edge_ids_in ids b2) ≡ Some rest → eqb (length rest) 0 ≡ true → option_map command_kind (snapshot_at bytes >>= whole) ≡ Some (kinds.Snapshot commits)
    snapshot_ended rest e is = kind_by_edges ∙ ap (λ (o : Option (List ℕ)). o >>= λ rest. ended commits rest) e ∙ ap (λ (b : Bool). cond b (Some (kinds.Snapshot commits)) None) is

    pub snapshot_goes_on : (rest : List ℕ) → end_of (edge_ids_in ids b2) ≡ Some rest → eqb (length rest) 0 ≡ false → option_map command_kind (snapshot_at bytes >>= whole) ≡ None
    snapshot_goes_on rest e is = kind_by_edges ∙ ap (λ (o : Option (List ℕ)). o >>= λ rest. ended commits rest) e ∙ ap (λ (b : Bool). cond b (Some (kinds.Snapshot commits)) None) is
