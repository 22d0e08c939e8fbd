-- The graph after a well-formed transaction on a graph is a graph.
use Rattle.std.proofs.Common.{◌≡◌, ℕ, ◌+◌, Bool, ◌&&◌, true, false, cond, ◌==◌, List, [], ◌∷◌, length, Option, Some, None, is_some, Result, Ok, Err, refl, sym, ◌∙◌, ap, subst, not, Ordering, is_lt}
use Rattle.std.specs.Prelude.{if◌then◌else◌, nat_lt, filter}
use Rattle.std.specs.Cmp.{IsTotalOrder, Equal-is, nat_cmp_total, on_total}
use Rattle.std.specs.List.{list_all}
use Rattle.std.specs.Map.{keys_of, lookup, remove_entry}
use Rattle.std.specs.BTreeMap.{is_at, insert_entry}
use Rattle.std.proofs.lemmas.Bool.{and_parts, and_from, or_parts, eqb-false, not_from_false, not-true}
use Rattle.std.proofs.lemmas.Map.Lookups.{exact_unsigned}
use Rattle.pgs_base.specs.declared.element.NodeId.{NodeId}
use Rattle.pgs_base.specs.declared.element.EdgeId.{EdgeId}
use Rattle.pgs_base.specs.declared.limits.Limits.{Limits}
use Rattle.pgs_base.specs.declared.row.NodeRow.{NodeRow}
use Rattle.pgs_base.specs.declared.row.EdgeRow.{EdgeRow}
use Rattle.pgs_base.specs.Graph.{Graph, node_cmp, edge_cmp, node_at, edge_at, with_node, with_edge, without_node, without_edge, is_end, has_ends, is_element_number, is_node_entry, is_edge_entry, is_graph}
use Rattle.pgs_base.specs.declared.value.Value.{Value}
use Rattle.pgs_base.specs.Name.{is_name}
use Rattle.pgs_base.specs.Order.{ascends}
use Rattle.pgs_base.specs.Pair.{pair_of, is_pair, are_names, are_props, put_value, take_value, put_name, take_name}
use Rattle.pgs_base.specs.Value.{is_value}
use Rattle.pgs_base.proofs.Ascending.{ascends_decides, ascending-insert_entry, ascending-remove_entry}
use Rattle.pgs_base.proofs.Graphs.{IsGraph, graph_parts, graph_from}
use Rattle.pgs_base.proofs.Lookups.{lookup-insert_entry, lookup-remove_key}
use Rattle.pgs_base.proofs.Pairs.{all_with_entry, all_without_entry, names_with, names_without, props_with, props_without}
use Rattle.pgs_graph.specs.Operations.{is_well_formed_op, is_well_formed_txn}
use Rattle.pgs_graph.specs.declared.operation.Op.{Op}
use Rattle.pgs_graph.specs.declared.operation.Op.TheVariants.{AddNode, AddEdge, RemoveNode, DetachNode, RemoveEdge, SetNode, UnsetNode, LabelNode, UnlabelNode, SetEdge, UnsetEdge, LabelEdge, UnlabelEdge}
use Rattle.pgs_graph.specs.declared.operation.Txn.{Txn}
use Rattle.pgs_violation.specs.declared.structural.Cause.{Cause}
use Rattle.pgs_violation.specs.declared.structural.Structural.{Structural}
use Rattle.pgs_violation.specs.Staging.{◌>>=◌, StepFault, found_or, node_or_fault, edge_or_fault, is_small, put_node, put_edge, edges_at, detached, lone_node_removed, added_edge, step, going_on, after_ops, within_limit, staged}

-- ---- tests of all entries

all_weaker : {X : Type 0} (p q : X → Bool) → ((x : X) → p x ≡ true → q x ≡ true) → (xs : List X) → list_all p xs ≡ true → list_all q xs ≡ true
all_weaker p q weaker [] h = refl
all_weaker p q weaker (x ∷ xs) h = let parts = and_parts _ _ h in and_from _ _ (weaker x parts.0) (all_weaker p q weaker xs parts.1)

all_both : {X : Type 0} (p q r : X → Bool) → ((x : X) → p x ≡ true → q x ≡ true → r x ≡ true) → (xs : List X) →
    list_all p xs ≡ true → list_all q xs ≡ true → list_all r xs ≡ true
all_both p q r both [] h k = refl
all_both p q r both (x ∷ xs) h k =
    let one = and_parts _ _ h in
    let other = and_parts _ _ k in
    and_from _ _ (both x one.0 other.0) (all_both p q r both xs one.1 other.1)

all_kept : {X : Type 0} (p test : X → Bool) (xs : List X) → list_all p xs ≡ true → list_all p (filter test xs) ≡ true
all_kept p test [] h = refl
all_kept {X} p test (x ∷ xs) h = by (test x) (all_kept p test xs (and_parts _ _ h).1)
  where
    by : (b : Bool) → list_all p (filter test xs) ≡ true → list_all p (cond b (x ∷ filter test xs) (filter test xs)) ≡ true
    by true rest = and_from _ _ (and_parts _ _ h).0 rest
    by false rest = rest

all_pass : {X : Type 0} (test : X → Bool) (xs : List X) → list_all test (filter test xs) ≡ true
all_pass test [] = refl
all_pass {X} test (x ∷ xs) = by (test x) refl (all_pass test xs)
  where
    by : (b : Bool) → test x ≡ b → list_all test (filter test xs) ≡ true → list_all test (cond b (x ∷ filter test xs) (filter test xs)) ≡ true
    by true own rest = and_from _ _ own rest
    by false own rest = rest

none_pass : {X : Type 0} (test : X → Bool) (xs : List X) → filter test xs ≡ [] → list_all (λ x. not (test x)) xs ≡ true
none_pass test [] h = refl
none_pass {X} test (x ∷ xs) h = by (test x) refl h (none_pass test xs)
  where
    by : (b : Bool) → test x ≡ b → cond b (x ∷ filter test xs) (filter test xs) ≡ [] → (filter test xs ≡ [] → list_all (λ y. not (test y)) xs ≡ true) →
        list_all (λ y. not (test y)) (x ∷ xs) ≡ true
    by true own none rest = cc
    by false own none rest = and_from _ _ (not_from_false (test x) own) (rest none)

module _ {K V : Type 0} (cmp : K → K → Ordering) where
  keys_kept : (p : K → Bool) (test : K × V → Bool) (es : List (K × V)) → list_all p (keys_of es) ≡ true → list_all p (keys_of (filter test es)) ≡ true
  keys_kept p test [] h = refl
  keys_kept p test (e ∷ es) h = by (test e) (keys_kept p test es (and_parts _ _ h).1)
    where
      by : (b : Bool) → list_all p (keys_of (filter test es)) ≡ true → list_all p (keys_of (cond b (e ∷ filter test es) (filter test es))) ≡ true
      by true rest = and_from _ _ (and_parts _ _ h).0 rest
      by false rest = rest

  ascends_kept : (test : K × V → Bool) (es : List (K × V)) → ascends cmp (keys_of es) ≡ true → ascends cmp (keys_of (filter test es)) ≡ true
  ascends_kept test [] h = refl
  ascends_kept test (e ∷ es) h = by (test e) (ascends_kept test es (and_parts _ _ h).1)
    where
      by : (b : Bool) → ascends cmp (keys_of (filter test es)) ≡ true → ascends cmp (keys_of (cond b (e ∷ filter test es) (filter test es))) ≡ true
      by true rest = and_from _ _ (keys_kept (λ later. is_lt (cmp e.0 later)) test es (and_parts _ _ h).0) rest
      by false rest = rest

  module _ (total : IsTotalOrder cmp) where
    ascends_inserted : (es : List (K × V)) (k : K) (v : V) → ascends cmp (keys_of es) ≡ true → ascends cmp (keys_of (insert_entry cmp es k v)) ≡ true
    ascends_inserted es k v h = (ascends_decides cmp _).1 (ascending-insert_entry total k v es ((ascends_decides cmp _).0 h))

    ascends_removed : (es : List (K × V)) (at : K → Bool) → ascends cmp (keys_of es) ≡ true → ascends cmp (keys_of (remove_entry at es)) ≡ true
    ascends_removed es at h = (ascends_decides cmp _).1 (ascending-remove_entry total at es ((ascends_decides cmp _).0 h))

-- ---- graphs

node_total : IsTotalOrder node_cmp
node_total = on_total (λ (id : NodeId). id.0) nat_cmp_total

edge_total : IsTotalOrder edge_cmp
edge_total = on_total (λ (id : EdgeId). id.0) nat_cmp_total

-- an entry stands by its number and its pair
node_stands : (node : NodeId × NodeRow) → is_node_entry node ≡ true → (is_element_number node.0.0 ≡ true) × (is_pair node.1 ≡ true)
node_stands node stands = and_parts (is_element_number node.0.0) (is_pair node.1) stands

node_from : (node : NodeId × NodeRow) → is_element_number node.0.0 ≡ true → is_pair node.1 ≡ true → is_node_entry node ≡ true
node_from node number pair = and_from (is_element_number node.0.0) (is_pair node.1) number pair

-- the pair that an edge carries
abbrev edge_pair : EdgeRow → NodeRow
edge_pair row = pair_of row.labels row.props

edge_stands : (edge : EdgeId × EdgeRow) → is_edge_entry edge ≡ true → (is_element_number edge.0.0 ≡ true) × (is_pair (edge_pair edge.1) ≡ true)
edge_stands edge stands = and_parts (is_element_number edge.0.0) (is_pair (edge_pair edge.1)) stands

edge_from : (edge : EdgeId × EdgeRow) → is_element_number edge.0.0 ≡ true → is_pair (edge_pair edge.1) ≡ true → is_edge_entry edge ≡ true
edge_from edge number pair = and_from (is_element_number edge.0.0) (is_pair (edge_pair edge.1)) number pair

-- a node that is there still is after a node is put in
node_stays : (g : Graph) (id : NodeId) (row : NodeRow) (q : NodeId) → is_some (node_at g q) ≡ true → is_some (node_at (with_node g id row) q) ≡ true
node_stays g id row q there = ap is_some (lookup-insert_entry node_total q id row g.nodes) ∙ by (is_at (node_cmp id) q)
  where
    by : (b : Bool) → is_some (cond b (Some row) (lookup (is_at (node_cmp q)) g.nodes)) ≡ true
    by true = refl
    by false = there

node_put : (g : Graph) (id : NodeId) (row : NodeRow) → is_node_entry (id, row) ≡ true → IsGraph g → IsGraph (with_node g id row)
node_put g id row stands parts = record {
  node_order = ascends_inserted node_cmp node_total g.nodes id row parts.node_order;
  edge_order = parts.edge_order;
  nodes = all_with_entry node_cmp is_node_entry id row g.nodes stands
      (λ e passes. node_from (e.0, row) (node_stands e passes).0 (node_stands (id, row) stands).1) parts.nodes;
  edges = parts.edges;
  ends = all_weaker (λ (edge : EdgeId × EdgeRow). has_ends g edge.1) (λ (edge : EdgeId × EdgeRow). has_ends (with_node g id row) edge.1)
      (λ edge there. let both = and_parts _ _ there in
      and_from _ _ (node_stays g id row edge.1.source both.0) (node_stays g id row edge.1.target both.1)) g.edges parts.ends;
}

edge_put : (g : Graph) (id : EdgeId) (row : EdgeRow) → is_edge_entry (id, row) ≡ true → has_ends g row ≡ true → IsGraph g →
    IsGraph (with_edge g id row)
edge_put g id row stands there parts = record {
  node_order = parts.node_order;
  edge_order = ascends_inserted edge_cmp edge_total g.edges id row parts.edge_order;
  nodes = parts.nodes;
  edges = all_with_entry edge_cmp is_edge_entry id row g.edges stands
      (λ e passes. edge_from (e.0, row) (edge_stands e passes).0 (edge_stands (id, row) stands).1) parts.edges;
  ends = all_with_entry edge_cmp (λ (edge : EdgeId × EdgeRow). has_ends g edge.1) id row g.edges there (λ e passes. there) parts.ends;
}

edge_taken : (g : Graph) (id : EdgeId) → IsGraph g → IsGraph (without_edge g id)
edge_taken g id parts = record {
  node_order = parts.node_order;
  edge_order = ascends_removed edge_cmp edge_total g.edges (is_at (edge_cmp id)) parts.edge_order;
  nodes = parts.nodes;
  edges = all_without_entry is_edge_entry (is_at (edge_cmp id)) g.edges parts.edges;
  ends = all_without_entry (λ (edge : EdgeId × EdgeRow). has_ends g edge.1) (is_at (edge_cmp id)) g.edges parts.ends;
}

-- a node other than the one taken out stays
other_node : (g : Graph) (id q : NodeId) → IsGraph g → (q.0 == id.0) ≡ false → is_some (node_at g q) ≡ true → is_some (node_at (without_node g id) q) ≡ true
other_node g id q parts apart there =
    ap is_some (lookup-remove_key node_total q id g.nodes ((ascends_decides node_cmp (keys_of g.nodes)).0 parts.node_order))
    ∙ by (is_at (node_cmp id) q) refl
  where
    by : (b : Bool) → is_at (node_cmp id) q ≡ b → is_some (cond b None (lookup (is_at (node_cmp q)) g.nodes)) ≡ true
    by true same = absurd (eqb-false q.0 id.0 apart (sym (exact_unsigned id.0 q.0 ((Equal-is (node_cmp id q)).0 same))))
    by false other = there

-- edges that don't have the node as an end keep theirs
node_taken : (g : Graph) (id : NodeId) (edges : List (EdgeId × EdgeRow)) → IsGraph g → ascends edge_cmp (keys_of edges) ≡ true →
    list_all is_edge_entry edges ≡ true → list_all (λ (edge : EdgeId × EdgeRow). has_ends g edge.1) edges ≡ true →
    list_all (λ (edge : EdgeId × EdgeRow). not (is_end id edge.1)) edges ≡ true →
    IsGraph (record { nodes = (without_node g id).nodes; edges = edges })
node_taken g id edges parts order stand ends apart = record {
  node_order = ascends_removed node_cmp node_total g.nodes (is_at (node_cmp id)) parts.node_order;
  edge_order = order;
  nodes = all_without_entry is_node_entry (is_at (node_cmp id)) g.nodes parts.nodes;
  edges = stand;
  ends = all_both (λ (edge : EdgeId × EdgeRow). has_ends g edge.1) (λ (edge : EdgeId × EdgeRow). not (is_end id edge.1))
      (λ (edge : EdgeId × EdgeRow). has_ends (without_node g id) edge.1)
      (λ edge there away. let both = and_parts _ _ there in let neither = or_parts _ _ (not-true _ away) in
      and_from _ _ (other_node g id edge.1.source parts neither.0 both.0) (other_node g id edge.1.target parts neither.1 both.1))
      edges ends apart;
}

-- ---- pairs

module _ (p : NodeRow) where
  parts : is_pair p ≡ true → (are_names p.labels ≡ true) × (are_props p.props ≡ true)
  parts pair = and_parts (are_names p.labels) (are_props p.props) pair

  value_put : (key : List ℕ) (value : Value) → is_name key ≡ true → is_value value ≡ true → is_pair p ≡ true →
      is_pair (pair_of p.labels (put_value p.props key value)) ≡ true
  value_put key value name is pair =
      and_from (are_names p.labels) (are_props (put_value p.props key value)) (parts pair).0 (props_with p.props key value (parts pair).1 name is)

  value_taken : (key : List ℕ) → is_pair p ≡ true → is_pair (pair_of p.labels (take_value p.props key)) ≡ true
  value_taken key pair =
      and_from (are_names p.labels) (are_props (take_value p.props key)) (parts pair).0 (props_without p.props key (parts pair).1)

  label_put : (label : List ℕ) → is_name label ≡ true → is_pair p ≡ true → is_pair (pair_of (put_name p.labels label) p.props) ≡ true
  label_put label name pair =
      and_from (are_names (put_name p.labels label)) (are_props p.props) (names_with p.labels label (parts pair).0 name) (parts pair).1

  label_taken : (label : List ℕ) → is_pair p ≡ true → is_pair (pair_of (take_name p.labels label) p.props) ≡ true
  label_taken label pair =
      and_from (are_names (take_name p.labels label)) (are_props p.props) (names_without p.labels label (parts pair).0) (parts pair).1

-- ---- steps

bind_found : {A B F : Type 0} (r : Result A F) (f : A → Result B F) (y : B) → (r >>= f) ≡ Ok y → (x : A) × (r ≡ Ok x) × (f x ≡ Ok y)
bind_found (Ok x) f y e = (x, refl, e)
bind_found (Err fault) f y e = cc

row_found : {A : Type 0} (cause : Cause) (o : Option A) (x : A) → found_or cause o ≡ Ok x → o ≡ Some x
row_found cause None x e = cc
row_found cause (Some y) x e = let same : y ≡ x = cc in ap Some same

put_found : {A F : Type 0} (b : Bool) (x y : A) (fault : F) → (if b then Ok x else Err fault) ≡ Ok y → x ≡ y
put_found true x y fault e = cc
put_found false x y fault e = cc

unless_found : {A F : Type 0} (b : Bool) (fault : F) (r : Result A F) (y : A) → (if b then Err fault else r) ≡ Ok y → r ≡ Ok y
unless_found true fault r y e = cc
unless_found false fault r y e = e

module _ (g h : Graph) (parts : IsGraph g) where
  node_step : (id : NodeId) (row : NodeRow) → is_node_entry (id, row) ≡ true → put_node g id row ≡ Ok h → IsGraph h
  node_step id row stands e =
      subst IsGraph (put_found (is_small row.labels row.props) (with_node g id row) h _ e) (node_put g id row stands parts)

  -- a change of an edge's row leaves its ends
  edge_step : (id : EdgeId) (row : EdgeRow) → is_edge_entry (id, row) ≡ true → has_ends g row ≡ true → put_edge g id row ≡ Ok h → IsGraph h
  edge_step id row stands there e =
      subst IsGraph (put_found (is_small row.labels row.props) (with_edge g id row) h _ e) (edge_put g id row stands there parts)

row_passes : {K V : Type 0} (test : V → Bool) (at : K → Bool) (es : List (K × V)) (v : V) → list_all (λ (e : K × V). test e.1) es ≡ true →
    lookup at es ≡ Some v → test v ≡ true
row_passes test at [] v h found = cc
row_passes {K} {V} test at (e ∷ es) v h found = by (at e.0) found (row_passes test at es v (and_parts _ _ h).1)
  where
    by : (b : Bool) → cond b (Some e.1) (lookup at es) ≡ Some v → (lookup at es ≡ Some v → test v ≡ true) → test v ≡ true
    by true own rest = let same : e.1 ≡ v = cc in ap test (sym same) ∙ (and_parts _ _ h).0
    by false own rest = rest own

same_graph : {F : Type 0} (g h : Graph) (r : Result Graph F) → IsGraph g → r ≡ Ok g → r ≡ Ok h → IsGraph h
same_graph g h r parts is e = let same : g ≡ h = cc in subst IsGraph same parts

module _ (g h : Graph) (parts : IsGraph g) where
  -- a change of a node that is there, and of an edge that is there
  node_changed : (id : NodeId) (new : NodeRow → NodeRow) → is_element_number id.0 ≡ true →
      ((row : NodeRow) → is_pair row ≡ true → is_pair (new row) ≡ true) → (node_or_fault g id >>= λ row. put_node g id (new row)) ≡ Ok h → IsGraph h
  node_changed id new number pair e =
      let there = bind_found (node_or_fault g id) (λ row. put_node g id (new row)) h e in
      let row = row_found _ (node_at g id) there.0 there.1 in
      let carried = row_passes is_pair (is_at (node_cmp id)) g.nodes there.0
      (all_weaker is_node_entry (λ (node : NodeId × NodeRow). is_pair node.1) (λ node stands. (node_stands node stands).1) g.nodes parts.nodes) row in
      node_step g h parts id (new there.0) (node_from (id, new there.0) number (pair there.0 carried)) there.2

  edge_changed : (id : EdgeId) (new : EdgeRow → EdgeRow) → is_element_number id.0 ≡ true →
      ((row : EdgeRow) → is_pair (edge_pair row) ≡ true → is_pair (edge_pair (new row)) ≡ true) →
      ((row : EdgeRow) → has_ends g (new row) ≡ has_ends g row) →
      (edge_or_fault g id >>= λ row. put_edge g id (new row)) ≡ Ok h → IsGraph h
  edge_changed id new number pair same e =
      let there = bind_found (edge_or_fault g id) (λ row. put_edge g id (new row)) h e in
      let row = row_found _ (edge_at g id) there.0 there.1 in
      let carried = row_passes (λ edge. is_pair (edge_pair edge)) (is_at (edge_cmp id)) g.edges there.0
      (all_weaker is_edge_entry (λ (edge : EdgeId × EdgeRow). is_pair (edge_pair edge.1)) (λ edge stands. (edge_stands edge stands).1) g.edges parts.edges) row in
      edge_step g h parts id (new there.0) (edge_from (id, new there.0) number (pair there.0 carried))
      (same there.0 ∙ row_passes (has_ends g) (is_at (edge_cmp id)) g.edges there.0 parts.ends row) there.2

  edge_added : (id : EdgeId) (row : EdgeRow) → is_edge_entry (id, row) ≡ true → added_edge g id row ≡ Ok h → IsGraph h
  edge_added id row stands e =
      let rest = unless_found (is_some (edge_at g id)) _ _ h e in
      let source = bind_found (node_or_fault g row.source) (λ _. node_or_fault g row.target >>= λ _. put_edge g id row) h rest in
      let target = bind_found (node_or_fault g row.target) (λ _. put_edge g id row) h source.2 in
      let first = row_found _ (node_at g row.source) source.0 source.1 in
      let second = row_found _ (node_at g row.target) target.0 target.1 in
      edge_step g h parts id row stands (and_from _ _ (ap is_some first) (ap is_some second)) target.2

  node_removed : (id : NodeId) (edges : List (EdgeId × EdgeRow)) → edges_at g id ≡ edges → lone_node_removed g id edges ≡ Ok h → IsGraph h
  node_removed id [] none e =
      same_graph (without_node g id) h _
      (node_taken g id g.edges parts parts.edge_order parts.edges parts.ends (none_pass (λ (edge : EdgeId × EdgeRow). is_end id edge.1) g.edges none)) refl e
  node_removed id (edge ∷ edges) some e = cc

  node_detached : (id : NodeId) → IsGraph (detached g id)
  node_detached id =
      let away = λ (edge : EdgeId × EdgeRow). not (is_end id edge.1) in
      node_taken g id (filter away g.edges) parts (ascends_kept edge_cmp away g.edges parts.edge_order)
      (all_kept is_edge_entry away g.edges parts.edges) (all_kept (λ (edge : EdgeId × EdgeRow). has_ends g edge.1) away g.edges parts.ends) (all_pass away g.edges)

  step_kept : (op : Op) → is_well_formed_op op ≡ true → step g op ≡ Ok h → IsGraph h
  step_kept (AddNode id labels props) formed e =
      node_step g h parts id (pair_of labels props) formed (unless_found (is_some (node_at g id)) _ _ h e)
  step_kept (AddEdge id source target labels props) formed e =
      let row : EdgeRow = record { source = source; target = target; labels = labels; props = props } in
      let numbers = is_element_number id.0 && is_element_number source.0 in
      let both = and_parts (numbers && is_element_number target.0) (is_pair (pair_of labels props)) formed in
      let number = (and_parts (is_element_number id.0) (is_element_number source.0) (and_parts numbers (is_element_number target.0) both.0).0).0 in
      edge_added id row (edge_from (id, row) number both.1) e
  step_kept (RemoveNode id) formed e =
      let there = bind_found (node_or_fault g id) (λ _. lone_node_removed g id (edges_at g id)) h e in node_removed id (edges_at g id) refl there.2
  step_kept (DetachNode id) formed e =
      let there = bind_found (node_or_fault g id) (λ _. Ok (detached g id)) h e in same_graph (detached g id) h _ (node_detached id) refl there.2
  step_kept (RemoveEdge id) formed e =
      let there = bind_found (edge_or_fault g id) (λ _. Ok (without_edge g id)) h e in same_graph (without_edge g id) h _ (edge_taken g id parts) refl there.2
  step_kept (SetNode id key value) formed e =
      let last = and_parts (is_element_number id.0 && is_name key) (is_value value) formed in
      let both = and_parts (is_element_number id.0) (is_name key) last.0 in
      node_changed id (λ row. record row { props = put_value row.props key value }) both.0
      (λ row pair. value_put row key value both.1 last.1 pair) e
  step_kept (UnsetNode id key) formed e =
      node_changed id (λ row. record row { props = take_value row.props key }) (and_parts (is_element_number id.0) (is_name key) formed).0 (λ row pair. value_taken row key pair) e
  step_kept (LabelNode id label) formed e =
      let both = and_parts (is_element_number id.0) (is_name label) formed in
      node_changed id (λ row. record row { labels = put_name row.labels label }) both.0 (λ row pair. label_put row label both.1 pair) e
  step_kept (UnlabelNode id label) formed e =
      node_changed id (λ row. record row { labels = take_name row.labels label }) (and_parts (is_element_number id.0) (is_name label) formed).0 (λ row pair. label_taken row label pair) e
  step_kept (SetEdge id key value) formed e =
      let last = and_parts (is_element_number id.0 && is_name key) (is_value value) formed in
      let both = and_parts (is_element_number id.0) (is_name key) last.0 in
      edge_changed id (λ row. record row { props = put_value row.props key value }) both.0
      (λ row pair. value_put (edge_pair row) key value both.1 last.1 pair) (λ row. refl) e
  step_kept (UnsetEdge id key) formed e =
      edge_changed id (λ row. record row { props = take_value row.props key }) (and_parts (is_element_number id.0) (is_name key) formed).0
      (λ row pair. value_taken (edge_pair row) key pair) (λ row. refl) e
  step_kept (LabelEdge id label) formed e =
      let both = and_parts (is_element_number id.0) (is_name label) formed in
      edge_changed id (λ row. record row { labels = put_name row.labels label }) both.0
      (λ row pair. label_put (edge_pair row) label both.1 pair) (λ row. refl) e
  step_kept (UnlabelEdge id label) formed e =
      edge_changed id (λ row. record row { labels = take_name row.labels label }) (and_parts (is_element_number id.0) (is_name label) formed).0
      (λ row pair. label_taken (edge_pair row) label pair) (λ row. refl) e

going_found : (place : ℕ) (r : Result Graph StepFault) (rest : Graph → Result Graph Structural) (h : Graph) → going_on place r rest ≡ Ok h →
    (next : Graph) × (r ≡ Ok next) × (rest next ≡ Ok h)
going_found place (Ok next) rest h e = (next, refl, e)
going_found place (Err fault) rest h e = cc

ops_kept : (ops : List Op) (g h : Graph) (place : ℕ) → list_all is_well_formed_op ops ≡ true → IsGraph g → after_ops g place ops ≡ Ok h → IsGraph h
ops_kept [] g h place formed parts e = same_graph g h _ parts refl e
ops_kept (op ∷ ops) g h place formed parts e =
    let both = and_parts (is_well_formed_op op) (list_all is_well_formed_op ops) formed in
    let next = going_found place (step g op) (λ next. after_ops next (place + 1) ops) h e in
    ops_kept ops next.0 h (place + 1) both.1 (step_kept g next.0 parts op both.0 next.1) next.2

within_found : (limits : Limits) (g h : Graph) → within_limit limits g ≡ Ok h → g ≡ h
within_found limits g h e = let same = unless_found _ _ (Ok g) h e in cc

pub staged_graph : (limits : Limits) (g h : Graph) (txn : Txn) → is_well_formed_txn txn ≡ true → staged limits g txn ≡ Ok h → is_graph g ≡ true → is_graph h ≡ true
staged_graph limits g h txn formed e graph =
    let done = bind_found (after_ops g 1 txn.ops) (within_limit limits) h (unless_found (nat_lt limits.ops (length txn.ops)) _ _ h e) in
    let same = within_found limits done.0 h done.2 in
    graph_from h (subst IsGraph same (ops_kept txn.ops g done.0 1 formed (graph_parts g graph) done.1))
