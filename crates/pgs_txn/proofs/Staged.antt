-- One operation after another: the graph after them, what they may list, and how many looks they take.
use Rattle.std.proofs.Common.{◌≡◌, ℕ, zero, suc, ◌+◌, ◌*◌, ◌<◌, ◌≤◌, Bool, true, false, ◌&&◌, ◌||◌, ◌==◌, List, [], ◌∷◌, length, drop, get_or, Ok, Err, refl, sym, ◌∙◌, ap, arith, add-one, drop-cons}
use Rattle.std.specs.Prelude.{if◌then◌else◌, nat_le}
use Rattle.std.specs.List.{list_any, list_all}
use Rattle.std.specs.Map.{keys_of}
use Rattle.std.proofs.lemmas.Bool.{and_parts, and_from, or_left, or_right, eq-eqb, leb-true, le-ltb}
use Rattle.pgs_base.specs.declared.element.NodeId.{NodeId}
use Rattle.pgs_base.specs.declared.element.EdgeId.{EdgeId}
use Rattle.pgs_base.specs.declared.limits.Limits.{Limits}
use Rattle.pgs_base.specs.Graph.{Graph, node_cmp, edge_cmp, element_count, is_graph}
use Rattle.pgs_base.specs.Order.{ascends}
use Rattle.pgs_base.proofs.Ascending.{ascends_decides}
use Rattle.pgs_graph.specs.declared.operation.Op.{Op}
use Rattle.pgs_graph.specs.declared.operation.Op.TheVariants.{AddNode, AddEdge, RemoveNode, DetachNode, RemoveEdge, SetNode, UnsetNode, LabelNode, UnlabelNode, SetEdge, UnsetEdge, LabelEdge, UnlabelEdge}
use Rattle.pgs_graph.specs.declared.operation.Txn.{Txn}
use Rattle.pgs_graph.specs.Changed.{is_sound}
use Rattle.pgs_violation.specs.declared.structural.Structural.TheVariants.{TooManyOps, TooManyElements}
use Rattle.pgs_violation.specs.Staging.{◌>>=◌, step, going_on, after_ops, within_limit, staged}
use Rattle.pgs_txn.specs.declared.working.Working.{Working}
use Rattle.pgs_txn.specs.Listing.{names_node, names_edge, detaches_edge, may_list_node, may_list_edge, element_degree, has_degrees_upto, MayList}
use Rattle.pgs_txn.specs.Rows.{delta_of}
use Rattle.pgs_txn.specs.Working.{graph_now, StandsOn}

-- the operations from a place on, after the one at the place is done
pub after_one : (g next : Graph) (ops : List Op) (i : ℕ) (op : Op) → i < length ops → op ≡ get_or ops i op → step g op ≡ Ok next →
    after_ops g (i + 1) (drop i ops) ≡ after_ops next (i + 1 + 1) (drop (i + 1) ops)
after_one g next ops i op inside is done =
    let split : drop i ops ≡ op ∷ drop (i + 1) ops = rw add-one (drop-cons ops i op inside ∙ ap (λ x. x ∷ drop (suc i) ops) (sym is)) in
    ap (after_ops g (i + 1)) split ∙ ap (λ r. going_on (i + 1) r (λ h. after_ops h (i + 1 + 1) (drop (i + 1) ops))) done

-- ---- an operation among others

any_at : (p : Op → Bool) (ops : List Op) (i : ℕ) (op : Op) → i < length ops → op ≡ get_or ops i op → p op ≡ true → list_any p ops ≡ true
any_at p [] i op inside is passes = absurd (omega arith)
any_at p (x ∷ xs) zero op inside is passes = or_left (p x) (list_any p xs) (ap p (sym is) ∙ passes)
any_at p (x ∷ xs) (suc i) op inside is passes = or_right (p x) (list_any p xs) (any_at p xs i op (omega arith) is passes)

all_at : (p : Op → Bool) (ops : List Op) (i : ℕ) (op : Op) → i < length ops → op ≡ get_or ops i op → list_all p ops ≡ true → p op ≡ true
all_at p [] i op inside is all = absurd (omega arith)
all_at p (x ∷ xs) zero op inside is all = ap p is ∙ (and_parts (p x) (list_all p xs) all).0
all_at p (x ∷ xs) (suc i) op inside is all = all_at p xs i op (omega arith) is (and_parts (p x) (list_all p xs) all).1

module _ (g : Graph) (ops : List Op) (i : ℕ) (inside : i < length ops) where
  node_listed : (op : Op) → op ≡ get_or ops i op → (id : NodeId) → names_node id op ≡ true → may_list_node ops id ≡ true
  node_listed op is id own = any_at (names_node id) ops i op inside is own

  edge_listed : (op : Op) → op ≡ get_or ops i op → (id : EdgeId) → (names_edge id op || detaches_edge g id op) ≡ true → may_list_edge g ops id ≡ true
  edge_listed op is id own = any_at (λ op. names_edge id op || detaches_edge g id op) ops i op inside is own

  own_node : (id : NodeId) → (id.0 == id.0) ≡ true
  own_node id = eq-eqb id.0 id.0 refl

  own_edge : (id : EdgeId) → ((id.0 == id.0) || false) ≡ true
  own_edge id = or_left (id.0 == id.0) false (eq-eqb id.0 id.0 refl)

  -- what the operation at a place may list, all of them may
  pub may_list : (op : Op) → op ≡ get_or ops i op → MayList g op (may_list_node ops) (may_list_edge g ops)
  may_list (AddNode id labels props) is = node_listed (AddNode id labels props) is id (own_node id)
  may_list (RemoveNode id) is = node_listed (RemoveNode id) is id (own_node id)
  may_list (DetachNode id) is = (node_listed (DetachNode id) is id (own_node id), λ edge at. edge_listed (DetachNode id) is edge at)
  may_list (SetNode id key value) is = node_listed (SetNode id key value) is id (own_node id)
  may_list (UnsetNode id key) is = node_listed (UnsetNode id key) is id (own_node id)
  may_list (LabelNode id label) is = node_listed (LabelNode id label) is id (own_node id)
  may_list (UnlabelNode id label) is = node_listed (UnlabelNode id label) is id (own_node id)
  may_list (AddEdge id source target labels props) is = edge_listed (AddEdge id source target labels props) is id (own_edge id)
  may_list (RemoveEdge id) is = edge_listed (RemoveEdge id) is id (own_edge id)
  may_list (SetEdge id key value) is = edge_listed (SetEdge id key value) is id (own_edge id)
  may_list (UnsetEdge id key) is = edge_listed (UnsetEdge id key) is id (own_edge id)
  may_list (LabelEdge id label) is = edge_listed (LabelEdge id label) is id (own_edge id)
  may_list (UnlabelEdge id label) is = edge_listed (UnlabelEdge id label) is id (own_edge id)

  pub degree_upto : (most : ℕ) → has_degrees_upto g most ops ≡ true → (op : Op) → op ≡ get_or ops i op → element_degree g op ≤ most
  degree_upto most all op is = leb-true (element_degree g op) most (all_at (λ op. nat_le (element_degree g op) most) ops i op inside is all)

-- the looks of one more operation
pub more_looks : (start before after i most degree : ℕ) → before ≤ start + i * (most + 3) → after ≤ before + degree + 3 → degree ≤ most → after ≤ start + (i + 1) * (most + 3)
more_looks start before after i most degree h k d = omega arith

-- ---- a transaction

pub staged_is : (limits : Limits) (g h : Graph) (txn : Txn) → length txn.ops ≤ limits.ops → after_ops g 1 txn.ops ≡ Ok h → element_count h ≤ limits.elements →
    staged limits g txn ≡ Ok h
staged_is limits g h txn few done small =
    ap (λ b. if b then Err (TooManyOps (length txn.ops)) else (after_ops g 1 txn.ops >>= within_limit limits)) (le-ltb limits.ops (length txn.ops) few)
    ∙ ap (λ r. r >>= within_limit limits) done
    ∙ ap (λ b. if b then Err (TooManyElements (element_count h)) else Ok h) (le-ltb limits.elements (element_count h) small)

-- the delta of a working state is sound where the graph that it makes is a graph
pub sound_delta : (g : Graph) (w : Working) → StandsOn g w → is_graph (graph_now g w) ≡ true → is_sound g (delta_of w.rows) ≡ true
sound_delta g w stands graph =
    and_from (ascends node_cmp (keys_of w.rows.nodes) && ascends edge_cmp (keys_of w.rows.edges)) (is_graph (graph_now g w))
    (and_from (ascends node_cmp (keys_of w.rows.nodes)) (ascends edge_cmp (keys_of w.rows.edges))
    ((ascends_decides node_cmp (keys_of w.rows.nodes)).1 stands.indexed.nodes_ascend)
    ((ascends_decides edge_cmp (keys_of w.rows.edges)).1 stands.indexed.edges_ascend)) graph
