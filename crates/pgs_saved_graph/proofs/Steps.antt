-- What an operation that is done says of sizes: what it adds is small, and small rows stay small.
use Rattle.std.proofs.Common.{◌≡◌, ℕ, ◌+◌, ◌<◌, Bool, true, false, cond, List, [], ◌∷◌, length, is_some, Result, Ok, Err, refl, ◌∙◌, ap, subst, not, arith}
use Rattle.std.specs.Prelude.{◌^◌, IsTrue, if◌then◌else◌, nat_lt, filter}
use Rattle.std.specs.List.{list_all}
use Rattle.std.specs.BTreeMap.{is_at}
use Rattle.std.proofs.lemmas.Bool.{and_parts, and_from}
use Rattle.std.proofs.lemmas.Bool.Decides.{nat_tests}
use Rattle.pgs_base.specs.declared.element.NodeId.{NodeId}
use Rattle.pgs_base.specs.declared.element.EdgeId.{EdgeId}
use Rattle.pgs_base.specs.declared.limits.Limits.{Limits}
use Rattle.pgs_base.specs.declared.row.NodeRow.{NodeRow}
use Rattle.pgs_base.specs.declared.row.EdgeRow.{EdgeRow}
use Rattle.pgs_base.specs.Graph.{Graph, node_cmp, edge_cmp, node_at, edge_at, with_node, with_edge, without_node, without_edge, is_end}
use Rattle.pgs_base.specs.Pair.{pair_of, put_value, take_value, put_name, take_name}
use Rattle.pgs_base.proofs.Pairs.{all_with_entry, all_without_entry}
use Rattle.pgs_codec.specs.declared.command.Command.TheVariants as commands
use Rattle.pgs_codec.specs.Encodable.{adds_small, is_small_node, is_small_edge, is_sized}
use Rattle.pgs_graph.specs.declared.operation.Op.{Op}
use Rattle.pgs_graph.specs.declared.operation.Op.TheVariants.{AddNode, AddEdge, RemoveNode, DetachNode, RemoveEdge, SetNode, UnsetNode, LabelNode, UnlabelNode, SetEdge, UnsetEdge, LabelEdge, UnlabelEdge}
use Rattle.pgs_graph.specs.declared.operation.Txn.{Txn}
use Rattle.pgs_violation.specs.declared.structural.Structural.{Structural}
use Rattle.pgs_violation.specs.Staging.{◌>>=◌, StepFault, node_or_fault, edge_or_fault, is_small, put_node, put_edge, edges_at, detached, lone_node_removed, added_edge, step, going_on, after_ops, within_limit, staged}
use Rattle.pgs_saved_graph.specs.Small.{has_small_rows}

-- ---- results

bind_done : {A B F : Type 0} (r : Result A F) (f : A → Result B F) (y : B) → (r >>= f) ≡ Ok y → (x : A) × (f x ≡ Ok y)
bind_done (Ok x) f y e = (x, e)
bind_done (Err fault) f y e = cc

unless_done : {A F : Type 0} (b : Bool) (fault : F) (r : Result A F) (y : A) → (if b then Err fault else r) ≡ Ok y → r ≡ Ok y
unless_done true fault r y e = cc
unless_done false fault r y e = e

where_done : {A F : Type 0} (b : Bool) (x y : A) (fault : F) → (if b then Ok x else Err fault) ≡ Ok y → (b ≡ true) × (x ≡ y)
where_done true x y fault e = (refl, cc)
where_done false x y fault e = cc

done_is : {A F : Type 0} (x y : A) (r : Result A F) → r ≡ Ok x → r ≡ Ok y → x ≡ y
done_is x y r e f = cc

-- ---- rows

abbrev small_node : NodeId × NodeRow → Bool
small_node node = is_small_node node.1

abbrev small_edge : EdgeId × EdgeRow → Bool
small_edge edge = is_small_edge edge.1

parts : (g : Graph) → has_small_rows g ≡ true → (list_all small_node g.nodes ≡ true) × (list_all small_edge g.edges ≡ true)
parts g small = and_parts (list_all small_node g.nodes) (list_all small_edge g.edges) small

whole : (g : Graph) → list_all small_node g.nodes ≡ true → list_all small_edge g.edges ≡ true → has_small_rows g ≡ true
whole g nodes edges = and_from (list_all small_node g.nodes) (list_all small_edge g.edges) nodes edges

all_kept : {X : Type 0} (p test : X → Bool) (xs : List X) → list_all p xs ≡ true → list_all p (filter test xs) ≡ true
all_kept p test [] h = refl
all_kept {X} p test (x ∷ xs) h = by (test x) (all_kept p test xs (and_parts _ _ h).1)
  where
    by : (b : Bool) → list_all p (filter test xs) ≡ true → list_all p (cond b (x ∷ filter test xs) (filter test xs)) ≡ true
    by true rest = and_from _ _ (and_parts _ _ h).0 rest
    by false rest = rest

-- ---- one operation

module _ (g h : Graph) (small : has_small_rows g ≡ true) where
  node_put : (id : NodeId) (row : NodeRow) → put_node g id row ≡ Ok h → has_small_rows h ≡ true
  node_put id row e =
      let done = where_done (is_small row.labels row.props) (with_node g id row) h _ e in
      subst (λ (k : Graph). has_small_rows k ≡ true) done.1
      (whole (with_node g id row) (all_with_entry node_cmp small_node id row g.nodes done.0 (λ entry passes. done.0) (parts g small).0) (parts g small).1)

  edge_put : (id : EdgeId) (row : EdgeRow) → put_edge g id row ≡ Ok h → has_small_rows h ≡ true
  edge_put id row e =
      let done = where_done (is_small row.labels row.props) (with_edge g id row) h _ e in
      subst (λ (k : Graph). has_small_rows k ≡ true) done.1
      (whole (with_edge g id row) (parts g small).0 (all_with_entry edge_cmp small_edge id row g.edges done.0 (λ entry passes. done.0) (parts g small).1))

  same : {F : Type 0} (k : Graph) (r : Result Graph F) → r ≡ Ok k → r ≡ Ok h → has_small_rows k ≡ true → has_small_rows h ≡ true
  same k r e f is = subst (λ (k : Graph). has_small_rows k ≡ true) (done_is k h r e f) is

  node_gone : (id : NodeId) → has_small_rows (without_node g id) ≡ true
  node_gone id = whole (without_node g id) (all_without_entry small_node (is_at (node_cmp id)) g.nodes (parts g small).0) (parts g small).1

  edge_gone : (id : EdgeId) → has_small_rows (without_edge g id) ≡ true
  edge_gone id = whole (without_edge g id) (parts g small).0 (all_without_entry small_edge (is_at (edge_cmp id)) g.edges (parts g small).1)

  node_removed : (id : NodeId) (edges : List (EdgeId × EdgeRow)) → lone_node_removed g id edges ≡ Ok h → has_small_rows h ≡ true
  node_removed id [] e = same (without_node g id) _ refl e (node_gone id)
  node_removed id (edge ∷ edges) e = cc

  node_detached : (id : NodeId) → has_small_rows (detached g id) ≡ true
  node_detached id =
      whole (detached g id) (parts (without_node g id) (node_gone id)).0
      (all_kept small_edge (λ (edge : EdgeId × EdgeRow). not (is_end id edge.1)) g.edges (parts g small).1)

  node_changed : (id : NodeId) (new : NodeRow → NodeRow) → (node_or_fault g id >>= λ row. put_node g id (new row)) ≡ Ok h → has_small_rows h ≡ true
  node_changed id new e = let there = bind_done (node_or_fault g id) (λ row. put_node g id (new row)) h e in node_put id (new there.0) there.1

  edge_changed : (id : EdgeId) (new : EdgeRow → EdgeRow) → (edge_or_fault g id >>= λ row. put_edge g id (new row)) ≡ Ok h → has_small_rows h ≡ true
  edge_changed id new e = let there = bind_done (edge_or_fault g id) (λ row. put_edge g id (new row)) h e in edge_put id (new there.0) there.1

  edge_added : (id : EdgeId) (row : EdgeRow) → added_edge g id row ≡ Ok h → put_edge g id row ≡ Ok h
  edge_added id row e =
      let rest = unless_done (is_some (edge_at g id)) _ _ h e in
      let source = bind_done (node_or_fault g row.source) (λ _. node_or_fault g row.target >>= λ _. put_edge g id row) h rest in
      (bind_done (node_or_fault g row.target) (λ _. put_edge g id row) h source.1).1

  step_small : (op : Op) → step g op ≡ Ok h → has_small_rows h ≡ true
  step_small (AddNode id labels props) e = node_put id (pair_of labels props) (unless_done (is_some (node_at g id)) _ _ h e)
  step_small (AddEdge id source target labels props) e =
      let row : EdgeRow = record { source = source; target = target; labels = labels; props = props } in edge_put id row (edge_added id row e)
  step_small (RemoveNode id) e = node_removed id (edges_at g id) (bind_done (node_or_fault g id) (λ _. lone_node_removed g id (edges_at g id)) h e).1
  step_small (DetachNode id) e = same (detached g id) _ refl (bind_done (node_or_fault g id) (λ _. Ok (detached g id)) h e).1 (node_detached id)
  step_small (RemoveEdge id) e = same (without_edge g id) _ refl (bind_done (edge_or_fault g id) (λ _. Ok (without_edge g id)) h e).1 (edge_gone id)
  step_small (SetNode id key value) e = node_changed id (λ row. record row { props = put_value row.props key value }) e
  step_small (UnsetNode id key) e = node_changed id (λ row. record row { props = take_value row.props key }) e
  step_small (LabelNode id label) e = node_changed id (λ row. record row { labels = put_name row.labels label }) e
  step_small (UnlabelNode id label) e = node_changed id (λ row. record row { labels = take_name row.labels label }) e
  step_small (SetEdge id key value) e = edge_changed id (λ row. record row { props = put_value row.props key value }) e
  step_small (UnsetEdge id key) e = edge_changed id (λ row. record row { props = take_value row.props key }) e
  step_small (LabelEdge id label) e = edge_changed id (λ row. record row { labels = put_name row.labels label }) e
  step_small (UnlabelEdge id label) e = edge_changed id (λ row. record row { labels = take_name row.labels label }) e

-- what an operation adds is small, where it is done
step_adds : (g h : Graph) (op : Op) → step g op ≡ Ok h → adds_small op ≡ true
step_adds g h (AddNode id labels props) e = (where_done (is_small labels props) (with_node g id (pair_of labels props)) h _ (unless_done (is_some (node_at g id)) _ _ h e)).0
step_adds g h (AddEdge id source target labels props) e =
    let row : EdgeRow = record { source = source; target = target; labels = labels; props = props } in
    let rest = unless_done (is_some (edge_at g id)) _ _ h e in
    let first = bind_done (node_or_fault g source) (λ _. node_or_fault g target >>= λ _. put_edge g id row) h rest in
    let second = bind_done (node_or_fault g target) (λ _. put_edge g id row) h first.1 in
    (where_done (is_small labels props) (with_edge g id row) h _ second.1).0
step_adds g h op e = refl

-- ---- operations

going_done : (place : ℕ) (r : Result Graph StepFault) (rest : Graph → Result Graph Structural) (h : Graph) → going_on place r rest ≡ Ok h →
    (next : Graph) × (r ≡ Ok next) × (rest next ≡ Ok h)
going_done place (Ok next) rest h e = (next, refl, e)
going_done place (Err fault) rest h e = cc

ops_small : (ops : List Op) (g h : Graph) (place : ℕ) → after_ops g place ops ≡ Ok h → has_small_rows g ≡ true → has_small_rows h ≡ true
ops_small [] g h place e small = subst (λ (k : Graph). has_small_rows k ≡ true) (done_is g h (after_ops g place []) refl e) small
ops_small (op ∷ ops) g h place e small =
    let next = going_done place (step g op) (λ next. after_ops next (place + 1) ops) h e in
    ops_small ops next.0 h (place + 1) next.2 (step_small g next.0 small op next.1)

ops_add : (ops : List Op) (g h : Graph) (place : ℕ) → after_ops g place ops ≡ Ok h → list_all adds_small ops ≡ true
ops_add [] g h place e = refl
ops_add (op ∷ ops) g h place e =
    let next = going_done place (step g op) (λ next. after_ops next (place + 1) ops) h e in
    and_from _ _ (step_adds g next.0 op next.1) (ops_add ops next.0 h (place + 1) next.2)

within_done : (limits : Limits) (g h : Graph) → within_limit limits g ≡ Ok h → g ≡ h
within_done limits g h e = done_is g h _ refl (unless_done _ _ (Ok g) h e)

-- the graph after the operations, and that there are no more than the limit
ops_of : (limits : Limits) (g h : Graph) (txn : Txn) → staged limits g txn ≡ Ok h → after_ops g 1 txn.ops ≡ Ok h
ops_of limits g h txn e = by (after_ops g 1 txn.ops) refl (unless_done (nat_lt limits.ops (length txn.ops)) _ _ h e)
  where
    by : (r : Result Graph Structural) → after_ops g 1 txn.ops ≡ r → (r >>= within_limit limits) ≡ Ok h → after_ops g 1 txn.ops ≡ Ok h
    by (Ok next) is e = is ∙ ap Ok (within_done limits next h e)
    by (Err structural) is e = cc

most_ops : (limits : Limits) (g h : Graph) (txn : Txn) → staged limits g txn ≡ Ok h → nat_lt limits.ops (length txn.ops) ≡ false
most_ops limits g h txn e = by (nat_lt limits.ops (length txn.ops)) _ (after_ops g 1 txn.ops >>= within_limit limits) e
  where
    by : (b : Bool) (fault : Structural) (r : Result Graph Structural) → (if b then Err fault else r) ≡ Ok h → b ≡ false
    by true fault r e = cc
    by false fault r e = refl

pub staged_small : (limits : Limits) (g h : Graph) (txn : Txn) → staged limits g txn ≡ Ok h → has_small_rows g ≡ true → has_small_rows h ≡ true
staged_small limits g h txn e small = ops_small txn.ops g h 1 (ops_of limits g h txn e) small

few : (ops most : ℕ) → most < 2 ^ 32 → nat_lt most ops ≡ false → nat_lt ops (2 ^ 32) ≡ true
few ops most small within = grind (arith, nat_tests)

pub staged_sized : (limits : Limits) (g h : Graph) (txn : Txn) → limits.ops < 2 ^ 32 → staged limits g txn ≡ Ok h → IsTrue (is_sized (commands.Txn txn))
staged_sized limits g h txn small e =
    and_from (nat_lt (length txn.ops) (2 ^ 32)) (list_all adds_small txn.ops) (few (length txn.ops) limits.ops small (most_ops limits g h txn e))
    (ops_add txn.ops g h 1 (ops_of limits g h txn e))
