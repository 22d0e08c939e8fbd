-- An edge that the graph after a transaction has, and that no operation names, was there before, with its row.
use Rattle.std.proofs.Common.{◌≡◌, ℕ, ◌+◌, Bool, true, false, ◌||◌, cond, not, ◌⊎◌, inl, inr, ⊎_elim, List, [], ◌∷◌, length, Option, Some, None, is_some, Result, Ok, Err, refl, sym, ◌∙◌, ap, subst, true≢false, Ordering, Less, Equal, Greater}
use Rattle.std.specs.Prelude.{Contains, nat_lt, if◌then◌else◌}
use Rattle.std.specs.Cmp.{Equal-is, eq_by_cmp_equiv}
use Rattle.std.specs.Option.{option_map_or}
use Rattle.std.specs.Ordering.{match_ordering}
use Rattle.std.specs.BTreeMap.{is_at, insert_entry}
use Rattle.std.specs.Map.{keys_of, lookup, remove_entry}
use Rattle.std.proofs.lemmas.Bool.{or_left, or_right}
use Rattle.std.proofs.lemmas.Map.Keys.{IsDistinct-from_sorted}
use Rattle.std.proofs.lemmas.Map.Views.{lookup-from_Contains}
use Rattle.pgs_base.specs.declared.element.NodeId.{NodeId}
use Rattle.pgs_base.specs.declared.element.EdgeId.{EdgeId}
use Rattle.pgs_base.specs.declared.element.Elem.{Elem}
use Rattle.pgs_base.specs.declared.element.Elem.TheVariants.{Node, Edge}
use Rattle.pgs_base.specs.declared.limits.Limits.{Limits}
use Rattle.pgs_base.specs.declared.row.NodeRow.{NodeRow}
use Rattle.pgs_base.specs.declared.row.EdgeRow.{EdgeRow}
use Rattle.pgs_base.specs.Graph.{Graph, edge_cmp, node_at, edge_at, with_node, with_edge, without_node, without_edge, is_end, is_graph}
use Rattle.pgs_base.specs.Pair.{pair_of, put_value, take_value, put_name, take_name}
use Rattle.pgs_base.proofs.Ascending.{ascends_decides}
use Rattle.pgs_base.proofs.Graphs.{graph_parts}
use Rattle.pgs_graph.specs.declared.operation.Op.{Op}
use Rattle.pgs_graph.specs.declared.operation.Op.TheVariants.{AddNode, AddEdge, RemoveNode, DetachNode, RemoveEdge, SetNode, UnsetNode, LabelNode, UnlabelNode, SetEdge, UnsetEdge, LabelEdge, UnlabelEdge}
use Rattle.pgs_graph.specs.declared.operation.Txn.{Txn}
use Rattle.pgs_graph.proofs.Deltas.{edge_cmp_total, exact_edge}
use Rattle.pgs_syntax.proofs.Members.{contains_first, contains_later, contains_cases, kept_found}
use Rattle.pgs_violation.specs.declared.structural.Structural.{Structural}
use Rattle.pgs_violation.specs.Staging.{◌>>=◌, StepFault, node_or_fault, edge_or_fault, is_small, put_node, put_edge, edges_at, detached, lone_node_removed, step, going_on, after_ops, within_limit, staged}
use Rattle.pgs_check_affected.specs.Local.{is_one_of, has_touched_end}
use Rattle.pgs_decide.specs.Touched.{element_of, named, touched_by}
use Rattle.pgs_decide.proofs.Covered.{first_named, later_named, touched_given}

-- ---- entries

module _ {K V : Type 0} where
  -- an entry after one is put in has the key's entry's place, or was there
  entry_put : (cmp : K → K → Ordering) (key : K) (value : V) (es : List (K × V)) (e : K × V) → ((a b : K) → cmp a b ≡ Equal → a ≡ b) →
      Contains (insert_entry cmp es key value) e → (e.0 ≡ key) ⊎ Contains es e
  entry_put cmp key value [] e exact there = ⊎_elim (λ (same : (key, value) ≡ e). inl (ap (λ (x : K × V). x.0) (sym same))) inr (contains_cases (key, value) [] e there)
  entry_put cmp key value (x ∷ es) e exact there = by (cmp key x.0) refl there (entry_put cmp key value es e exact)
    where
      by : (o : Ordering) → cmp key x.0 ≡ o → Contains (match_ordering o ((key, value) ∷ x ∷ es) ((x.0, value) ∷ es) (x ∷ insert_entry cmp es key value)) e →
          (Contains (insert_entry cmp es key value) e → (e.0 ≡ key) ⊎ Contains es e) → (e.0 ≡ key) ⊎ Contains (x ∷ es) e
      by Less is there rest = ⊎_elim (λ (same : (key, value) ≡ e). inl (ap (λ (y : K × V). y.0) (sym same))) inr (contains_cases (key, value) (x ∷ es) e there)
      by Equal is there rest =
          ⊎_elim (λ (same : (x.0, value) ≡ e). inl (ap (λ (y : K × V). y.0) (sym same) ∙ sym (exact key x.0 is))) (λ later. inr (contains_later x es e later))
          (contains_cases (x.0, value) es e there)
      by Greater is there rest =
          ⊎_elim (λ (same : x ≡ e). inr (subst (Contains (x ∷ es)) same (contains_first x es)))
          (λ later. ⊎_elim inl (λ before. inr (contains_later x es e before)) (rest later)) (contains_cases x (insert_entry cmp es key value) e there)

  entry_left : (at : K → Bool) (es : List (K × V)) (e : K × V) → Contains (remove_entry at es) e → Contains es e
  entry_left at [] e there = there
  entry_left at (x ∷ es) e there = by (at x.0) there (entry_left at es e)
    where
      by : (b : Bool) → Contains (cond b es (x ∷ remove_entry at es)) e → (Contains (remove_entry at es) e → Contains es e) → Contains (x ∷ es) e
      by true there rest = contains_later x es e there
      by false there rest =
          ⊎_elim (λ (same : x ≡ e). subst (Contains (x ∷ es)) same (contains_first x es)) (λ later. contains_later x es e (rest later)) (contains_cases x (remove_entry at es) e there)

  entry_there : (at : K → Bool) (key : K) → ((k : K) → at k ≡ true → k ≡ key) → (es : List (K × V)) (value : V) → lookup at es ≡ Some value → Contains es (key, value)
  entry_there at key exact [] value found = cc
  entry_there at key exact (x ∷ es) value found = by (at x.0) refl found (entry_there at key exact es value)
    where
      by : (b : Bool) → at x.0 ≡ b → cond b (Some x.1) (lookup at es) ≡ Some value → (lookup at es ≡ Some value → Contains es (key, value)) → Contains (x ∷ es) (key, value)
      by true own found rest =
          let one : x.1 ≡ value = cc in
          subst (Contains (x ∷ es)) (λ i. (exact x.0 own i, one i)) (contains_first x es)
      by false own found rest = contains_later x es (key, value) (rest found)

-- ---- what a step gives

bind_found : {A B F : Type 0} (r : Result A F) (f : A → Result B F) (y : B) → (r >>= f) ≡ Ok y → (x : A) × (r ≡ Ok x) × (f x ≡ Ok y)
bind_found (Ok x) f y e = (x, refl, e)
bind_found (Err fault) f y e = cc

put_found : {A F : Type 0} (b : Bool) (x y : A) (fault : F) → (if b then Ok x else Err fault) ≡ Ok y → x ≡ y
put_found true x y fault e = cc
put_found false x y fault e = cc

unless_found : {A F : Type 0} (b : Bool) (fault : F) (r : Result A F) (y : A) → (if b then Err fault else r) ≡ Ok y → r ≡ Ok y
unless_found true fault r y e = cc
unless_found false fault r y e = e

given : {F : Type 0} (g h : Graph) (r : Result Graph F) → r ≡ Ok g → r ≡ Ok h → g ≡ h
given g h r is e = cc

-- ---- the edges of a graph after operations

module _ (g h : Graph) (edge : EdgeId × EdgeRow) where
  -- an edge that stands after a step is that of the operation, or stood before it
  abbrev WasThere : Op → Type 0
  WasThere op = (Edge edge.0 ≡ element_of op) ⊎ Contains g.edges edge

  by_node : (op : Op) → g.edges ≡ h.edges → Contains h.edges edge → WasThere op
  by_node op same there = inr (subst (λ es. Contains es edge) (sym same) there)

  by_edge : (op : Op) (id : EdgeId) → element_of op ≡ Edge id → (row : EdgeRow) → put_edge g id row ≡ Ok h → Contains h.edges edge → WasThere op
  by_edge op id own row e there =
      let same = put_found (is_small row.labels row.props) (with_edge g id row) h _ e in
      ⊎_elim (λ (here : edge.0 ≡ id). inl (ap (λ n. Edge n) here ∙ sym own)) inr
      (entry_put edge_cmp id row g.edges edge exact_edge (subst (λ k. Contains (Graph.edges k) edge) (sym same) there))

  node_same : (id : NodeId) (row : NodeRow) → put_node g id row ≡ Ok h → g.edges ≡ h.edges
  node_same id row e = ap (λ (k : Graph). k.edges) (put_found (is_small row.labels row.props) (with_node g id row) h _ e)

  node_edited : (id : NodeId) (new : NodeRow → NodeRow) → (node_or_fault g id >>= λ row. put_node g id (new row)) ≡ Ok h → g.edges ≡ h.edges
  node_edited id new e = let there = bind_found (node_or_fault g id) (λ row. put_node g id (new row)) h e in node_same id (new there.0) there.2

  edge_edited : (op : Op) (id : EdgeId) → element_of op ≡ Edge id → (new : EdgeRow → EdgeRow) → (edge_or_fault g id >>= λ row. put_edge g id (new row)) ≡ Ok h → Contains h.edges edge → WasThere op
  edge_edited op id own new e there = let found = bind_found (edge_or_fault g id) (λ row. put_edge g id (new row)) h e in by_edge op id own (new found.0) found.2 there

  removed_same : (id : NodeId) (edges : List (EdgeId × EdgeRow)) → lone_node_removed g id edges ≡ Ok h → g.edges ≡ h.edges
  removed_same id [] e = ap (λ (k : Graph). k.edges) (given (without_node g id) h _ refl e)
  removed_same id (first ∷ edges) e = cc

  step_kept : (op : Op) → step g op ≡ Ok h → Contains h.edges edge → WasThere op
  step_kept (AddNode id labels props) e there = by_node (AddNode id labels props) (node_same id (pair_of labels props) (unless_found (is_some (node_at g id)) _ _ h e)) there
  step_kept (RemoveNode id) e there =
      by_node (RemoveNode id) (removed_same id (edges_at g id) (bind_found (node_or_fault g id) (λ _. lone_node_removed g id (edges_at g id)) h e).2) there
  step_kept (DetachNode id) e there =
      let found = bind_found (node_or_fault g id) (λ _. Ok (detached g id)) h e in
      let same = given (detached g id) h _ refl found.2 in
      inr (kept_found (λ (x : EdgeId × EdgeRow). not (is_end id x.1)) g.edges edge (subst (λ (k : Graph). Contains k.edges edge) (sym same) there)).0
  step_kept (SetNode id key value) e there = by_node (SetNode id key value) (node_edited id (λ row. record row { props = put_value row.props key value }) e) there
  step_kept (UnsetNode id key) e there = by_node (UnsetNode id key) (node_edited id (λ row. record row { props = take_value row.props key }) e) there
  step_kept (LabelNode id label) e there = by_node (LabelNode id label) (node_edited id (λ row. record row { labels = put_name row.labels label }) e) there
  step_kept (UnlabelNode id label) e there = by_node (UnlabelNode id label) (node_edited id (λ row. record row { labels = take_name row.labels label }) e) there
  step_kept (AddEdge id source target labels props) e there =
      let row : EdgeRow = record { source = source; target = target; labels = labels; props = props } in
      let rest = unless_found (is_some (edge_at g id)) _ _ h e in
      let first = bind_found (node_or_fault g source) (λ _. node_or_fault g target >>= λ _. put_edge g id row) h rest in
      let second = bind_found (node_or_fault g target) (λ _. put_edge g id row) h first.2 in
      by_edge (AddEdge id source target labels props) id refl row second.2 there
  step_kept (RemoveEdge id) e there =
      let found = bind_found (edge_or_fault g id) (λ _. Ok (without_edge g id)) h e in
      let same = given (without_edge g id) h _ refl found.2 in
      inr (entry_left (is_at (edge_cmp id)) g.edges edge (subst (λ (k : Graph). Contains k.edges edge) (sym same) there))
  step_kept (SetEdge id key value) e there = edge_edited (SetEdge id key value) id refl (λ row. record row { props = put_value row.props key value }) e there
  step_kept (UnsetEdge id key) e there = edge_edited (UnsetEdge id key) id refl (λ row. record row { props = take_value row.props key }) e there
  step_kept (LabelEdge id label) e there = edge_edited (LabelEdge id label) id refl (λ row. record row { labels = put_name row.labels label }) e there
  step_kept (UnlabelEdge id label) e there = edge_edited (UnlabelEdge id label) id refl (λ row. record row { labels = take_name row.labels label }) e there

going_found : (place : ℕ) (r : Result Graph StepFault) (rest : Graph → Result Graph Structural) (h : Graph) → going_on place r rest ≡ Ok h →
    (next : Graph) × (r ≡ Ok next) × (rest next ≡ Ok h)
going_found place (Ok next) rest h e = (next, refl, e)
going_found place (Err fault) rest h e = cc

ops_kept : (ops : List Op) (g h : Graph) (place : ℕ) (edge : EdgeId × EdgeRow) → after_ops g place ops ≡ Ok h → Contains h.edges edge →
    (is_one_of (named ops) (Edge edge.0) ≡ true) ⊎ Contains g.edges edge
ops_kept [] g h place edge e there = inr (subst (λ (k : Graph). Contains k.edges edge) (sym (given g h _ refl e)) there)
ops_kept (op ∷ ops) g h place edge e there =
    let next = going_found place (step g op) (λ next. after_ops next (place + 1) ops) h e in
    ⊎_elim (λ own. inl (later_named op ops (Edge edge.0) own))
    (λ still. ⊎_elim (λ (own : Edge edge.0 ≡ element_of op). inl (ap (is_one_of (named (op ∷ ops))) own ∙ first_named op ops)) inr (step_kept g next.0 edge op next.1 still))
    (ops_kept ops next.0 h (place + 1) edge next.2 there)

module _ (limits : Limits) (g h : Graph) (txn : Txn) (graph : is_graph g ≡ true) (e : staged limits g txn ≡ Ok h) where
  within_found : (done : Graph) → within_limit limits done ≡ Ok h → done ≡ h
  within_found done is = given done h _ refl (unless_found _ _ (Ok done) h is)

  edge_kept : (edge : EdgeId × EdgeRow) → Contains h.edges edge → (is_one_of (named txn.ops) (Edge edge.0) ≡ true) ⊎ Contains g.edges edge
  edge_kept edge there =
      let done = bind_found (after_ops g 1 txn.ops) (within_limit limits) h (unless_found (nat_lt limits.ops (length txn.ops)) _ _ h e) in
      ops_kept txn.ops g done.0 1 edge done.1 (subst (λ (k : Graph). Contains k.edges edge) (sym (within_found done.0 done.2)) there)

  before : (id : EdgeId) (row : EdgeRow) → Contains g.edges (id, row) → edge_at g id ≡ Some row
  before id row there =
      lookup-from_Contains (eq_by_cmp_equiv edge_cmp_total) id row g.edges
      (IsDistinct-from_sorted edge_cmp (keys_of g.edges) ((ascends_decides edge_cmp (keys_of g.edges)).0 (graph_parts g graph).edge_order)) there

  -- so an edge at a named node is touched in the graph before
  pub edges_after_touched : (elem : Elem) → has_touched_end (is_one_of (named txn.ops)) h elem ≡ true → is_one_of (touched_by g txn.ops) elem ≡ true
  edges_after_touched (Node id) some = absurd (true≢false (sym some))
  edges_after_touched (Edge id) some = by (edge_at h id) refl some
    where
      by : (o : Option EdgeRow) → edge_at h id ≡ o →
          option_map_or (λ (row : EdgeRow). is_one_of (named txn.ops) (Node row.source) || is_one_of (named txn.ops) (Node row.target)) o false ≡ true →
          is_one_of (touched_by g txn.ops) (Edge id) ≡ true
      by None at some = absurd (true≢false (sym some))
      by (Some row) at some =
          touched_given g (named txn.ops) (Edge id)
          (⊎_elim (λ own. or_left _ _ own)
          (λ there. or_right (is_one_of (named txn.ops) (Edge id)) _
          (ap (λ o. option_map_or (λ (row : EdgeRow). is_one_of (named txn.ops) (Node row.source) || is_one_of (named txn.ops) (Node row.target)) o false) (before id row there) ∙ some))
          (edge_kept (id, row) (entry_there (is_at (edge_cmp id)) id (λ k own. sym (exact_edge id k ((Equal-is (edge_cmp id k)).0 own))) h.edges row at)))
