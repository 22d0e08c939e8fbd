use Rattle.std.proofs.Common.{◌≡◌, ◌∙◌, Bool, true, false, cond, ◌&&◌, Option, Some, unwrap_or, sym, ap, refl}
use Rattle.std.specs.Map.{lookup}
use Rattle.std.specs.BTreeMap.{is_at}
use Rattle.std.specs.Cmp.{Equal-is}
use Rattle.pgs_base.specs.declared.element.NodeId.{NodeId}
use Rattle.pgs_base.specs.Graph.{node_cmp}
use Rattle.pgs_base.proofs.Lookups.{lookup-insert_entry}
use Rattle.pgs_graph.proofs.Deltas.{node_cmp_total, exact_node}
use Rattle.pgs_tables.specs.declared.edit.Edit.{Edit}
use Rattle.pgs_tables.specs.declared.node_edges.NodeEdges.{NodeEdges}
use Rattle.pgs_tables.specs.Adjacency.{node_edges}
use Rattle.pgs_tables.specs.Relists.{edges_edited, stays}
use Rattle.pgs_tables.proofs.tables.Tables.relist.Goals as goal

module _ (id q : NodeId) (was : NodeId → Option NodeEdges) (base : NodeId → NodeEdges) (left : NodeId → Bool) (edit : Edit) where
  -- the edited edges put in at a node that stays
  put_in : left id ≡ true → (edges : NodeEdges) → edges ≡ edges_edited edit (unwrap_or (was id) (base id)) → (b : Bool) → is_at (node_cmp id) q ≡ b →
      cond b (Some edges) (was q) ≡ cond (b && left q) (Some (edges_edited edit (unwrap_or (was q) (base q)))) (was q)
  put_in stays edges is true tie =
      let same : id ≡ q = exact_node id q ((Equal-is (node_cmp id q)).0 tie) in
      let here : left q ≡ true = ap left (sym same) ∙ stays in
      rw here (ap Some (is ∙ ap (λ n. edges_edited edit (unwrap_or (was n) (base n))) same))
  put_in stays edges is false apart = refl

  left_out : left id ≡ false → (b : Bool) → is_at (node_cmp id) q ≡ b → was q ≡ cond (b && left q) (Some (edges_edited edit (unwrap_or (was q) (base q)))) (was q)
  left_out gone true tie =
      let same : id ≡ q = exact_node id q ((Equal-is (node_cmp id q)).0 tie) in
      let here : left q ≡ false = ap left (sym same) ∙ gone in
      rw here refl
  left_out gone false apart = refl

pub returns : goal.returns
returns c q =
    let rows = c.args.touched.now in
    let was = λ (n : NodeId). lookup (is_at (node_cmp n)) rows in
    let base = λ (n : NodeId). node_edges c.args.self.now.graph n in
    let left = λ (n : NodeId). stays c.args.nodes.now n in
    ap (lookup (is_at (node_cmp q))) c.in_ok-set.ensures.ok ∙ lookup-insert_entry node_cmp_total q c.args.id c.in_ok-edges.edges rows
    ∙ put_in c.args.id q was base left c.args.edit (sym c.leaves.ensures ∙ c.if-not-leaves.false) c.in_ok-edges.edges c.in_ok-edges.ensures (is_at (node_cmp c.args.id) q) refl
