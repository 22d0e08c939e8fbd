use Rattle.std.proofs.Common.{◌≡◌, ◌∙◌, true, None, IfOk, unwrap_or, sym, ap, subst}
use Rattle.std.specs.Option.{option_copied}
use Rattle.std.specs.Map.{lookup}
use Rattle.std.specs.BTreeMap.{is_at}
use Rattle.pgs_base.specs.Graph.{node_cmp, node_at, is_graph}
use Rattle.pgs_tables.specs.Adjacency.{node_edges}
use Rattle.pgs_tables.specs.Relists.{edges_edited}
use Rattle.pgs_tables.proofs.Ends.{absent_node, no_node}
use Rattle.pgs_tables.proofs.tables.Tables.edited_edges.Goals as goal

pub returns-in-None : goal.returns-in-None
returns-in-None c =
    let graph = c.args.self.now.graph in
    let graph_is : is_graph graph ≡ true = ap (λ s. is_graph s.graph) (sym c.self.view_is) ∙ c.self.invariant.graph in
    let absent = absent_node graph c.args.id graph_is (no_node (node_at graph c.args.id) (node_edges graph c.args.id) c.in-None.ensures) in
    let unmade : lookup (is_at (node_cmp c.args.id)) c.args.touched.now ≡ None = sym c.get.ensures ∙ ap option_copied c.in_default.is in
    let before : c.new.result ≡ unwrap_or (lookup (is_at (node_cmp c.args.id)) c.args.touched.now) (node_edges graph c.args.id) =
    c.new.ensures ∙ sym absent ∙ ap (λ o. unwrap_or o (node_edges graph c.args.id)) (sym unmade) in
    subst (λ e. IfOk c.with_edit-in-None.result (λ edges. edges ≡ edges_edited c.args.edit e)) before c.with_edit-in-None.ensures
