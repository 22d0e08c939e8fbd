use Rattle.std.proofs.Common.{◌≡◌, ◌∙◌, true, Result, Ok, Err, IfOk, sym, ap, subst}
use Rattle.std.specs.List.Sorted.{IsStrictlySortedBy}
use Rattle.std.specs.Map.{keys_of, lookup}
use Rattle.std.specs.BTreeMap.{is_at}
use Rattle.pgs_base.specs.declared.element.NodeId.{NodeId}
use Rattle.pgs_base.specs.Graph.{node_cmp, is_graph}
use Rattle.pgs_tables.specs.Relists.{relisted_all}
use Rattle.pgs_graph.proofs.Deltas.{ascending_changed_nodes}
use Rattle.pgs_tables.proofs.Touched.{all_relisted}
use Rattle.pgs_tables.proofs.tables.Tables.relisted_edges.Goals as goal

pub relist_edges-requires : goal.relist_edges-requires
relist_edges-requires c =
    subst (λ l. IsStrictlySortedBy node_cmp (keys_of l)) (sym c.as_slice-nodes.ensures) (ascending_changed_nodes c.args.self.now.graph c.args.delta.now c.requires)

both_ok : {A B : Type 0} (P Q R : A → Type 0) (r : Result A B) → ((a : A) → P a → Q a → R a) → IfOk r P → IfOk r Q → IfOk r R
both_ok P Q R (Ok a) then p q = then a p q
both_ok P Q R (Err b) then p q = tt

pub returns : goal.returns
returns c =
    let graph = c.args.self.now.graph in
    let delta = c.args.delta.now in
    let graph_is : is_graph graph ≡ true = ap (λ s. is_graph s.graph) (sym c.self.view_is) ∙ c.self.invariant.graph in
    let each = λ (q : NodeId).
    c.in_ok-relist_edges.ensures q
    ∙ ap (λ l. relisted_all graph l q c.as_slice.result.now (lookup (is_at (node_cmp q)) c.new-touched.result)) c.as_slice-nodes.ensures
    ∙ ap (λ l. relisted_all graph delta.nodes q l (lookup (is_at (node_cmp q)) c.new-touched.result)) c.as_slice.ensures
    ∙ ap (λ l. relisted_all graph delta.nodes q delta.edges (lookup (is_at (node_cmp q)) l)) c.new-touched.ensures in
    both_ok _ _ _ c.list_of.result
    (λ lists same ascending. all_relisted graph delta graph_is c.requires lists ascending (λ q. ap (lookup (is_at (node_cmp q))) same ∙ each q))
    c.list_of.ensures.lists c.list_of.ensures.ascending
