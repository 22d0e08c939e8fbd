use Rattle.std.proofs.Common.{◌≡◌, ◌∙◌, true, sym, ap, subst}
use Rattle.pgs_base.specs.Graph.{edge_cmp}
use Rattle.pgs_graph.specs.Changed.{entries_changed, changed, is_sound}
use Rattle.pgs_tables.specs.Adjacency.{touched_edges}
use Rattle.pgs_tables.specs.Standing.{graph_of}
use Rattle.pgs_tables.proofs.Committed.{committed_graph, committed_edges, committed_is_graph, each_put}
use Rattle.pgs_tables.proofs.tables.Tables.commit.Goals as goal

pub invariant_of-self : goal.invariant_of-self
invariant_of-self c =
    let nodes = c.self.inside.nodes.rows in
    let edges = c.self.inside.edges.rows in
    let delta = c.args.prepared.delta in
    let new_nodes = c.put_lists.new.nodes.rows in
    let new_edges = c.put_rows.new.table.rows in
    let seen : graph_of nodes edges ≡ c.args.self.now.graph = ap (λ s. s.graph) c.self.view_is in
    let sound = subst (λ h. is_sound h delta ≡ true) (sym seen) c.requires.suits.sound in
    let edges_changed = c.put_rows.ensures.rows ∙ ap (entries_changed edge_cmp edges) c.into_vec.ensures.items in
    let touched = c.into_vec-3.ensures.items ∙ c.requires.suits.lists ∙ ap (λ h. touched_edges h delta) (sym seen) in
    let each = each_put (graph_of nodes edges) nodes c.put_nodes.new.nodes.rows new_nodes delta _ _ c.into_vec-2.ensures.items touched c.put_nodes.ensures.rows c.put_lists.ensures.rows in
    record {
      graph = committed_is_graph nodes new_nodes edges new_edges delta c.self.invariant.graph sound edges_changed c.put_lists.ensures.ascending each;
      listed = committed_edges nodes new_nodes edges new_edges delta c.self.invariant.graph sound edges_changed c.put_lists.ensures.ascending each c.self.invariant.listed;
      room = tt;
    }

pub returns-clause-graph : goal.returns-clause-graph
returns-clause-graph c =
    let nodes = c.self.inside.nodes.rows in
    let edges = c.self.inside.edges.rows in
    let delta = c.args.prepared.delta in
    let seen : graph_of nodes edges ≡ c.args.self.now.graph = ap (λ s. s.graph) c.self.view_is in
    let touched = c.into_vec-3.ensures.items ∙ c.requires.suits.lists ∙ ap (λ h. touched_edges h delta) (sym seen) in
    committed_graph nodes c.put_lists.new.nodes.rows edges c.put_rows.new.table.rows delta c.self.invariant.graph
    (subst (λ h. is_sound h delta ≡ true) (sym seen) c.requires.suits.sound)
    (c.put_rows.ensures.rows ∙ ap (entries_changed edge_cmp edges) c.into_vec.ensures.items) c.put_lists.ensures.ascending
    (each_put (graph_of nodes edges) nodes c.put_nodes.new.nodes.rows c.put_lists.new.nodes.rows delta _ _ c.into_vec-2.ensures.items touched c.put_nodes.ensures.rows c.put_lists.ensures.rows)
    ∙ ap (λ h. changed h delta) seen
