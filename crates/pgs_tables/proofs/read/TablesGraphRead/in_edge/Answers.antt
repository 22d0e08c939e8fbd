use Rattle.std.proofs.Common.{◌≡◌, ◌∙◌, [], Option, Some, None, IfSome, slice_get, sym, ap, subst, refl}
use Rattle.std.specs.Option.{option_map}
use Rattle.std.specs.Map.{lookup}
use Rattle.std.specs.BTreeMap.{is_at}
use Rattle.std.proofs.lemmas.Map.Made.{lookup-map_values}
use Rattle.pgs_base.specs.declared.element.EdgeId.{EdgeId}
use Rattle.pgs_base.specs.Graph.{node_cmp, node_at}
use Rattle.pgs_graph.specs.declared.scan.End.TheVariants.{Target}
use Rattle.pgs_graph.specs.Reads.{in_edges_of}
use Rattle.pgs_graph.proofs.EdgesWith.{listed_end}
use Rattle.pgs_tables.specs.declared.node_edges.NodeTable.{NodeTable}
use Rattle.pgs_tables.specs.Adjacency.{node_edges}
use Rattle.pgs_tables.specs.Standing.{graph_of}
use Rattle.pgs_tables.proofs.Ends.{absent_node}
use Rattle.pgs_tables.proofs.read.TablesGraphRead.in_edge.Goals as goal

pub returns-in-Some-clause-value : goal.returns-in-Some-clause-value
returns-in-Some-clause-value g c =
    let nodes = c.self.inside.nodes.rows in
    let graph = graph_of nodes c.self.inside.edges.rows in
    let found : lookup (is_at (node_cmp c.args.id)) nodes ≡ Some c.in-Some.table.now = sym c.in-Some.ensures in
    let edges = subst (λ o. IfSome o (λ (t : NodeTable). t.edges ≡ node_edges graph c.args.id)) found (c.self.invariant.listed c.args.id) in
    c.at.ensures ∙ ap (λ e. slice_get e.incoming c.args.nth) edges ∙ ap (λ s. slice_get (in_edges_of s.graph c.args.id) c.args.nth) c.self.view_is

pub returns-in-None-clause-value : goal.returns-in-None-clause-value
returns-in-None-clause-value g c =
    let nodes = c.self.inside.nodes.rows in
    let graph = graph_of nodes c.self.inside.edges.rows in
    let found : lookup (is_at (node_cmp c.args.id)) nodes ≡ None = sym c.in-None.ensures in
    let row : node_at graph c.args.id ≡ None =
    lookup-map_values (λ (t : NodeTable). t.row) (is_at (node_cmp c.args.id)) nodes ∙ ap (option_map (λ (t : NodeTable). t.row)) found in
    let none : ◌≡◌ {A = Option EdgeId} None (slice_get [] c.args.nth) = refl in
    none ∙ ap (λ e. slice_get e.incoming c.args.nth) (sym (absent_node graph c.args.id c.self.invariant.graph row))
    ∙ ap (λ s. slice_get (in_edges_of s.graph c.args.id) c.args.nth) c.self.view_is

pub returns-in-Some-clause-comes_in : goal.returns-in-Some-clause-comes_in
returns-in-Some-clause-comes_in g c =
    let value = returns-in-Some-clause-value g c in
    let graph = graph_of c.self.inside.nodes.rows c.self.inside.edges.rows in
    let listed = listed_end Target c.args.id graph c.self.invariant.graph c.args.nth in
    let seen : graph ≡ c.args.self.now.graph = ap (λ s. s.graph) c.self.view_is in
    rw (value, ← seen) listed
