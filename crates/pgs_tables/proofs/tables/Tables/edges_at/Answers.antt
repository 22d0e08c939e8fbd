use Rattle.std.proofs.Common.{◌≡◌, ◌∙◌, Some, None, IfSome, sym, ap, subst}
use Rattle.std.specs.Option.{option_map}
use Rattle.std.specs.Map.{lookup}
use Rattle.std.specs.BTreeMap.{is_at}
use Rattle.std.proofs.lemmas.Map.Made.{lookup-map_values}
use Rattle.pgs_base.specs.declared.row.NodeRow.{NodeRow}
use Rattle.pgs_base.specs.Graph.{node_cmp, node_at}
use Rattle.pgs_tables.specs.declared.node_edges.NodeTable.{NodeTable}
use Rattle.pgs_tables.specs.Adjacency.{node_edges}
use Rattle.pgs_tables.specs.Standing.{graph_of}
use Rattle.pgs_tables.proofs.tables.Tables.edges_at.Goals as goal

pub returns-in-Some : goal.returns-in-Some
returns-in-Some c =
    let nodes = c.self.inside.nodes.rows in
    let graph = graph_of nodes c.self.inside.edges.rows in
    let found : lookup (is_at (node_cmp c.args.id)) nodes ≡ Some c.in-Some.table.now = sym c.in-Some.ensures in
    let edges = subst (λ o. IfSome o (λ (t : NodeTable). t.edges ≡ node_edges graph c.args.id)) found (c.self.invariant.listed c.args.id) in
    let row : node_at graph c.args.id ≡ Some c.in-Some.table.now.row =
    lookup-map_values (λ (t : NodeTable). t.row) (is_at (node_cmp c.args.id)) nodes ∙ ap (option_map (λ (t : NodeTable). t.row)) found in
    ap Some edges ∙ ap (option_map (λ (r : NodeRow). node_edges graph c.args.id)) (sym row)
    ∙ ap (λ s. option_map (λ (r : NodeRow). node_edges s.graph c.args.id) (node_at s.graph c.args.id)) c.self.view_is

pub returns-in-None : goal.returns-in-None
returns-in-None c =
    let nodes = c.self.inside.nodes.rows in
    let graph = graph_of nodes c.self.inside.edges.rows in
    let found : lookup (is_at (node_cmp c.args.id)) nodes ≡ None = sym c.in-None.ensures in
    let row : node_at graph c.args.id ≡ None =
    lookup-map_values (λ (t : NodeTable). t.row) (is_at (node_cmp c.args.id)) nodes ∙ ap (option_map (λ (t : NodeTable). t.row)) found in
    ap (option_map (λ (r : NodeRow). node_edges graph c.args.id)) (sym row)
    ∙ ap (λ s. option_map (λ (r : NodeRow). node_edges s.graph c.args.id) (node_at s.graph c.args.id)) c.self.view_is
