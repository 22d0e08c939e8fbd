use Rattle.std.proofs.Common.{◌∙◌, Some, sym, ap}
use Rattle.std.specs.Option.{option_map}
use Rattle.std.specs.BTreeMap.{is_at}
use Rattle.std.proofs.lemmas.Map.Made.{lookup-map_values}
use Rattle.pgs_base.specs.Graph.{node_cmp, node_at}
use Rattle.pgs_tables.specs.declared.node_edges.NodeTable.{NodeTable}
use Rattle.pgs_tables.proofs.read.TablesGraphRead.node.Goals as goal

pub returns-in-Some-clause-value : goal.returns-in-Some-clause-value
returns-in-Some-clause-value g c =
    let nodes = c.self.inside.nodes.rows in
    ap Some c.of.ensures ∙ ap (option_map (λ (t : NodeTable). t.row)) c.in-Some.ensures ∙ sym (lookup-map_values (λ (t : NodeTable). t.row) (is_at (node_cmp c.args.id)) nodes)
    ∙ ap (λ s. node_at s.graph c.args.id) c.self.view_is

pub returns-in-None-clause-value : goal.returns-in-None-clause-value
returns-in-None-clause-value g c =
    let nodes = c.self.inside.nodes.rows in
    ap (option_map (λ (t : NodeTable). t.row)) c.in-None.ensures ∙ sym (lookup-map_values (λ (t : NodeTable). t.row) (is_at (node_cmp c.args.id)) nodes)
    ∙ ap (λ s. node_at s.graph c.args.id) c.self.view_is
