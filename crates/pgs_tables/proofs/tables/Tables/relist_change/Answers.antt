use Rattle.std.proofs.Common.{◌≡◌, ◌∙◌, true, false, Option, ap}
use Rattle.std.specs.Option.{option_copied}
use Rattle.std.specs.Map.{lookup}
use Rattle.std.specs.BTreeMap.{is_at}
use Rattle.pgs_base.specs.declared.row.EdgeRow.{EdgeRow}
use Rattle.pgs_base.specs.Graph.{node_cmp, edge_at}
use Rattle.pgs_tables.specs.Adjacency.{node_edges}
use Rattle.pgs_tables.specs.Relists.{stays, relisted_ends}
use Rattle.pgs_tables.proofs.tables.Tables.relist_change.Goals as goal

pub returns : goal.returns
returns c q =
    let graph = c.args.self.now.graph in
    let left = stays c.args.nodes.now q in
    let change = c.args.change.now in
    let first = λ (o : Option EdgeRow). relisted_ends (node_edges graph q) left q false change.0 o (lookup (is_at (node_cmp q)) c.args.touched.now) in
    let old : option_copied c.get-old.result ≡ edge_at graph change.0 = c.get-old.ensures ∙ ap (λ s. edge_at s.graph change.0) c.self.view_is in
    c.in_ok-relist_ends-2.ensures q
    ∙ ap (λ o. relisted_ends (node_edges graph q) left q true change.0 o (lookup (is_at (node_cmp q)) c.relist_ends.new.touched)) c.as_ref.ensures.value
    ∙ ap (relisted_ends (node_edges graph q) left q true change.0 change.1) (c.in_ok-relist_ends.ensures q ∙ ap first old)
