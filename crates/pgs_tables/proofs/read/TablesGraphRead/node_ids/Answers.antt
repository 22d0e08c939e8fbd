use Rattle.std.proofs.Common.{length, ◌∙◌, sym, ap, arith}
use Rattle.std.specs.Map.{keys_of}
use Rattle.std.proofs.lemmas.Map.Made.{keys_of-map_values}
use Rattle.pgs_tables.specs.declared.node_edges.NodeTable.{NodeTable}
use Rattle.pgs_tables.proofs.Rows.{length-keys}
use Rattle.pgs_tables.proofs.read.TablesGraphRead.node_ids.Goals as goal

pub returns-clause-ids : goal.returns-clause-ids
returns-clause-ids g c =
    c.in_ok-ids.ensures ∙ sym (keys_of-map_values (λ (t : NodeTable). t.row) c.self.inside.nodes.rows) ∙ ap (λ s. keys_of s.graph.nodes) c.self.view_is

pub returns-clause-each_ticks : goal.returns-clause-each_ticks
returns-clause-each_ticks g c = omega (arith, ap length (returns-clause-ids g c), length-keys c.args.self.now.graph.nodes)

pub returns-clause-at_most : goal.returns-clause-at_most
returns-clause-at_most g c = omega (arith, ap length (returns-clause-ids g c), length-keys c.args.self.now.graph.nodes)
