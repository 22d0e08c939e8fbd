use Rattle.std.proofs.Common.{length, ◌∙◌, ap, arith}
use Rattle.std.specs.Map.{keys_of}
use Rattle.pgs_tables.proofs.Rows.{length-keys}
use Rattle.pgs_tables.proofs.read.TablesGraphRead.edge_ids.Goals as goal

pub returns-clause-ids : goal.returns-clause-ids
returns-clause-ids g c = c.in_ok-ids.ensures ∙ ap (λ s. keys_of s.graph.edges) c.self.view_is

pub returns-clause-each_ticks : goal.returns-clause-each_ticks
returns-clause-each_ticks g c = omega (arith, ap length (returns-clause-ids g c), length-keys c.args.self.now.graph.edges)

pub returns-clause-at_most : goal.returns-clause-at_most
returns-clause-at_most g c = omega (arith, ap length (returns-clause-ids g c), length-keys c.args.self.now.graph.edges)
