use Rattle.pgs_saved_graph.proofs.Filled.{filled_sound, filled_graph}
use Rattle.pgs_saved_graph.proofs.filling.tables_of.Goals as goal

pub prepare-requires : goal.prepare-requires
prepare-requires c =
    rw (c.with_seed-tables.ensures.graph, c.in_ok-added.ensures, c.in_ok-added-2.ensures) (filled_sound c.args.nodes c.args.edges c.requires)

pub returns-clause-graph : goal.returns-clause-graph
returns-clause-graph c =
    rw (c.commit.ensures.graph, c.prepare.ensures.graph, c.with_seed-tables.ensures.graph, c.in_ok-prepared.ensures.delta, c.in_ok-added.ensures, c.in_ok-added-2.ensures)
    (filled_graph c.args.nodes c.args.edges c.requires)
