use Rattle.std.proofs.Common.{◌∙◌, sym}
use Rattle.pgs_txn.proofs.Looking.{least_now, least_put_now}
use Rattle.pgs_txn.proofs.working.Working.least_edge.Goals as goal

pub returns-then-contains-clause-least : goal.returns-then-contains-clause-least
returns-then-contains-clause-least g c =
    least_put_now (g.G.GraphRead.meaning c.args.graph.now) c.args.self.now c.requires c.args.id
    (c.requires.cleared c.args.id (sym c.contains.ensures ∙ c.if-contains.true)) c.first_put_at-put.result c.first_put_at-put.ensures

pub returns-clause-least : goal.returns-clause-least
returns-clause-least g c =
    least_now (g.G.GraphRead.meaning c.args.graph.now) c.args.self.now c.requires c.args.id c.lesser-2.result
    (c.lesser-2.ensures _ _ (c.lesser.ensures _ _ c.first_unchanged-out.ensures.least c.first_unchanged-into.ensures.least) c.first_put_at-put.ensures)
