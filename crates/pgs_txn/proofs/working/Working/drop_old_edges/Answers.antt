use Rattle.pgs_txn.proofs.Looking.{covered_from}
use Rattle.pgs_txn.proofs.Removed.{only_then}
use Rattle.pgs_txn.proofs.working.Working.drop_old_edges.Goals as goal

pub returns-clause-only : goal.returns-clause-only
returns-clause-only g c =
    only_then (g.G.GraphRead.meaning c.args.graph.now) c.args.id c.args.self.now c.drop_direction.new.self c.drop_direction-2.new.self
    c.in_ok-drop_direction.ensures.only c.in_ok-drop_direction-2.ensures.only

pub returns-clause-covered : goal.returns-clause-covered
returns-clause-covered g c =
    covered_from (g.G.GraphRead.meaning c.args.graph.now) c.drop_direction-2.new.self.rows c.args.id
    (λ edge there. c.in_ok-drop_direction-2.ensures.only.stay_changed edge (c.in_ok-drop_direction.ensures.changed edge there))
    c.in_ok-drop_direction-2.ensures.changed
