use Rattle.pgs_tables_edges.proofs.Edited.{ascending_with}
use Rattle.pgs_tables_edges.proofs.edge_list.EdgeList.with_all.Goals as goal

pub invariant_of-result : goal.invariant_of-result
invariant_of-result c = rw c.in_ok-ids.ensures (ascending_with c.self.inside.ids c.args.ids.now c.self.invariant)
