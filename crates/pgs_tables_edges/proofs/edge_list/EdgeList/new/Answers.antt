use Rattle.pgs_base.specs.Graph.{edge_cmp}
use Rattle.pgs_base.proofs.Ascending.{ascending_none}
use Rattle.pgs_tables_edges.proofs.edge_list.EdgeList.new.Goals as goal

pub invariant_of-result : goal.invariant_of-result
invariant_of-result c = ascending_none edge_cmp c.new.result c.new.ensures
