use Rattle.std.proofs.Common.{ap, refl}
use Rattle.std.specs.Map.{keys_of}
use Rattle.pgs_base.specs.Graph.{node_cmp, edge_cmp}
use Rattle.pgs_base.proofs.Ascending.{ascending_none}
use Rattle.pgs_txn.specs.Rows.{end_cmp}
use Rattle.pgs_txn.proofs.changed_rows.ChangedRows.new.Goals as goal

pub returns-clause-indexed : goal.returns-clause-indexed
returns-clause-indexed c = record {
  nodes_ascend = ascending_none node_cmp (keys_of c.new.result) (ap keys_of c.new.ensures);
  edges_ascend = ascending_none edge_cmp (keys_of c.new-2.result) (ap keys_of c.new-2.ensures);
  ends_ascend = ascending_none end_cmp (keys_of c.new-3.result) (ap keys_of c.new-3.ensures);
  ends = λ at. rw (c.new-2.ensures, c.new-3.ensures) refl;
}
