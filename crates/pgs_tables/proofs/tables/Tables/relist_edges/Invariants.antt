use Rattle.std.proofs.Common.{◌≡◌, drop}
use Rattle.std.specs.Map.{lookup}
use Rattle.std.specs.BTreeMap.{is_at}
use Rattle.pgs_base.specs.declared.element.NodeId.{NodeId}
use Rattle.pgs_base.specs.Graph.{node_cmp}
use Rattle.pgs_tables.specs.Relists.{relisted_all}
use Rattle.pgs_tables.proofs.tables.Tables.relist_edges.Given as goal

abbrev pub invariant-loop-change : goal.invariant-loop-change
invariant-loop-change l =
    (q : NodeId) → relisted_all l.self.graph l.nodes q (drop l.change-index l.changes) (lookup (is_at (node_cmp q)) l.touched)
    ≡ relisted_all l.self.graph l.nodes q l.changes (lookup (is_at (node_cmp q)) l.fn.touched)
