use Rattle.std.proofs.Common.{take, drop, fold}
use Rattle.pgs_base.specs.Graph.{edge_cmp}
use Rattle.std.specs.BTreeMap.{is_at}
use Rattle.std.specs.Set.{remove_key}
use Rattle.pgs_tables_edges.proofs.Copied.{IsCopied}
use Rattle.pgs_tables_edges.proofs.edits.without_each.Given as goal

abbrev pub invariant-loop-id : goal.invariant-loop-id
invariant-loop-id l = IsCopied l.list l.done l.built.ids (fold (λ left id. remove_key (is_at (edge_cmp id)) left) l.list (take l.id-index l.ids)) (drop l.id-index l.ids)
