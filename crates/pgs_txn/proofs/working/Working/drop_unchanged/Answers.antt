use Rattle.std.proofs.Common.{◌∙◌, ap, sym, is_some, None}
use Rattle.std.specs.Map.{lookup}
use Rattle.std.specs.BTreeMap.{is_at}
use Rattle.pgs_base.specs.Graph.{edge_cmp}
use Rattle.pgs_base.proofs.Lookups.{lookup-insert_entry_same}
use Rattle.pgs_graph.proofs.Deltas.{edge_cmp_total}
use Rattle.pgs_txn.specs.Rows.{edge_change}
use Rattle.pgs_txn.proofs.Removed.{only_dropped_old, none_from}
use Rattle.pgs_txn.proofs.working.Working.drop_unchanged.Goals as goal

pub returns-clause-changed : goal.returns-clause-changed
returns-clause-changed c =
    ap (λ es. is_some (lookup (is_at (edge_cmp c.args.edge)) es)) c.in_ok-drop_edge.ensures.edges
    ∙ ap is_some (lookup-insert_entry_same edge_cmp_total c.args.edge None c.args.self.now.rows.edges)

pub returns-clause-only : goal.returns-clause-only
returns-clause-only c g id stands at =
    only_dropped_old g c.args.self.now c.drop_edge.new.self stands c.args.edge c.in_ok-drop_edge.ensures.edges c.drop_edge.ensures.nodes c.drop_edge.ensures.cleared
    c.in_ok-drop_edge.ensures.count c.in_ok-drop_edge.ensures.indexed id
    (none_from (edge_change c.args.self.now.rows c.args.edge) (sym c.contains.ensures ∙ c.if-contains.false)) at
