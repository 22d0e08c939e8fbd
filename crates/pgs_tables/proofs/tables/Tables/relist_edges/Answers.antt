use Rattle.std.proofs.Common.{◌+◌, ◌∙◌, drop, sym, ap}
use Rattle.std.proofs.lemmas.List.{drop_all}
use Rattle.std.specs.Map.{lookup}
use Rattle.std.specs.BTreeMap.{is_at}
use Rattle.pgs_base.specs.Graph.{node_cmp}
use Rattle.pgs_tables.specs.Relists.{relisted_all}
use Rattle.pgs_tables.proofs.Rows.{first_of_rest}
use Rattle.pgs_tables.proofs.tables.Tables.relist_edges.Goals as goal

pub loop-change-preserved : goal.loop-change-preserved
loop-change-preserved c q =
    let graph = c.args.self.now.graph in
    let nodes = c.args.nodes.now in
    let changes = c.args.changes.now in
    let front = first_of_rest changes c.loop-change.change-index c.change-item.result c.loop-change-test.true c.change-item.is in
    ap (relisted_all graph nodes q (drop (c.loop-change.change-index + 1) changes)) (c.in_ok-relist_change.ensures q)
    ∙ ap (λ l. relisted_all graph nodes q l (lookup (is_at (node_cmp q)) c.loop-change.touched)) (sym front)
    ∙ c.loop-change.invariant q

pub returns : goal.returns
returns c q =
    let done = drop_all c.loop-change.change-index c.args.changes.now c.loop-change-test.false in
    ap (λ l. relisted_all c.args.self.now.graph c.args.nodes.now q l (lookup (is_at (node_cmp q)) c.loop-change.touched)) (sym done) ∙ c.loop-change.invariant q
