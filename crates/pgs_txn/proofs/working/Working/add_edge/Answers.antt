use Rattle.std.proofs.Common.{◌≡◌, ◌∙◌, ap, sym, refl, Ok, Some, ℕ, cond, is_some, arith}
use Rattle.std.proofs.lemmas.Result.{err_from_is_err_and}
use Rattle.pgs_base.specs.Graph.{edge_at}
use Rattle.pgs_graph.specs.Reads.{edge_row}
use Rattle.pgs_violation.specs.Staging.{added_edge, put_edge}
use Rattle.pgs_txn.specs.Working.{graph_now}
use Rattle.pgs_txn.proofs.Added.{absent_not_put}
use Rattle.pgs_txn.proofs.Standing.{small_edge_put, fault_of_edge, fault_along, graph_after_edge, stands_after_edge, lists_after_edge}
use Rattle.pgs_txn.proofs.working.Working.add_edge.Goals as goal

pub returns-in-Err-clause-step : goal.returns-in-Err-clause-step
returns-in-Err-clause-step g c =
    c.in-Err.ensures.fits (edge_row c.args.ends.0 c.args.ends.1 c.args.carried.0.now c.args.carried.1.now) refl refl

pub returns-in_err-row-clause-step : goal.returns-in_err-row-clause-step
returns-in_err-row-clause-step g c =
    let now = graph_now (g.G.GraphRead.meaning c.args.graph.now) c.args.self.now in
    let id = c.args.id in
    let wanted = edge_row c.args.ends.0 c.args.ends.1 c.args.carried.0.now c.args.carried.1.now in
    let fault = c.in_err-row.field-0.0 in
    let p = err_from_is_err_and c.from_residual.result c.from_residual.ensures.1 in
    rw (p.1, p.2) (fault_along fault (added_edge now id wanted) (put_edge now id wanted) (c.in_default.ensures.fits wanted refl refl)
    (fault_of_edge fault now id wanted c.in_err-row.ensures))

pub put_new_edge-requires-clause-absent : goal.put_new_edge-requires-clause-absent
put_new_edge-requires-clause-absent g c =
    absent_not_put (g.G.GraphRead.meaning c.args.graph.now) c.args.self.now c.requires c.args.id c.in_default.ensures.new

pub returns-clause-step : goal.returns-clause-step
returns-clause-step g c =
    let m = g.G.GraphRead.meaning c.args.graph.now in
    let w = c.args.self.now in
    let id = c.args.id in
    let next = c.put_new_edge.new.self in
    let row = c.in_ok-row.row in
    let put = c.in_ok-put_new_edge.ensures in
    let wanted = edge_row c.args.ends.0 c.args.ends.1 c.args.carried.0.now c.args.carried.1.now in
    c.in_default.ensures.fits wanted refl refl
    ∙ small_edge_put (graph_now m w) id wanted row c.in_ok-row.ensures
    ∙ ap Ok (sym (graph_after_edge m w c.requires next put.indexed c.put_new_edge.ensures.cleared id (Some row) put.edges c.put_new_edge.ensures.nodes))

pub returns-clause-stands : goal.returns-clause-stands
returns-clause-stands g c =
    let m = g.G.GraphRead.meaning c.args.graph.now in
    let w = c.args.self.now in
    let id = c.args.id in
    let next = c.put_new_edge.new.self in
    let row = c.in_ok-row.row in
    let put = c.in_ok-put_new_edge.ensures in
    let none : cond {A = ℕ} (is_some (edge_at (graph_now m w) id)) 1 0 ≡ 0 = ap (λ o. cond {A = ℕ} (is_some o) 1 0) c.in_default.ensures.new in
    let count = put.count in
    stands_after_edge m w c.requires next put.indexed c.put_new_edge.ensures.cleared id (Some row) put.edges c.put_new_edge.ensures.nodes (omega arith)

pub returns-clause-lists : goal.returns-clause-lists
returns-clause-lists g c nodes edges own all =
    let m = g.G.GraphRead.meaning c.args.graph.now in
    let w = c.args.self.now in
    let id = c.args.id in
    let next = c.put_new_edge.new.self in
    let row = c.in_ok-row.row in
    let put = c.in_ok-put_new_edge.ensures in
    lists_after_edge m w c.requires next put.indexed c.put_new_edge.ensures.cleared id (Some row) put.edges c.put_new_edge.ensures.nodes nodes edges own all
