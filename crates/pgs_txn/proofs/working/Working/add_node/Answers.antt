use Rattle.std.proofs.Common.{◌≡◌, ◌∙◌, ap, sym, refl, Ok, Some, ℕ, cond, is_some, arith}
use Rattle.pgs_base.specs.Graph.{node_at}
use Rattle.pgs_base.specs.Pair.{pair_of}
use Rattle.pgs_txn.specs.declared.working.Working.{Working}
use Rattle.pgs_txn.specs.Working.{graph_now}
use Rattle.pgs_txn.proofs.Added.{added_node_from}
use Rattle.pgs_txn.proofs.Standing.{small_node_put, graph_after_node, stands_after_node, lists_after_node}
use Rattle.pgs_txn.proofs.working.Working.add_node.Goals as goal

pub returns-clause-step : goal.returns-clause-step
returns-clause-step g c =
    let m = g.G.GraphRead.meaning c.args.graph.now in
    let w = c.args.self.now in
    let id = c.args.id in
    let next : Working = record { rows = c.put_node.new.self; cleared = w.cleared; count = c.in_ok-self.field-0 } in
    let row = c.in_ok-row.row in
    let put = c.in_ok-put_node.ensures in
    let absent = sym c.has_node.ensures.value ∙ c.if-has_node.false in
    let carried = pair_of c.args.labels.now c.args.props.now in
    added_node_from (graph_now m w) id carried absent
    ∙ small_node_put (graph_now m w) id carried row c.in_ok-row.ensures
    ∙ ap Ok (sym (graph_after_node m w c.requires next put.indexed refl id (Some row) put.nodes c.put_node.ensures.edges))

pub returns-clause-stands : goal.returns-clause-stands
returns-clause-stands g c =
    let m = g.G.GraphRead.meaning c.args.graph.now in
    let w = c.args.self.now in
    let id = c.args.id in
    let next : Working = record { rows = c.put_node.new.self; cleared = w.cleared; count = c.in_ok-self.field-0 } in
    let row = c.in_ok-row.row in
    let put = c.in_ok-put_node.ensures in
    let absent = sym c.has_node.ensures.value ∙ c.if-has_node.false in
    let none : cond {A = ℕ} (is_some (node_at (graph_now m w) id)) 1 0 ≡ 0 = ap (λ b. cond {A = ℕ} b 1 0) absent in
    let count = c.in_ok-self.ensures in
    stands_after_node m w c.requires next put.indexed refl id (Some row) put.nodes c.put_node.ensures.edges (omega arith)

pub returns-clause-lists : goal.returns-clause-lists
returns-clause-lists g c nodes edges own all =
    let m = g.G.GraphRead.meaning c.args.graph.now in
    let w = c.args.self.now in
    let id = c.args.id in
    let next : Working = record { rows = c.put_node.new.self; cleared = w.cleared; count = c.in_ok-self.field-0 } in
    let row = c.in_ok-row.row in
    let put = c.in_ok-put_node.ensures in
    let absent = sym c.has_node.ensures.value ∙ c.if-has_node.false in
    lists_after_node m w c.requires next put.indexed refl id (Some row) put.nodes c.put_node.ensures.edges nodes edges own all
