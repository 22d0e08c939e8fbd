use Rattle.std.proofs.Common.{◌≤◌, ◌∙◌, ap, sym, arith, length}
use Rattle.pgs_base.specs.Graph.{element_count}
use Rattle.pgs_graph.specs.Changed.{is_sound}
use Rattle.pgs_violation.specs.Staging.{after_ops}
use Rattle.pgs_violation.proofs.StagedGraph.{staged_graph}
use Rattle.pgs_txn.specs.Working.{graph_now}
use Rattle.pgs_txn.proofs.Staged.{staged_is, sound_delta}
use Rattle.pgs_txn.proofs.staging.stage.Goals as goal

pub returns-clause-sound : goal.returns-clause-sound
returns-clause-sound g c =
    let m = g.G.GraphRead.meaning c.args.graph.now in
    let w = c.in_ok-working.working in
    let stands = c.in_ok-working.ensures.stands in
    let counted = stands.count in
    let len = c.len-count.ensures in
    let limit = c.from.ensures in
    let upto = c.if-count-from.false in
    let few : length c.args.txn.now.ops ≤ c.args.limits.now.ops = omega arith in
    let within = c.if-count-limits.false in
    let small : element_count (graph_now m w) ≤ c.args.limits.now.elements = omega arith in
    ap (λ delta. is_sound m delta) c.in_ok-into_delta.ensures
    ∙ sound_delta m w stands
    (staged_graph c.args.limits.now m (graph_now m w) c.args.txn.now c.facts.ensures
    (staged_is c.args.limits.now m (graph_now m w) c.args.txn.now few (ap (after_ops m 1) (sym c.as_slice.ensures) ∙ c.in_ok-working.ensures.done) small) stands.base)
