use Rattle.std.proofs.Common.{sym, ◌∙◌, ap}
use Rattle.std.specs.Map.{keys_of}
use Rattle.pgs_graph.specs.Reads.{out_edges_of, in_edges_of}
use Rattle.pgs_check.specs.Untyped.{is_untyped_edge, least_edge}
use Rattle.pgs_check.proofs.Least.{still_settled}
use Rattle.pgs_check.proofs.Steps.{least_append}
use Rattle.pgs_check.proofs.untyped.least_at.Goals as goal

pub least_along-requires : goal.least_along-requires
least_along-requires g c =
    let graph = g.G.GraphRead.meaning c.args.graph.now in
    still_settled (is_untyped_edge c.args.compiled.now graph) (keys_of c.args.tested.now) c.args.found c.least_along-outgoing.result (out_edges_of graph c.args.node)
    c.requires c.least_along-outgoing.ensures.least

pub returns-clause-least : goal.returns-clause-least
returns-clause-least g c =
    let graph = g.G.GraphRead.meaning c.args.graph.now in
    let test = is_untyped_edge c.args.compiled.now graph in
    c.least_along.ensures.least
    ∙ ap (λ found. least_edge test found (in_edges_of graph c.args.node)) c.least_along-outgoing.ensures.least
    ∙ sym (least_append test c.args.found (out_edges_of graph c.args.node) (in_edges_of graph c.args.node))
