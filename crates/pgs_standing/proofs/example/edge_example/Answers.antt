use Rattle.std.proofs.Common.{◌&&◌, ap, ◌∙◌}
use Rattle.std.proofs.lemmas.Result.{IfOk-weaker}
use Rattle.pgs_conform.specs.Shapes.{in_some, in_some_triple}
use Rattle.pgs_standing.specs.Common.{ends_in}
use Rattle.pgs_standing.specs.Example.{IsFoundTriple, serves_edge}
use Rattle.pgs_standing.specs.Standing.{is_small_triple}
use Rattle.pgs_standing.proofs.Found.{edge_served}
use Rattle.pgs_standing.proofs.example.edge_example.Goals as goal

pub returns : goal.returns
returns c =
    let triples = c.as_slice.result.now in
    let standing = c.as_slice-2.result.now in
    let nodes = c.as_slice-3.result.now in
    IfOk-weaker c.triple_in_lists.result (IsFoundTriple (λ t. is_small_triple t && (in_some_triple triples t && in_some_triple standing t && ends_in nodes t)))
    (IsFoundTriple (serves_edge c.args.schema.now c.args.number))
    (λ answer found. edge_served c.args.schema.now c.args.number triples standing nodes answer
    (λ t triple. ap (λ ts. in_some_triple ts t) c.as_slice.ensures ∙ c.shapes_of_edge.ensures.denote t triple)
    (λ t triple. ap (λ ts. in_some_triple ts t) c.as_slice-2.ensures ∙ c.in_ok-edges.ensures t triple)
    (λ p pair. ap (λ ss. in_some ss p) c.as_slice-3.ensures ∙ c.in_ok-nodes.ensures p pair) found)
    c.triple_in_lists.ensures
