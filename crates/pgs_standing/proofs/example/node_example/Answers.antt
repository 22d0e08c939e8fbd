use Rattle.std.proofs.Common.{◌&&◌, ap, ◌∙◌}
use Rattle.std.proofs.lemmas.Result.{IfOk-weaker}
use Rattle.pgs_conform.specs.Shapes.{in_some}
use Rattle.pgs_standing.specs.Example.{IsFoundPair, serves_node}
use Rattle.pgs_standing.specs.Standing.{is_small}
use Rattle.pgs_standing.proofs.Found.{node_served}
use Rattle.pgs_standing.proofs.example.node_example.Goals as goal

pub returns : goal.returns
returns c =
    let shapes = c.as_slice.result.now in
    let standing = c.as_slice-2.result.now in
    IfOk-weaker c.plain_in_lists.result (IsFoundPair (λ p. is_small p && (in_some shapes p && in_some standing p))) (IsFoundPair (serves_node c.args.schema.now c.args.number))
    (λ answer found. node_served c.args.schema.now c.args.number shapes standing answer
    (λ p pair. ap (λ ss. in_some ss p) c.as_slice.ensures ∙ c.shapes_of_node.ensures.denote p pair)
    (λ p pair. ap (λ ss. in_some ss p) c.as_slice-2.ensures ∙ c.in_ok-standing.ensures p pair) found)
    c.plain_in_lists.ensures
