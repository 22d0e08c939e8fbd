use Rattle.std.proofs.Common.{◌*◌, length, ◌∙◌, ap}
use Rattle.std.proofs.lemmas.Result.{IfOk-weaker}
use Rattle.pgs_syntax.specs.Join.{of_triples, joined}
use Rattle.pgs_conform.specs.Shapes.{in_some_triple}
use Rattle.pgs_shapes.proofs.Counted.{product_within}
use Rattle.pgs_shapes.proofs.Ended.{edge_denotes}
use Rattle.pgs_shapes.proofs.edges.triples_of_edge.Goals as goal

pub returns-clause-denote : goal.returns-clause-denote
returns-clause-denote c =
    let ends = c.in_ok-ends.ends in
    let middles = c.in_ok-middles.middles in
    IfOk-weaker c.triple_products.result _ _
    (λ triples denote source_valid middle_valid target_valid resolved nodes test named.
    edge_denotes resolved test c.args.edge.now ends middles triples (c.in_ok-ends.ensures.denote source_valid target_valid resolved nodes)
    (c.in_ok-middles.ensures.denote middle_valid test named)
    (λ t pairs. denote t pairs
    ∙ ap (λ lent. joined of_triples (in_some_triple lent) (in_some_triple c.as_slice-2.result.now) t) c.as_slice.ensures
    ∙ ap (λ lent. joined of_triples (in_some_triple ends) (in_some_triple lent) t) c.as_slice-2.ensures)) c.triple_products.ensures.denote

pub returns-clause-within : goal.returns-clause-within
returns-clause-within c =
    let ends = c.in_ok-ends.ends in
    let lists = ap (λ triples. length triples * length c.as_slice-2.result.now) c.as_slice.ensures ∙ ap (λ triples. length ends * length triples) c.as_slice-2.ensures in
    IfOk-weaker c.triple_products.result _ _
    (λ triples count widths before nodes named. product_within (length ends) (length c.in_ok-middles.middles) _ _ _ _ (c.in_ok-ends.ensures.within widths nodes)
    (c.in_ok-middles.ensures.within before named) (count ∙ lists)) c.triple_products.ensures.count
