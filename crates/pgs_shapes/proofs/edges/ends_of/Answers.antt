use Rattle.std.proofs.Common.{◌&&◌, ◌∙◌, ap, arith}
use Rattle.std.specs.List.{list_any}
use Rattle.std.proofs.lemmas.List.{take_all}
use Rattle.pgs_syntax.specs.Join.{is_empty_pair}
use Rattle.pgs_conform.specs.Shapes.{in_shape, in_some, in_some_triple}
use Rattle.pgs_shapes.proofs.Ended.{some_source}
use Rattle.pgs_shapes.proofs.edges.ends_of.Goals as goal

pub returns-clause-denote : goal.returns-clause-denote
returns-clause-denote c = λ t.
    let sources = c.args.sources.now in
    let last = in_some c.args.targets.now t.target in
    ap (λ triples. in_some_triple triples t) c.from_vec.ensures ∙ c.loop-source.invariant.denote t
    ∙ ap (list_any (λ source. in_shape source t.source && is_empty_pair t.own && last)) (take_all c.loop-source.source-index sources (omega arith))
    ∙ some_source sources (is_empty_pair t.own) last t.source
