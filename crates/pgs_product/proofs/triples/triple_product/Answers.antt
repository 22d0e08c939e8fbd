use Rattle.std.proofs.Common.{◌&&◌, ◌∙◌, ap}
use Rattle.std.proofs.lemmas.Bool.{and_parts}
use Rattle.pgs_syntax.specs.Join.{of_pairs, joined}
use Rattle.pgs_conform.specs.Shapes.{in_shape}
use Rattle.pgs_product.proofs.Joins.{joined_at_each}
use Rattle.pgs_product.proofs.triples.triple_product.Goals as goal

pub returns : goal.returns
returns c = λ t pairs.
    let a = c.args.first.now in
    let b = c.args.second.now in
    let outer = and_parts _ _ pairs in
    let inner = and_parts _ _ outer.0 in
    ap (λ first. first && in_shape c.in_ok-middle.middle t.own && in_shape c.in_ok-target.target t.target) (c.in_ok-source.ensures t.source inner.0)
    ∙ ap (λ own. joined of_pairs (in_shape a.source) (in_shape b.source) t.source && own && in_shape c.in_ok-target.target t.target)
    (c.in_ok-middle.ensures t.own inner.1)
    ∙ ap (λ last. joined of_pairs (in_shape a.source) (in_shape b.source) t.source && joined of_pairs (in_shape a.middle) (in_shape b.middle) t.own && last)
    (c.in_ok-target.ensures t.target outer.1)
    ∙ joined_at_each (in_shape a.source) (in_shape a.middle) (in_shape a.target) (in_shape b.source) (in_shape b.middle) (in_shape b.target) t pairs
