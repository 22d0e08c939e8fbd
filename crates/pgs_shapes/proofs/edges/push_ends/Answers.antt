use Rattle.std.proofs.Common.{◌&&◌, ◌||◌, length, ◌∷◌, [], ◌∙◌, ap, arith, length-append}
use Rattle.std.specs.List.{list_any}
use Rattle.std.proofs.lemmas.List.{take_all}
use Rattle.pgs_syntax.specs.Join.{is_empty_pair}
use Rattle.pgs_conform.specs.declared.shape.Triple.{Triple as ShapeTriple}
use Rattle.pgs_conform.specs.Shapes.{in_shape, in_triple, in_some_triple}
use Rattle.pgs_product.proofs.Walks.{item_more}
use Rattle.pgs_shapes.proofs.Ended.{some_target}
use Rattle.pgs_shapes.proofs.edges.push_ends.Goals as goal

pub loop-target-preserved : goal.loop-target-preserved
loop-target-preserved c =
    let source = c.args.source.now in
    let target = c.target-item.result in
    let middle = c.empty_shape.result in
    let item : ShapeTriple = record { source = c.in_ok-source.source; middle = middle; target = c.in_ok-target.target } in
    record {
      denote = λ t.
          item_more (λ triple. in_triple triple t) (λ other. in_shape source t.source && is_empty_pair t.own && in_shape other t.target)
          (in_some_triple c.args.ends.now.items t) c.args.targets.now c.loop-target.target-index target c.loop-target.ends.items _ item
          c.loop-target-test.true c.target-item.is (c.loop-target.invariant.denote t)
          (ap (λ first. first && in_shape middle t.own && in_shape c.in_ok-target.target t.target) (c.in_ok-source.ensures t.source)
          ∙ ap (λ own. in_shape source t.source && own && in_shape c.in_ok-target.target t.target) (c.empty_shape.ensures t.own)
          ∙ ap (λ last. in_shape source t.source && is_empty_pair t.own && last) (c.in_ok-target.ensures t.target))
          c.in_ok-push.ensures.items;
      count =
          let longer = ap length c.in_ok-push.ensures.items ∙ length-append c.loop-target.ends.items (item ∷ []) in
          omega (arith, longer, c.loop-target.invariant.count);
    }

pub returns-clause-denote : goal.returns-clause-denote
returns-clause-denote c = λ t.
    let source = c.args.source.now in
    let targets = c.args.targets.now in
    c.loop-target.invariant.denote t
    ∙ ap (λ b. in_some_triple c.args.ends.now.items t || b)
    (ap (list_any (λ other. in_shape source t.source && is_empty_pair t.own && in_shape other t.target)) (take_all c.loop-target.target-index targets (omega arith))
    ∙ some_target targets (in_shape source t.source && is_empty_pair t.own) t.target)
