use Rattle.std.proofs.Common.{◌≤◌, length}
use Rattle.std.proofs.lemmas.Result.{IfOk-weaker}
use Rattle.pgs_syntax.specs.Fitting.{suits}
use Rattle.pgs_syntax.specs.Join.{of_pairs}
use Rattle.pgs_syntax.specs.Valid.{is_valid_spec}
use Rattle.pgs_syntax.specs.Width.{width_of}
use Rattle.pgs_conform.specs.Counts.{AreWithin}
use Rattle.pgs_conform.specs.Shapes.{in_shape, Denotes}
use Rattle.pgs_conform.specs.Standing.{EachDenotes}
use Rattle.pgs_product.proofs.Joins.{IsGood, pairs_lawful}
use Rattle.pgs_shapes.proofs.Counted.{and_within, or_within, opt_within}
use Rattle.pgs_shapes.proofs.Forms.{one_of_all, zip_more, and_answers, or_answers, opt_answers}
use Rattle.pgs_shapes.proofs.specification.+shapes.Goals as goal

pub shapes_of-returns-in_ok-lists-in-And-clause-denote : goal.shapes_of-returns-in_ok-lists-in-And-clause-denote
shapes_of-returns-in_ok-lists-in-And-clause-denote t c =
    let named = c.args.named.now in
    IfOk-weaker c.product_of_all.result _ _
    (and_answers of_pairs IsGood pairs_lawful in_shape (length named) (EachDenotes named) c.args.spec.now c.in-And.parts c.as_slice.result.now c.in_ok-lists-in-And.lists.items _
    c.in-And.is c.as_slice.ensures c.deref.ensures.value c.in_ok-lists-in-And.ensures.denote) c.product_of_all.ensures.denote

pub shapes_of-returns-in_ok-lists-in-Or-clause-denote : goal.shapes_of-returns-in_ok-lists-in-Or-clause-denote
shapes_of-returns-in_ok-lists-in-Or-clause-denote t c =
    let named = c.args.named.now in
    IfOk-weaker c.concat.result _ _
    (or_answers of_pairs IsGood pairs_lawful in_shape (length named) (EachDenotes named) c.args.spec.now c.in-Or.parts c.as_slice-in-Or.result.now c.in_ok-lists-in-Or.lists.items
    c.in-Or.is c.as_slice-in-Or.ensures c.in_ok-lists-in-Or.ensures.denote) c.concat.ensures

pub shapes_of-returns-in_ok-shapes-in-Opt-clause-denote : goal.shapes_of-returns-in_ok-shapes-in-Opt-clause-denote
shapes_of-returns-in_ok-shapes-in-Opt-clause-denote t c =
    let named = c.args.named.now in
    IfOk-weaker c.with_empty.result _ _
    (opt_answers of_pairs IsGood pairs_lawful in_shape (length named) (EachDenotes named) c.args.spec.now c.in-Opt.part c.get.result.now c.in_ok-shapes-in-Opt.shapes
    c.in-Opt.is c.get.ensures c.in_ok-shapes-in-Opt.ensures.denote) c.with_empty.ensures.denote

pub shapes_of-returns-in_ok-lists-in-And-clause-within : goal.shapes_of-returns-in_ok-lists-in-And-clause-within
shapes_of-returns-in_ok-lists-in-And-clause-within t c =
    IfOk-weaker c.product_of_all.result _ _
    (and_within (λ widths. AreWithin widths c.args.named.now) c.args.spec.now c.in-And.parts c.as_slice.result.now c.in_ok-lists-in-And.lists.items _
    c.in-And.is c.as_slice.ensures c.deref.ensures.value c.in_ok-lists-in-And.ensures.within) c.product_of_all.ensures.count

pub shapes_of-returns-in_ok-lists-in-Or-clause-within : goal.shapes_of-returns-in_ok-lists-in-Or-clause-within
shapes_of-returns-in_ok-lists-in-Or-clause-within t c =
    IfOk-weaker c.concat.result _ _
    (or_within (λ widths. AreWithin widths c.args.named.now) c.args.spec.now c.in-Or.parts c.as_slice-in-Or.result.now c.in_ok-lists-in-Or.lists.items
    c.in-Or.is c.as_slice-in-Or.ensures c.in_ok-lists-in-Or.ensures.within) c.concat.ensures

pub shapes_of-returns-in_ok-shapes-in-Opt-clause-within : goal.shapes_of-returns-in_ok-shapes-in-Opt-clause-within
shapes_of-returns-in_ok-shapes-in-Opt-clause-within t c =
    IfOk-weaker c.with_empty.result _ _
    (opt_within (λ widths. AreWithin widths c.args.named.now) c.args.spec.now c.in-Opt.part c.get.result.now c.in_ok-shapes-in-Opt.shapes
    c.in-Opt.is c.get.ensures c.in_ok-shapes-in-Opt.ensures.within) c.with_empty.ensures.count

pub shapes_of_each-loop-part-preserved : goal.shapes_of_each-loop-part-preserved
shapes_of_each-loop-part-preserved t c =
    let parts = c.args.parts.now in
    let i = c.loop-part.part-index in
    let part = c.part-item.result in
    let old = c.loop-part.lists.items in
    let new = c.push.new.self.items in
    let list = c.in_ok-shapes.shapes in
    record {
      denote = λ valid test each.
          let own_valid = one_of_all (is_valid_spec (length c.args.named.now)) parts i part valid c.loop-part-test.true c.part-item.is in
          zip_more (λ spec shapes. Denotes shapes (suits of_pairs test spec)) parts i part old new list
          c.loop-part-test.true c.part-item.is (c.loop-part.invariant.denote valid test each) (c.in_ok-shapes.ensures.denote own_valid test each) c.in_ok-push.ensures.items;
      within = λ widths all.
          zip_more (λ spec one. length one ≤ (width_of widths spec).count) parts i part old new list c.loop-part-test.true c.part-item.is
          (c.loop-part.invariant.within widths all) (c.in_ok-shapes.ensures.within widths all) c.in_ok-push.ensures.items;
    }
