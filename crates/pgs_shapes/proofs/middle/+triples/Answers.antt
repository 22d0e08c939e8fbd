use Rattle.std.proofs.Common.{◌≤◌, length, sym, ◌∙◌, ap}
use Rattle.std.proofs.lemmas.Bool.{and_parts}
use Rattle.std.proofs.lemmas.Result.{IfOk-weaker}
use Rattle.pgs_syntax.specs.Fitting.{suits, is_braced}
use Rattle.pgs_syntax.specs.Join.{of_triples}
use Rattle.pgs_syntax.specs.Valid.{is_valid_spec}
use Rattle.pgs_syntax.specs.Width.{width_of}
use Rattle.pgs_conform.specs.Counts.{AreWithin}
use Rattle.pgs_conform.specs.Shapes.{in_triple, DenotesTriples}
use Rattle.pgs_conform.specs.Standing.{EachDenotesTriples}
use Rattle.pgs_product.proofs.Joins.{IsGoodTriple, triples_lawful}
use Rattle.pgs_shapes.proofs.Counted.{and_within, or_within, opt_within}
use Rattle.pgs_shapes.proofs.Forms.{one_of_all, zip_more, and_answers, or_answers, opt_answers}
use Rattle.pgs_shapes.proofs.Middles.{asked_of_middle}
use Rattle.pgs_shapes.proofs.middle.+triples.Goals as goal

pub triples_of-returns-in_ok-shape-in-Braces-clause-denote : goal.triples_of-returns-in_ok-shape-in-Braces-clause-denote
triples_of-returns-in_ok-shape-in-Braces-clause-denote t c =
    let bound = length c.args.named.now in
    let shape = c.in_ok-shape-in-Braces.shape in
    IfOk-weaker c.one-in-Braces.result _ _
    (λ triples is valid test each t' pairs.
    let own = (and_parts _ _ (and_parts _ _ pairs).0).1 in
    asked_of_middle triples c.middle_triple-in-Braces.result shape (is_braced c.in-Braces.braces) t' is (c.middle_triple-in-Braces.ensures t')
    (c.in_ok-shape-in-Braces.ensures (ap (is_valid_spec bound) (sym c.in-Braces.is) ∙ valid) t'.own own)
    ∙ ap (λ spec. suits of_triples test spec t') (sym c.in-Braces.is)) c.one-in-Braces.ensures

pub triples_of-returns-in_ok-lists-in-And-clause-denote : goal.triples_of-returns-in_ok-lists-in-And-clause-denote
triples_of-returns-in_ok-lists-in-And-clause-denote t c =
    let named = c.args.named.now in
    IfOk-weaker c.triple_product_of_all.result _ _
    (and_answers of_triples IsGoodTriple triples_lawful in_triple (length named) (EachDenotesTriples named) c.args.spec.now c.in-And.parts c.as_slice.result.now c.in_ok-lists-in-And.lists.items _
    c.in-And.is c.as_slice.ensures c.deref.ensures.value c.in_ok-lists-in-And.ensures.denote) c.triple_product_of_all.ensures.denote

pub triples_of-returns-in_ok-lists-in-Or-clause-denote : goal.triples_of-returns-in_ok-lists-in-Or-clause-denote
triples_of-returns-in_ok-lists-in-Or-clause-denote t c =
    let named = c.args.named.now in
    IfOk-weaker c.concat.result _ _
    (or_answers of_triples IsGoodTriple triples_lawful in_triple (length named) (EachDenotesTriples named) c.args.spec.now c.in-Or.parts c.as_slice-in-Or.result.now c.in_ok-lists-in-Or.lists.items
    c.in-Or.is c.as_slice-in-Or.ensures c.in_ok-lists-in-Or.ensures.denote) c.concat.ensures

pub triples_of-returns-in_ok-triples-in-Opt-clause-denote : goal.triples_of-returns-in_ok-triples-in-Opt-clause-denote
triples_of-returns-in_ok-triples-in-Opt-clause-denote t c =
    let named = c.args.named.now in
    IfOk-weaker c.with_empty.result _ _
    (opt_answers of_triples IsGoodTriple triples_lawful in_triple (length named) (EachDenotesTriples named) c.args.spec.now c.in-Opt.part c.get.result.now c.in_ok-triples-in-Opt.triples
    c.in-Opt.is c.get.ensures c.in_ok-triples-in-Opt.ensures.denote) c.with_empty.ensures.denote

pub triples_of-returns-in_ok-lists-in-And-clause-within : goal.triples_of-returns-in_ok-lists-in-And-clause-within
triples_of-returns-in_ok-lists-in-And-clause-within t c =
    IfOk-weaker c.triple_product_of_all.result _ _
    (and_within (λ widths. AreWithin widths c.args.named.now) c.args.spec.now c.in-And.parts c.as_slice.result.now c.in_ok-lists-in-And.lists.items _
    c.in-And.is c.as_slice.ensures c.deref.ensures.value c.in_ok-lists-in-And.ensures.within) c.triple_product_of_all.ensures.count

pub triples_of-returns-in_ok-lists-in-Or-clause-within : goal.triples_of-returns-in_ok-lists-in-Or-clause-within
triples_of-returns-in_ok-lists-in-Or-clause-within t c =
    IfOk-weaker c.concat.result _ _
    (or_within (λ widths. AreWithin widths c.args.named.now) c.args.spec.now c.in-Or.parts c.as_slice-in-Or.result.now c.in_ok-lists-in-Or.lists.items
    c.in-Or.is c.as_slice-in-Or.ensures c.in_ok-lists-in-Or.ensures.within) c.concat.ensures

pub triples_of-returns-in_ok-triples-in-Opt-clause-within : goal.triples_of-returns-in_ok-triples-in-Opt-clause-within
triples_of-returns-in_ok-triples-in-Opt-clause-within t c =
    IfOk-weaker c.with_empty.result _ _
    (opt_within (λ widths. AreWithin widths c.args.named.now) c.args.spec.now c.in-Opt.part c.get.result.now c.in_ok-triples-in-Opt.triples
    c.in-Opt.is c.get.ensures c.in_ok-triples-in-Opt.ensures.within) c.with_empty.ensures.count

pub triples_of_each-loop-part-preserved : goal.triples_of_each-loop-part-preserved
triples_of_each-loop-part-preserved t c =
    let parts = c.args.parts.now in
    let i = c.loop-part.part-index in
    let part = c.part-item.result in
    let old = c.loop-part.lists.items in
    let new = c.push.new.self.items in
    let list = c.in_ok-triples.triples in
    record {
      denote = λ valid test each.
          let own_valid = one_of_all (is_valid_spec (length c.args.named.now)) parts i part valid c.loop-part-test.true c.part-item.is in
          zip_more (λ spec shapes. DenotesTriples shapes (suits of_triples test spec)) parts i part old new list
          c.loop-part-test.true c.part-item.is (c.loop-part.invariant.denote valid test each) (c.in_ok-triples.ensures.denote own_valid test each) c.in_ok-push.ensures.items;
      within = λ widths all.
          zip_more (λ spec one. length one ≤ (width_of widths spec).count) parts i part old new list c.loop-part-test.true c.part-item.is
          (c.loop-part.invariant.within widths all) (c.in_ok-triples.ensures.within widths all) c.in_ok-push.ensures.items;
    }
