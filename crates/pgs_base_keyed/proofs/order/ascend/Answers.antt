use Rattle.std.proofs.Common.{ap, sym, ◌∙◌, is_lt}
use Rattle.pgs_base_keyed.proofs.Ordering.{in_order_more, not_in_order, all_in_order}
use Rattle.pgs_base_keyed.proofs.order.ascend.Goals as goal

pub returns-then-not-is_lt : goal.returns-then-not-is_lt
returns-then-not-is_lt g c =
    sym (not_in_order g.K.Ord.cmp c.args.keys.now c.loop-place.place c.index-keys-place.result c.index-keys-place-in-loop-place.result c.loop-place.auto.place c.loop-place-test.true
    c.index-keys-place.is c.index-keys-place-in-loop-place.is (ap is_lt (sym c.cmp.ensures) ∙ sym c.is_lt.ensures ∙ c.if-not-is_lt.true))

pub loop-place-preserved : goal.loop-place-preserved
loop-place-preserved g c =
    in_order_more g.K.Ord.cmp c.args.keys.now c.loop-place.place c.index-keys-place.result c.index-keys-place-in-loop-place.result c.loop-place.auto.place c.loop-place-test.true
    c.index-keys-place.is c.index-keys-place-in-loop-place.is (ap is_lt (sym c.cmp.ensures) ∙ sym c.is_lt.ensures ∙ c.if-not-is_lt.false) c.loop-place.invariant

pub returns : goal.returns
returns g c = sym (all_in_order g.K.Ord.cmp g.met.K.Ord.total c.args.keys.now c.loop-place.place c.loop-place-test.false c.loop-place.invariant)
