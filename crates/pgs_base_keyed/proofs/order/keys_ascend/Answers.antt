use Rattle.std.proofs.Common.{◌-◌, ◌<◌, ◌≤◌, length, ap, sym, ◌∙◌, get_or, is_lt, arith}
use Rattle.std.specs.Map.{keys_of}
use Rattle.pgs_base_keyed.proofs.Ordering.{in_order_more, not_in_order, all_in_order, key_at, keys_length}
use Rattle.pgs_base_keyed.proofs.order.keys_ascend.Goals as goal

pub returns-then-not-is_lt : goal.returns-then-not-is_lt
returns-then-not-is_lt g c =
    let rows = c.args.rows.now in
    let place = c.loop-place.place in
    let before : place - 1 < length rows = omega arith in
    let within : place < length (keys_of rows) = omega (arith, keys_length rows) in
    sym (not_in_order g.K.Ord.cmp (keys_of rows) place (get_or rows (place - 1) c.index-rows-place.result).0 (get_or rows place c.index-rows-place-in-loop-place.result).0
    c.loop-place.auto.place within (key_at rows (place - 1) c.index-rows-place.result before) (key_at rows place c.index-rows-place-in-loop-place.result c.loop-place-test.true)
    (ap is_lt (sym c.cmp.ensures) ∙ sym c.is_lt.ensures ∙ c.if-not-is_lt.true))

pub loop-place-preserved : goal.loop-place-preserved
loop-place-preserved g c =
    let rows = c.args.rows.now in
    let place = c.loop-place.place in
    let before : place - 1 < length rows = omega arith in
    let within : place < length (keys_of rows) = omega (arith, keys_length rows) in
    in_order_more g.K.Ord.cmp (keys_of rows) place (get_or rows (place - 1) c.index-rows-place.result).0 (get_or rows place c.index-rows-place-in-loop-place.result).0
    c.loop-place.auto.place within (key_at rows (place - 1) c.index-rows-place.result before) (key_at rows place c.index-rows-place-in-loop-place.result c.loop-place-test.true)
    (ap is_lt (sym c.cmp.ensures) ∙ sym c.is_lt.ensures ∙ c.if-not-is_lt.false) c.loop-place.invariant

pub returns : goal.returns
returns g c =
    let past : length (keys_of c.args.rows.now) ≤ c.loop-place.place = omega (arith, keys_length c.args.rows.now) in
    sym (all_in_order g.K.Ord.cmp g.met.K.Ord.total (keys_of c.args.rows.now) c.loop-place.place past c.loop-place.invariant)
