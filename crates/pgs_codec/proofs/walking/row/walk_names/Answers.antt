use Rattle.std.proofs.Common.{sym, ◌∙◌, refl}
use Rattle.std.proofs.lemmas.Result.{err_from_is_err_and}
use Rattle.std.specs.Ordering.{nat_cmp}
use Rattle.std.specs.Cmp.Lexicographic.{slice_cmp, nat_list_cmp_total}
use Rattle.std.specs.Option.{option_map}
use Rattle.pgs_base.specs.Order.{ascends}
use Rattle.pgs_codec.specs.Reading.{name_at, tested_at, many_at}
use Rattle.pgs_codec.specs.Unread.{end_of}
use Rattle.pgs_codec.proofs.Walks.{ascent_start, ascent_on, ascent_unread, ascent_falls, ascent_done}
use Rattle.pgs_codec.proofs.walking.row.walk_names.Goals as goal

pub loop-init : goal.loop-init
loop-init c = ascent_start (slice_cmp nat_cmp) name_at nat_list_cmp_total c.args.count 0 c.args.reader.now.rest.now refl

pub returns-in_err-name : goal.returns-in_err-name
returns-in_err-name c =
    let p = err_from_is_err_and c.from_residual.result c.from_residual.ensures.1 in
    rw p.1 (ascent_unread (slice_cmp nat_cmp) name_at (option_map (λ before. before.now) c.loop.before) c.args.count c.loop.counter c.loop.reader.rest.now
    (end_of (tested_at (ascends (slice_cmp nat_cmp)) (many_at name_at c.args.count) c.args.reader.now.rest.now))
    c.loop-test.true c.in_err-name.ensures c.loop.invariant)

pub returns-then-not-is_after : goal.returns-then-not-is_after
returns-then-not-is_after c =
    ascent_falls (slice_cmp nat_cmp) name_at (option_map (λ before. before.now) c.loop.before) c.args.count c.loop.counter c.loop.reader.rest.now
    (end_of (tested_at (ascends (slice_cmp nat_cmp)) (many_at name_at c.args.count) c.args.reader.now.rest.now))
    c.in_ok-name.name.now c.walk_name.new.reader.rest.now c.loop-test.true c.in_ok-name.ensures (sym c.is_after.ensures ∙ c.if-not-is_after.true) c.loop.invariant

pub loop-preserved : goal.loop-preserved
loop-preserved c =
    ascent_on (slice_cmp nat_cmp) name_at (option_map (λ before. before.now) c.loop.before) c.args.count c.loop.counter c.loop.reader.rest.now
    (end_of (tested_at (ascends (slice_cmp nat_cmp)) (many_at name_at c.args.count) c.args.reader.now.rest.now))
    c.in_ok-name.name.now c.walk_name.new.reader.rest.now c.loop-test.true c.in_ok-name.ensures (sym c.is_after.ensures ∙ c.if-not-is_after.false) c.loop.invariant

pub returns : goal.returns
returns c =
    ascent_done (slice_cmp nat_cmp) name_at (option_map (λ before. before.now) c.loop.before) c.args.count c.loop.counter c.loop.reader.rest.now
    (end_of (tested_at (ascends (slice_cmp nat_cmp)) (many_at name_at c.args.count) c.args.reader.now.rest.now))
    c.loop-test.false c.loop.invariant
