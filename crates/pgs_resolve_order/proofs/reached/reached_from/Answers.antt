use Rattle.std.proofs.Common.{◌≡◌, get_or, sym, ◌∙◌, arith}
use Rattle.std.proofs.lemmas.Grind.{common_steps}
use Rattle.pgs_resolve_order.proofs.Reaching.{follow_more, all_led}
use Rattle.pgs_resolve_order.proofs.reached.reached_from.Goals as goal

pub loop-place-preserved : goal.loop-place-preserved
loop-place-preserved c =
    let rows = c.args.rows.now in
    let seen = c.loop-place.seen.items in
    let reached = c.loop-place.reached.items in
    let place = c.loop-place.place in
    let before = c.loop-place.invariant in
    let from : get_or reached place 0 ≡ c.index-from.result.now = grind (arith, common_steps) in
    let row = c.in_ok-see_row.ensures in
    let all = row.reached c.args.start place before.reached (omega arith) from in
    let longer = row.places.longer in
    record {
      reached = all;
      within = omega (arith, longer);
      followed = follow_more rows seen c.see_row.new.seen.items reached c.see_row.new.reached.items place c.index-from.result.now (all.len ∙ sym before.reached.len) (omega arith)
          from row.seen row.places row.all before.followed;
    }

pub returns : goal.returns
returns c = all_led c.args.rows.now c.args.start c.loop-place.seen.items c.loop-place.reached.items c.loop-place.invariant.reached (λ k l. c.loop-place.invariant.followed k (omega arith))
