use Rattle.std.proofs.Common.{◌+◌, Bool, List, get_or, take, sym, ◌∙◌, ap, subst, arith}
use Rattle.pgs_resolve_order.specs.Links.{is_set}
use Rattle.pgs_resolve_order.specs.Reached.{AreSeen, StayReached}
use Rattle.pgs_resolve_order.proofs.Reaching.{sees, same_reached, a_link, seen_more, set_stays, stay_more}
use Rattle.pgs_resolve_order.proofs.reached.see_row.Goals as goal

pub loop-next-preserved : goal.loop-next-preserved
loop-next-preserved c =
    let rows = c.args.rows.now in
    let seen = c.loop-next.seen.items in
    let reached = c.loop-next.reached.items in
    let items = c.row_at-next-items.result.now in
    let i = c.loop-next.next-index in
    let next = get_or items i 0 in
    let before = c.loop-next.invariant in
    let flags = c.in_ok-see.ensures.seen in
    let numbers = c.in_ok-see.ensures.reached in
    let longer = before.places.longer in
    record {
      reached = λ start place h l e.
          same_reached rows start _ c.see.new.seen.items _ c.see.new.reached.items
          (sees rows start seen reached (before.reached start place h l e) place c.args.from next (omega (arith, l, longer)) (before.places.kept place l ∙ e)
          (a_link rows items c.args.from i c.row_at-next-items.ensures c.loop-next-test.true))
          flags numbers;
      all = subst (λ (s : List Bool). AreSeen s (take (i + 1) items)) (sym flags) (seen_more seen items i c.loop-next-test.true before.all);
      seen = λ number was. ap (λ (s : List Bool). is_set s number) flags ∙ set_stays seen next number (before.seen number was);
      places = subst (StayReached c.args.reached.now.items) (sym numbers) (stay_more c.args.reached.now.items reached seen next before.places);
    }
