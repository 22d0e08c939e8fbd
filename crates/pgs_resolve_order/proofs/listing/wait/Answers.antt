use Rattle.std.proofs.Common.{cond, [], ◌∷◌, ◌++◌, Some, ◌∙◌, ap, vec_items}
use Rattle.std.specs.BTreeMap.{get}
use Rattle.std.specs.Cmp.Lexicographic.{slice_cmp}
use Rattle.std.specs.Option.{option_map_or}
use Rattle.std.specs.Ordering.{nat_cmp}
use Rattle.pgs_base.specs.Pair.{same_name}
use Rattle.pgs_resolve_order.proofs.Kept.{waits_now}
use Rattle.pgs_resolve_order.proofs.listing.wait.Goals as goal

pub returns : goal.returns
returns c other =
    let mid = c.take_waiting-all.new.waiting in
    ap (λ o. option_map_or vec_items o [])
    (c.in_ok-insert.ensures.updates.0 other
    ∙ ap (λ n. cond (same_name n other) (Some c.push.new.self) (get (slice_cmp nat_cmp) mid other)) c.in_ok-copy.ensures)
    ∙ waits_now c.args.waiting.now mid c.push.new.self c.args.name.now other c.args.pending
    (c.in_ok-push.ensures.items ∙ ap (λ xs. xs ++ c.args.pending ∷ []) c.take_waiting-all.ensures.taken) (c.take_waiting-all.ensures.others other)
