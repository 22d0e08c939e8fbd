use Rattle.std.proofs.Common.{◌∙◌, ap, Some}
use Rattle.pgs_width.specs.First.{first_past}
use Rattle.pgs_width.proofs.Least.{found_first}
use Rattle.pgs_width.proofs.first.first_too_wide.Goals as goal

pub returns-in-Some : goal.returns-in-Some
returns-in-Some c =
    ap Some c.in_ok-copy-in-Some.ensures ∙ c.in-Some.ensures ∙ ap (first_past 0) c.deref.ensures.value
    ∙ found_first c.args.resolved.now _ _ c.requires c.in_ok-types.ensures c.in_ok-sort_by_place.ensures.permutation c.in_ok-sort_by_place.ensures.sorted

pub returns : goal.returns
returns c =
    c.in-None.ensures ∙ ap (first_past 0) c.deref.ensures.value
    ∙ found_first c.args.resolved.now _ _ c.requires c.in_ok-types.ensures c.in_ok-sort_by_place.ensures.permutation c.in_ok-sort_by_place.ensures.sorted
