use Rattle.std.proofs.Common.{refl, sym, arith}
use Rattle.pgs_overlay.proofs.Searching.{from_at, above_gap}
use Rattle.pgs_overlay.proofs.search.without_gap.Goals as goal

pub returns-then-edge-found-clause-upper : goal.returns-then-edge-found-clause-upper
returns-then-edge-found-clause-upper g c =
    from_at _ c.at.ensures.ascending c.args.edge c.args.from c.in-Some.found
    (sym c.in-Some.ensures.value) c.if-edge-found.true

pub returns-then-is_below-clause-upper : goal.returns-then-is_below-clause-upper
returns-then-is_below-clause-upper g c =
    let below = c.if-is_below.ensures.lower refl in
    let within = c.facts.ensures in
    above_gap _ c.at.ensures.ascending c.args.edge c.args.from c.in-Some.found
    (sym c.in-Some.ensures.value) c.saturating_add-place.result (omega (arith, c.saturating_add-place.ensures))
    (omega (arith, below.in_range, within, c.saturating_add-place.ensures, c.if-edge-found.false))
