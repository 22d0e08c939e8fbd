use Rattle.std.proofs.Common.{sym}
use Rattle.pgs_overlay.proofs.Searching.{stands_before_other, stands_last}
use Rattle.pgs_overlay.proofs.search.search.Goals as goal

pub returns-in_default-clause-place : goal.returns-in_default-clause-place
returns-in_default-clause-place g c =
    let place = c.lower_bound-place.ensures in
    stands_before_other _ c.at.ensures.ascending
    c.args.edge c.lower_bound-place.result place.in_range place.lower place.upper c.in-Some.found (sym c.in-Some.ensures.value) c.if-found-edge.false

pub returns-in_default-2-clause-place : goal.returns-in_default-2-clause-place
returns-in_default-2-clause-place g c =
    let place = c.lower_bound-place.ensures in
    stands_last _ c.at.ensures.ascending
    c.args.edge c.lower_bound-place.result place.in_range place.lower place.upper (sym c.in_default.ensures.value)
