use Rattle.std.proofs.Common.{List, map, ap, ◌∙◌, arith}
use Rattle.std.proofs.lemmas.List.{take_all}
use Rattle.pgs_resolve_keys.specs.declared.places.PlaceRef.{PlaceRef}
use Rattle.pgs_resolve_keys.specs.Placed.{placed}
use Rattle.pgs_key_causes.specs.Fronts.{occurrences_by}
use Rattle.pgs_key_causes.proofs.Places.{one_more_place}
use Rattle.pgs_key_causes.proofs.written.occurrences_by.Goals as goal

pub loop-number-preserved : goal.loop-number-preserved
loop-number-preserved c held holds =
    one_more_place held c.args.places.now c.loop-number.number c.index-places-number.result c.loop-number.occurrences.items c.push.new.self.items _ (omega arith)
    c.index-places-number.is (c.loop-number.invariant held holds) (ap (λ n. record { var = n; is_edge = c.index-places-number.result.is_edge }) (c.number.ensures held holds))
    c.in_ok-push.ensures.items

pub returns : goal.returns
returns c held holds =
    c.loop-number.invariant held holds
    ∙ ap (λ (places : List PlaceRef). occurrences_by held (map placed places)) (take_all c.loop-number.number c.args.places.now (omega arith))
