use Rattle.std.proofs.Common.{[], refl, ◌∙◌, arith}
use Rattle.pgs_resolve_keys.specs.declared.places.PlaceRef.{PlaceRef}
use Rattle.pgs_resolve_keys.specs.Patterns.{Place}
use Rattle.pgs_resolve_keys.specs.Placed.{placed}
use Rattle.pgs_resolve_declared.proofs.Walks.{more_kept, all_kept, kept_through}
use Rattle.pgs_resolve_keys.proofs.places.named_in.Goals as goal

pub loop-place-preserved : goal.loop-place-preserved
loop-place-preserved c =
    more_kept (λ (place : PlaceRef). place.at.now.var) [] c.args.places.now _ _ _ _ (omega arith) c.place-item.is c.loop-place.invariant c.in_ok-push_named.ensures

pub returns : goal.returns
returns c =
    all_kept (λ (place : PlaceRef). place.at.now.var) [] c.args.places.now c.args.places.now _ _ (omega arith) refl c.loop-place.invariant
    ∙ kept_through placed (λ (place : Place). place.at.var) c.args.places.now
