use Rattle.std.proofs.Common.{◌+◌, ◌++◌, ◌∷◌, [], false, map, take, sym, ◌∙◌, ap, arith}
use Rattle.std.specs.List.{flat_map}
use Rattle.std.proofs.lemmas.List.{append_assoc, map-append}
use Rattle.pgs_resolve_keys.specs.Patterns.{Place, places_of_step}
use Rattle.pgs_resolve_keys.specs.Placed.{placed}
use Rattle.pgs_resolve_declared.proofs.Walks.{more_of, all_of}
use Rattle.pgs_resolve_keys.proofs.places.push_path.Goals as goal

pub loop-step-init : goal.loop-step-init
loop-step-init c = ap (map placed) c.in_ok-push.ensures.items ∙ map-append placed _ _

pub loop-step-preserved : goal.loop-step-preserved
loop-step-preserved c =
    let front = map placed c.args.places.now.items in
    let start : Place = record { is_edge = false; at = c.args.path.now.start } in
    let steps = c.as_slice-step-items.result.now in
    let before = c.loop-step.invariant ∙ sym (append_assoc front (start ∷ []) (flat_map places_of_step (take c.loop-step.step-index steps))) in
    more_of places_of_step (front ++ start ∷ []) steps _ _ _ _ (omega arith) c.step-item.is before c.in_ok-push_step.ensures
    ∙ append_assoc front (start ∷ []) (flat_map places_of_step (take (c.loop-step.step-index + 1) steps))

pub returns : goal.returns
returns c =
    let front = map placed c.args.places.now.items in
    let start : Place = record { is_edge = false; at = c.args.path.now.start } in
    let steps = c.as_slice-step-items.result.now in
    let before = c.loop-step.invariant ∙ sym (append_assoc front (start ∷ []) (flat_map places_of_step (take c.loop-step.step-index steps))) in
    all_of places_of_step (front ++ start ∷ []) steps c.args.path.now.steps _ _ (omega arith) c.as_slice-step-items.ensures before
    ∙ append_assoc front (start ∷ []) (flat_map places_of_step c.args.path.now.steps)
