use Rattle.std.proofs.Common.{◌++◌, ◌∷◌, [], true, List, ap, ◌∙◌, arith}
use Rattle.std.specs.List.{flat_map}
use Rattle.pgs_syntax.specs.declared.raw.RawStep.{RawStep}
use Rattle.pgs_key_causes.proofs.Places.{one_more_path}
use Rattle.pgs_key_causes.proofs.written.directions_of.Goals as goal

pub loop-path-preserved : goal.loop-path-preserved
loop-path-preserved c =
    one_more_path c.args.paths.now c.loop-path.path-index c.path-item.result c.loop-path.directions.items c.push.new.self.items c.push_directions.new.directions.items
    (omega arith) c.path-item.is c.loop-path.invariant c.in_ok-push.ensures.items
    (c.in_ok-push_directions.ensures
    ∙ ap (λ (steps : List RawStep). c.push.new.self.items ++ flat_map (λ (step : RawStep). step.forward ∷ true ∷ []) steps) c.as_slice.ensures)
