use Rattle.std.proofs.Common.{◌≡◌, List, ℕ, map, subst}
use Rattle.std.specs.Prelude.{IfOk}
use Rattle.pgs_schema_places.proofs.Keyed.{places_through}
use Rattle.pgs_schema_places.proofs.guard_texts.script_places.Goals as goal

pub returns : goal.returns
returns c script are =
    subst (λ (ys : List ℕ). IfOk c.places_of.result (λ places. places.items ≡ ys))
    (places_through c.deref.result.now c.args.declarations.now.graphs.items _ c.deref.ensures.value are.graphs) c.places_of.ensures
