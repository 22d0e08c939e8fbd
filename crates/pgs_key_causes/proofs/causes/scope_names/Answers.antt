use Rattle.std.proofs.Common.{map, ap, ◌∙◌}
use Rattle.std.proofs.lemmas.Result.{IfOk-weaker}
use Rattle.pgs_resolve_keys.specs.Patterns.{places_of, named_in}
use Rattle.pgs_resolve_keys.specs.Placed.{placed}
use Rattle.pgs_key_causes.proofs.causes.scope_names.Goals as goal

pub returns : goal.returns
returns c =
    IfOk-weaker c.named_in.result _ _
    (λ names e. e ∙ ap named_in (ap (map placed) c.deref.ensures.value ∙ c.in_ok-places.ensures ∙ ap places_of c.as_slice.ensures))
    c.named_in.ensures
