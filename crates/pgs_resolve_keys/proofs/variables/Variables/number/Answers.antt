use Rattle.std.proofs.Common.{ℕ, List, Option, sym, ◌∙◌, ap}
use Rattle.std.specs.Option.{option_map_or, unwrap_or}
use Rattle.pgs_resolve_keys.specs.Patterns.{called, nameless, number_of}
use Rattle.pgs_resolve_keys.proofs.variables.Variables.number.Goals as goal

pub returns-in-None : goal.returns-in-None
returns-in-None c variables holds =
    c.unwrap_or-in-None.ensures
    ∙ ap (λ (o : Option ℕ). unwrap_or o 0) (c.copied-in-None.ensures ∙ c.get-in-None.ensures.value ∙ holds.unnamed c.args.place)
    ∙ ap (λ (o : Option (List ℕ)). number_of variables (option_map_or called o (nameless c.args.place))) (sym c.in-None.is)
