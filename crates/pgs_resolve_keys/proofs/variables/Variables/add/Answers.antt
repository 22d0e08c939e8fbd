use Rattle.std.proofs.Common.{ℕ, List, Option, OnOk, sym, subst}
use Rattle.std.specs.Option.{option_map_or}
use Rattle.pgs_resolve_keys.specs.Patterns.{called, nameless, with_variable}
use Rattle.pgs_resolve_keys.specs.VariableTable.{Holds}
use Rattle.pgs_resolve_keys.proofs.variables.Variables.add.Goals as goal

pub returns-in-None : goal.returns-in-None
returns-in-None c variables holds =
    let P : Option (List ℕ) → Type 0 = λ var. OnOk c.add_nameless.result
    (Holds (with_variable variables (option_map_or called var (nameless c.args.number), c.args.place.now.is_edge)) c.add_nameless.new.self) in
    subst P (sym c.in-None.is) (c.add_nameless.ensures variables holds)
