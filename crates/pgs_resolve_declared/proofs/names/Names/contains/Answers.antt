use Rattle.std.proofs.Common.{◌∙◌, ap}
use Rattle.std.specs.Option.{is_some}
use Rattle.pgs_base.specs.Pair.{same_name, has_name}
use Rattle.pgs_resolve_declared.proofs.Same.{some_place}
use Rattle.pgs_resolve_declared.proofs.names.Names.contains.Goals as goal

pub returns : goal.returns
returns c =
    c.contains_key.ensures ∙ ap is_some (c.self.invariant c.args.name.now) ∙ some_place (same_name c.args.name.now) c.self.inside.items.items
    ∙ ap (has_name c.args.name.now) c.self.view_is
