use Rattle.std.proofs.Common.{◌≡◌, true, length, sym, subst}
use Rattle.std.specs.List.{list_all}
use Rattle.pgs_syntax.specs.declared.pattern.Pattern.{Pattern}
use Rattle.pgs_resolve_keys.specs.Groups.{has_ends_below}
use Rattle.pgs_resolve_keys.proofs.AtomsOfPaths.{ends_in_range}
use Rattle.pgs_resolve_keys.proofs.key_causes.is_linked.Goals as goal

pub is_connected-requires : goal.is_connected-requires
is_connected-requires c =
    let P : Pattern → Type 0 = λ pattern. list_all (has_ends_below (length pattern.edge_vars)) pattern.atoms ≡ true in
    subst P (sym c.in_ok-pattern.ensures) (ends_in_range (record { nodes = c.new.result; edges = c.new-2.result }) c.args.x.now c.args.paths.now)
