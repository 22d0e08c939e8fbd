use Rattle.std.proofs.Common.{◌≤◌, length, sym, ◌∙◌, ap, subst}
use Rattle.std.specs.List.{list_all}
use Rattle.pgs_syntax.specs.Valid.{names_types}
use Rattle.pgs_key_standing.specs.declared.placed.Placed.{Placed}
use Rattle.pgs_key_standing.proofs.Named.{valid_of, scope_types, scope_few, scope_answer}
use Rattle.pgs_key_standing.proofs.reach.has_scope.Goals as goal

pub scope_places-requires : goal.scope_places-requires
scope_places-requires c = valid_of c.args.schema.now c.args.key.now c.requires

pub has_pairs-requires-clause-types : goal.has_pairs-requires-clause-types
has_pairs-requires-clause-types c =
    ap (λ (placed : Placed). list_all (names_types c.args.schema.now) placed.atoms) c.in_ok-placed.ensures ∙ scope_types c.args.schema.now c.args.key.now c.requires

pub has_pairs-requires-clause-few : goal.has_pairs-requires-clause-few
has_pairs-requires-clause-few c =
    subst (λ (placed : Placed). length placed.kinds ≤ 42) (sym c.in_ok-placed.ensures) (scope_few c.args.schema.now c.args.key.now c.requires)

pub returns : goal.returns
returns c = scope_answer c.args.schema.now c.args.key.now c.requires c.has_pairs.result c.in_ok-placed.placed c.in_ok-placed.ensures c.has_pairs.ensures
