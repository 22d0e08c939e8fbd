use Rattle.std.proofs.Common.{◌≤◌, length, sym, ◌∙◌, ap, subst}
use Rattle.std.specs.List.{list_all}
use Rattle.pgs_syntax.specs.Valid.{names_types}
use Rattle.pgs_key_standing.specs.declared.placed.Placed.{Placed}
use Rattle.pgs_key_standing.proofs.Named.{valid_of, value_types, value_few, value_answer}
use Rattle.pgs_key_standing.proofs.reach.has_value.Goals as goal

pub value_places-requires : goal.value_places-requires
value_places-requires c = valid_of c.args.schema.now c.args.key.now c.requires

pub has_pairs-requires-clause-types : goal.has_pairs-requires-clause-types
has_pairs-requires-clause-types c =
    ap (λ (placed : Placed). list_all (names_types c.args.schema.now) placed.atoms) c.in_ok-placed.ensures ∙ value_types c.args.schema.now c.args.key.now c.requires

pub has_pairs-requires-clause-few : goal.has_pairs-requires-clause-few
has_pairs-requires-clause-few c =
    subst (λ (placed : Placed). length placed.kinds ≤ 42) (sym c.in_ok-placed.ensures) (value_few c.args.schema.now c.args.key.now c.requires)

pub returns : goal.returns
returns c = value_answer c.args.schema.now c.args.key.now c.requires c.has_pairs.result c.in_ok-placed.placed c.in_ok-placed.ensures c.has_pairs.ensures
