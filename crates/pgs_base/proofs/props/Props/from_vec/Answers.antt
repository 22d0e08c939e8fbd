use Rattle.std.proofs.Common.{◌≡◌, true, sym, subst}
use Rattle.std.specs.List.{list_all}
use Rattle.std.specs.Map.{keys_of}
use Rattle.std.proofs.lemmas.Bool.{and_from}
use Rattle.pgs_base.specs.Name.{is_name}
use Rattle.pgs_base.specs.Properties.{has_value, are_props}
use Rattle.pgs_base.proofs.Pairs.{are_names_from}
use Rattle.pgs_base.proofs.props.Props.from_vec.Goals as goal

pub invariant_of-result : goal.invariant_of-result
invariant_of-result c =
    subst (λ rows. are_props rows ≡ true) (sym c.from_vec.ensures)
    (and_from _ _
    (are_names_from (keys_of c.args.rows.items) c.requires (subst (λ rows. list_all is_name (keys_of rows) ≡ true) c.as_slice.ensures.value c.row_facts.ensures.names))
    (subst (λ rows. list_all has_value rows ≡ true) c.as_slice.ensures.value c.row_facts.ensures.values))
