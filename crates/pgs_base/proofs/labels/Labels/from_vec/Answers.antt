use Rattle.std.proofs.Common.{◌≡◌, true, sym, subst}
use Rattle.std.specs.List.{list_all}
use Rattle.pgs_base.specs.Name.{is_name}
use Rattle.pgs_base.specs.Names.{are_names}
use Rattle.pgs_base.proofs.Pairs.{are_names_from}
use Rattle.pgs_base.proofs.labels.Labels.from_vec.Goals as goal

pub invariant_of-result : goal.invariant_of-result
invariant_of-result c =
    subst (λ names. are_names names ≡ true) (sym c.from_vec.ensures)
    (are_names_from c.args.names.items c.requires (subst (λ names. list_all is_name names ≡ true) c.as_slice.ensures.value c.name_facts.ensures))
