use Rattle.std.proofs.Common.{ℕ, [], Some, None, Option, sym, ◌∙◌, subst}
use Rattle.std.proofs.lemmas.Option.{slice_get-get_or}
use Rattle.pgs_resolve_order.specs.Links.{IsLeastBack}
use Rattle.pgs_resolve_order.proofs.Backs.{first_within, least_named}
use Rattle.pgs_resolve_order.proofs.cycles.least_name.Goals as goal

pub returns-in-Some : goal.returns-in-Some
returns-in-Some c next links =
    let names = c.args.names.now in
    let number = c.in-Some.number in
    let back : IsLeastBack names c.args.rows.now (Some number) = subst (λ (o : Option ℕ). IsLeastBack names c.args.rows.now o) c.in-Some.is c.in_ok-number.ensures in
    c.name_at.ensures ∙ slice_get-get_or names number [] (first_within names number back.0) ∙ sym (least_named next names c.args.rows.now links (Some number) back)

pub returns-in-None : goal.returns-in-None
returns-in-None c next links =
    sym (least_named next c.args.names.now c.args.rows.now links None (subst (λ (o : Option ℕ). IsLeastBack c.args.names.now c.args.rows.now o) c.in-None.is c.in_ok-number.ensures))
