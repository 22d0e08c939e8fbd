use Rattle.std.proofs.Common.{◌≡◌, ℕ, List, Option, IfOk, ◌∙◌, ap, subst}
use Rattle.pgs_resolve_declared.specs.Refused.{named_by, cyclic, least}
use Rattle.pgs_resolve_order.proofs.Linked.{type_links}
use Rattle.pgs_resolve_order.proofs.cycles.least_type.Goals as goal

pub returns : goal.returns
returns c script are =
    subst (λ (found : Option (List ℕ)). IfOk c.copy_of.result (λ name. name ≡ found))
    (c.in_ok-least_name.ensures (named_by script)
    (type_links script c.args.declarations.now are _ c.deref.result.now c.in_ok-names.ensures (c.deref.ensures.value ∙ c.in_ok-rows.ensures script are))
    ∙ ap (λ (names : List (List ℕ)). least (cyclic (named_by script) names)) c.in_ok-names.ensures)
    c.copy_of.ensures
