use Rattle.std.proofs.Common.{◌≡◌, ℕ, List, Option, IfOk, ◌∙◌, subst}
use Rattle.pgs_resolve_declared.specs.Refused.{imported_by}
use Rattle.pgs_resolve_order.proofs.Linked.{graph_links}
use Rattle.pgs_resolve_order.proofs.cycles.least_graph.Goals as goal

pub returns : goal.returns
returns c script are =
    subst (λ (found : Option (List ℕ)). IfOk c.copy_of.result (λ name. name ≡ found))
    (c.in_ok-least_name.ensures (imported_by script)
    (graph_links script c.args.declarations.now are c.deref.result.now (c.deref.ensures.value ∙ c.in_ok-rows.ensures script are)))
    c.copy_of.ensures
