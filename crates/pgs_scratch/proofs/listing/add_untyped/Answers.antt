use Rattle.std.proofs.Common.{◌≡◌, true, OnOk, subst, ◌∙◌, arith}
use Rattle.std.proofs.lemmas.Grind.{common_steps}
use Rattle.pgs_scratch.proofs.ByNumber.{untyped_listed}
use Rattle.pgs_scratch.proofs.listing.add_untyped.Goals as goal

pub returns-clause-untyped : goal.returns-clause-untyped
returns-clause-untyped g c =
    let strict : c.args.compiled.now.guard.strict ≡ true = grind (arith, common_steps) in
    subst (λ items. OnOk c.add_untyped_edges.result (c.add_untyped_edges.new.found.items ≡ items))
    (untyped_listed c.args.compiled.now (g.G.GraphRead.meaning c.args.graph.now) c.in_ok-nodes.ensures.graph strict c.args.found.now.items c.add_untyped_nodes.new.found.items
    c.as_slice.result.now c.as_slice-2.result.now (c.as_slice.ensures ∙ c.in_ok-nodes.ensures.ids) (c.as_slice-2.ensures ∙ c.in_ok-edges.ensures.ids)
    c.in_ok-add_untyped_nodes.ensures.nodes)
    c.add_untyped_edges.ensures.edges
