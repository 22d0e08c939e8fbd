use Rattle.std.proofs.Common.{map, sym, ap, ◌∙◌}
use Rattle.pgs_base.specs.declared.element.Elem.TheVariants.{Node, Edge}
use Rattle.pgs_syntax.specs.Matches.{elements}
use Rattle.pgs_match.proofs.Scopes.{node_keys, edge_keys, ok_same}
use Rattle.pgs_match.proofs.calls.each_element.Goals as goal

pub returns-in_ok-ids-clause-elems : goal.returns-in_ok-ids-clause-elems
returns-in_ok-ids-clause-elems g c =
    let graph = g.G.GraphRead.meaning c.args.graph.now in
    ok_same c.edge_elems.result _ _
    (ap (map (λ id. Edge id)) (c.as_slice.ensures ∙ c.in_ok-ids.ensures.ids) ∙ edge_keys graph.edges
    ∙ ap (elements graph) (sym c.if-is_of_edges.true ∙ c.is_of_edges.ensures))
    c.edge_elems.ensures

pub returns-in_ok-ids-2-clause-elems : goal.returns-in_ok-ids-2-clause-elems
returns-in_ok-ids-2-clause-elems g c =
    let graph = g.G.GraphRead.meaning c.args.graph.now in
    ok_same c.node_elems.result _ _
    (ap (map (λ id. Node id)) (c.as_slice-else-is_of_edges.ensures ∙ c.in_ok-ids-2.ensures.ids) ∙ node_keys graph.nodes
    ∙ ap (elements graph) (sym c.if-is_of_edges.false ∙ c.is_of_edges.ensures))
    c.node_elems.ensures
