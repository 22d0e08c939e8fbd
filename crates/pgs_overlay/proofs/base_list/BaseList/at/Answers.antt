use Rattle.std.proofs.Common.{◌≡◌, ◌∙◌, ap, subst}
use Rattle.std.specs.List.{slice_get}
use Rattle.std.specs.List.Sorted.{IsStrictlySortedBy}
use Rattle.pgs_base.specs.Graph.{edge_cmp}
use Rattle.pgs_overlay.specs.Sides.{edges_at}
use Rattle.pgs_overlay.proofs.Lists.{ascending_list}
use Rattle.pgs_overlay.proofs.base_list.BaseList.at.Goals as goal

pub returns-in-Out-clause-value : goal.returns-in-Out-clause-value
returns-in-Out-clause-value g c =
    c.out_edge.ensures.value ∙ ap (λ xs. slice_get xs c.args.place)
    (subst (λ side. edges_at side c.self.inside.id (g.B.GraphRead.meaning c.self.inside.base.now).edges ≡ c.args.self.now) c.in-Out.is c.self.view_is)

pub returns-in-In-clause-value : goal.returns-in-In-clause-value
returns-in-In-clause-value g c =
    c.in_edge.ensures.value ∙ ap (λ xs. slice_get xs c.args.place)
    (subst (λ side. edges_at side c.self.inside.id (g.B.GraphRead.meaning c.self.inside.base.now).edges ≡ c.args.self.now) c.in-In.is c.self.view_is)

pub returns-in-Out-clause-ascending : goal.returns-in-Out-clause-ascending
returns-in-Out-clause-ascending g c =
    subst (IsStrictlySortedBy edge_cmp) c.self.view_is
    (ascending_list c.self.inside.side c.self.inside.id (g.B.GraphRead.meaning c.self.inside.base.now) c.out_edge.ensures.graph)

pub returns-in-In-clause-ascending : goal.returns-in-In-clause-ascending
returns-in-In-clause-ascending g c =
    subst (IsStrictlySortedBy edge_cmp) c.self.view_is
    (ascending_list c.self.inside.side c.self.inside.id (g.B.GraphRead.meaning c.self.inside.base.now) c.in_edge.ensures.graph)
