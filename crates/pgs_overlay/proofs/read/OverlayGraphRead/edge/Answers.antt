use Rattle.std.proofs.Common.{◌∙◌, Some, sym, ap}
use Rattle.std.specs.Map.{lookup}
use Rattle.std.specs.BTreeMap.{is_at}
use Rattle.pgs_base.specs.Graph.{edge_cmp, edge_at}
use Rattle.pgs_graph.proofs.Deltas.{ascending_changed_edges}
use Rattle.pgs_overlay.proofs.Reading.{edge_kept, edge_put}
use Rattle.pgs_overlay.proofs.read.OverlayGraphRead.edge.Goals as goal

pub change_of-requires : goal.change_of-requires
change_of-requires g c =
    rw c.as_slice.ensures (ascending_changed_edges (g.B.GraphRead.meaning c.self.inside.base.now) c.self.inside.delta.now c.self.invariant.sound)

pub returns-in_default-clause-value : goal.returns-in_default-clause-value
returns-in_default-clause-value g c =
    c.edge.ensures.value
    ∙ edge_kept (g.B.GraphRead.meaning c.self.inside.base.now) c.self.inside.delta.now c.self.invariant.graph c.self.invariant.sound
    c.args.id (ap (lookup (is_at (edge_cmp c.args.id))) (sym c.as_slice.ensures) ∙ sym c.in_default.ensures)
    ∙ ap (λ h. edge_at h c.args.id) c.self.view_is

pub returns-in-Some-change-clause-value : goal.returns-in-Some-change-clause-value
returns-in-Some-change-clause-value g c =
    ap Some c.of.ensures ∙ sym c.in-Some-change.is
    ∙ edge_put (g.B.GraphRead.meaning c.self.inside.base.now) c.self.inside.delta.now c.self.invariant.graph c.self.invariant.sound
    c.args.id c.in-Some.change.now (ap (lookup (is_at (edge_cmp c.args.id))) (sym c.as_slice.ensures) ∙ sym c.in-Some.ensures)
    ∙ ap (λ h. edge_at h c.args.id) c.self.view_is

pub returns-in-None-clause-value : goal.returns-in-None-clause-value
returns-in-None-clause-value g c =
    sym c.in-None.is
    ∙ edge_put (g.B.GraphRead.meaning c.self.inside.base.now) c.self.inside.delta.now c.self.invariant.graph c.self.invariant.sound
    c.args.id c.in-Some.change.now (ap (lookup (is_at (edge_cmp c.args.id))) (sym c.as_slice.ensures) ∙ sym c.in-Some.ensures)
    ∙ ap (λ h. edge_at h c.args.id) c.self.view_is
