use Rattle.std.proofs.Common.{◌∙◌, sym, ap}
use Rattle.std.specs.List.{slice_get}
use Rattle.pgs_overlay.specs.declared.side.Side.TheVariants.{Out}
use Rattle.pgs_overlay.specs.Parts.{listed}
use Rattle.pgs_overlay.specs.Sides.{edges_at}
use Rattle.pgs_overlay.proofs.Reading.{list_stands, list_read, base_read, end_read}
use Rattle.pgs_overlay.proofs.read.OverlayGraphRead.out_edge.Goals as goal

pub edge_at-requires : goal.edge_at-requires
edge_at-requires g c =
    rw c.new.ensures (list_stands (g.B.GraphRead.meaning c.self.inside.base.now) c.self.inside.delta.now c.self.invariant.graph c.self.invariant.sound Out
    c.self.inside.lists.outgoing c.self.invariant.outgoing_passed c.args.id
    c.in-Some.list.now (sym c.in-Some.ensures))

pub returns-in-Some-clause-value : goal.returns-in-Some-clause-value
returns-in-Some-clause-value g c =
    c.edge_at.ensures.value
    ∙ ap (λ xs. slice_get (listed xs c.in-Some.list.now) c.args.nth) c.new.ensures
    ∙ ap (λ l. slice_get l c.args.nth) (list_read (g.B.GraphRead.meaning c.self.inside.base.now) c.self.inside.delta.now c.self.invariant.graph c.self.invariant.sound Out
    c.self.inside.lists.outgoing c.self.invariant.outgoing_passed c.args.id
    c.in-Some.list.now (sym c.in-Some.ensures))
    ∙ ap (λ h. slice_get (edges_at Out c.args.id h.edges) c.args.nth) c.self.view_is

pub returns-in-Some-clause-goes_out : goal.returns-in-Some-clause-goes_out
returns-in-Some-clause-goes_out g c =
    end_read (g.B.GraphRead.meaning c.self.inside.base.now) c.self.inside.delta.now c.self.invariant.graph c.self.invariant.sound Out
    c.self.inside.lists.outgoing c.self.invariant.outgoing_passed c.args.id
    c.args.self.now c.self.view_is c.args.nth _ (returns-in-Some-clause-value g c)

pub returns-in-None-clause-value : goal.returns-in-None-clause-value
returns-in-None-clause-value g c =
    c.out_edge.ensures.value
    ∙ ap (λ l. slice_get l c.args.nth) (base_read (g.B.GraphRead.meaning c.self.inside.base.now) c.self.inside.delta.now c.self.invariant.graph c.self.invariant.sound Out
    c.self.inside.lists.outgoing c.self.invariant.outgoing_passed c.args.id
    (sym c.in-None.ensures))
    ∙ ap (λ h. slice_get (edges_at Out c.args.id h.edges) c.args.nth) c.self.view_is

pub returns-in-None-clause-goes_out : goal.returns-in-None-clause-goes_out
returns-in-None-clause-goes_out g c =
    end_read (g.B.GraphRead.meaning c.self.inside.base.now) c.self.inside.delta.now c.self.invariant.graph c.self.invariant.sound Out
    c.self.inside.lists.outgoing c.self.invariant.outgoing_passed c.args.id
    c.args.self.now c.self.view_is c.args.nth _ (returns-in-None-clause-value g c)
