use Rattle.std.proofs.Common.{◌∙◌, ap, slice_get}
use Rattle.pgs_base.specs.Graph.{Graph}
use Rattle.pgs_base_slots.specs.Slots.{present}
use Rattle.pgs_graph.specs.declared.scan.End.TheVariants.{Source}
use Rattle.pgs_graph.specs.Reads.{out_edges_of}
use Rattle.pgs_graph.proofs.EdgesWith.{listed_end}
use Rattle.pgs_graph.proofs.graph.GraphGraphRead.out_edge.Goals as goal

pub returns-clause-value : goal.returns-clause-value
returns-clause-value g c =
    c.nth_edge.ensures ∙ ap (λ l. slice_get l c.args.nth) (c.self.invariant.outgoing c.args.id) ∙ ap (λ (h : Graph). slice_get (out_edges_of h c.args.id) c.args.nth) c.self.view_is

pub returns-clause-goes_out : goal.returns-clause-goes_out
returns-clause-goes_out g c =
    rw (returns-clause-value g c, ← c.self.view_is)
    (listed_end Source c.args.id (record { nodes = present c.self.inside.nodes; edges = present c.self.inside.edges }) c.self.invariant.graph c.args.nth)
