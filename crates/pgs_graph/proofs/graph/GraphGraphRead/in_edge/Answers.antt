use Rattle.std.proofs.Common.{◌∙◌, ap, slice_get}
use Rattle.pgs_base.specs.Graph.{Graph}
use Rattle.pgs_base_slots.specs.Slots.{present}
use Rattle.pgs_graph.specs.declared.scan.End.TheVariants.{Target}
use Rattle.pgs_graph.specs.Reads.{in_edges_of}
use Rattle.pgs_graph.proofs.EdgesWith.{listed_end}
use Rattle.pgs_graph.proofs.graph.GraphGraphRead.in_edge.Goals as goal

pub returns-clause-value : goal.returns-clause-value
returns-clause-value g c =
    c.nth_edge.ensures ∙ ap (λ l. slice_get l c.args.nth) (c.self.invariant.incoming c.args.id) ∙ ap (λ (h : Graph). slice_get (in_edges_of h c.args.id) c.args.nth) c.self.view_is

pub returns-clause-comes_in : goal.returns-clause-comes_in
returns-clause-comes_in g c =
    rw (returns-clause-value g c, ← c.self.view_is)
    (listed_end Target c.args.id (record { nodes = present c.self.inside.nodes; edges = present c.self.inside.edges }) c.self.invariant.graph c.args.nth)
