use Rattle.pgs_schema_changes.specs.Unfolded.{node_tree}
use Rattle.pgs_schema_changes.proofs.Unfolding.{edge_put}
use Rattle.pgs_schema_changes.proofs.declarations.number_edge.Goals as goal

pub returns : goal.returns
returns c = λ resolved names numbered nodes edges.
    edge_put resolved names c.args.nodes.now c.args.edges.now c.args.of_type.now c.args.trees.now.entries.items c.number_of.new.trees.entries.items c.number_of-2.new.trees.entries.items c.number_of-3.new.trees.entries.items
    c.put.new.self.entries.items c.put-2.new.self.entries.items c.in_ok-source.source c.in_ok-target.target c.in_ok-middle.middle c.in_ok-ends.ends c.put-2.result numbered nodes edges
    (c.in_ok-source.ensures (node_tree resolved)) (c.in_ok-target.ensures (node_tree resolved)) (c.in_ok-middle.ensures names) c.in_ok-ends.ensures c.put-2.ensures
