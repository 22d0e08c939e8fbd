use Rattle.pgs_standing.specs.Standing.{admits_edge, can_stand_node, can_stand_edge}
use Rattle.pgs_key_standing.specs.Placed.{passes_at, pass_at}
use Rattle.pgs_key_standing.proofs.Demanded.{on_third, edge_stands_where}
use Rattle.pgs_key_standing.proofs.asked.push_edge.Goals as goal

pub returns : goal.returns
returns c =
    on_third c.push_node-2.result c.args.demands.now.items c.push_three.new.demands.items c.push_node.new.demands.items c.push_node-2.new.demands.items
    (λ ps. pass_at ps c.args.edge c.args.ends (admits_edge c.args.schema.now)) (λ ps. passes_at ps c.args.ends.0 (can_stand_node c.args.schema.now))
    (λ ps. passes_at ps c.args.ends.1 (can_stand_node c.args.schema.now)) (λ ps. pass_at ps c.args.edge c.args.ends (can_stand_edge c.args.schema.now))
    c.push_node-2.ensures (c.in_ok-push_three.ensures (admits_edge c.args.schema.now) c.in_ok-triples.ensures) c.in_ok-push_node.ensures
    (λ ps small. edge_stands_where c.args.schema.now ps c.args.edge c.args.ends small)
