use Rattle.pgs_standing.specs.Standing.{admits_node, can_stand_node}
use Rattle.pgs_key_standing.specs.Placed.{passes_at}
use Rattle.pgs_key_standing.proofs.Demanded.{on_place, node_stands_where}
use Rattle.pgs_key_standing.proofs.asked.push_node.Goals as goal

pub returns : goal.returns
returns c =
    on_place c.push_at.result c.in_ok-shapes.shapes c.args.demands.now.items c.push_at.new.demands.items c.args.place (admits_node c.args.schema.now)
    (λ ps. passes_at ps c.args.place (can_stand_node c.args.schema.now)) c.push_at.ensures c.in_ok-shapes.ensures
    (λ ps small. node_stands_where c.args.schema.now ps c.args.place small)
