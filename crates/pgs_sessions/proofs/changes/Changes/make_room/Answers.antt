use Rattle.pgs_sessions.proofs.Kept.{node_room, edge_room}
use Rattle.pgs_sessions.proofs.changes.Changes.make_room.Goals as goal

pub returns-in-Node-clause-kept : goal.returns-in-Node-clause-kept
returns-in-Node-clause-kept c = node_room c.args.self.now.nodes c.make_slot.new.self c.args.self.now.edges c.make_slot.ensures.kept

pub returns-in-Edge-clause-kept : goal.returns-in-Edge-clause-kept
returns-in-Edge-clause-kept c = edge_room c.args.self.now.nodes c.args.self.now.edges c.make_slot-in-Edge.new.self c.make_slot-in-Edge.ensures.kept
