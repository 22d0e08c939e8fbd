use Rattle.pgs_txn.proofs.staging.do_op.Goals as goal

pub returns-in-AddNode-clause-lists : goal.returns-in-AddNode-clause-lists
returns-in-AddNode-clause-lists g c = rw c.in-AddNode.is c.add_node.ensures.lists

pub returns-in-AddEdge-clause-lists : goal.returns-in-AddEdge-clause-lists
returns-in-AddEdge-clause-lists g c = rw c.in-AddEdge.is c.add_edge.ensures.lists

pub returns-in-RemoveNode-clause-lists : goal.returns-in-RemoveNode-clause-lists
returns-in-RemoveNode-clause-lists g c = rw c.in-RemoveNode.is c.remove_node.ensures.lists

pub returns-in-DetachNode-clause-lists : goal.returns-in-DetachNode-clause-lists
returns-in-DetachNode-clause-lists g c = rw c.in-DetachNode.is c.detach_node.ensures.lists

pub returns-in-RemoveEdge-clause-lists : goal.returns-in-RemoveEdge-clause-lists
returns-in-RemoveEdge-clause-lists g c = rw c.in-RemoveEdge.is c.remove_edge.ensures.lists

pub returns-in-SetNode-clause-lists : goal.returns-in-SetNode-clause-lists
returns-in-SetNode-clause-lists g c = rw c.in-SetNode.is c.edit_node.ensures.lists

pub returns-in-UnsetNode-clause-lists : goal.returns-in-UnsetNode-clause-lists
returns-in-UnsetNode-clause-lists g c = rw c.in-UnsetNode.is c.edit_node-in-UnsetNode.ensures.lists

pub returns-in-LabelNode-clause-lists : goal.returns-in-LabelNode-clause-lists
returns-in-LabelNode-clause-lists g c = rw c.in-LabelNode.is c.edit_node-in-LabelNode.ensures.lists

pub returns-in-UnlabelNode-clause-lists : goal.returns-in-UnlabelNode-clause-lists
returns-in-UnlabelNode-clause-lists g c = rw c.in-UnlabelNode.is c.edit_node-in-UnlabelNode.ensures.lists

pub returns-in-SetEdge-clause-lists : goal.returns-in-SetEdge-clause-lists
returns-in-SetEdge-clause-lists g c = rw c.in-SetEdge.is c.edit_edge.ensures.lists

pub returns-in-UnsetEdge-clause-lists : goal.returns-in-UnsetEdge-clause-lists
returns-in-UnsetEdge-clause-lists g c = rw c.in-UnsetEdge.is c.edit_edge-in-UnsetEdge.ensures.lists

pub returns-in-LabelEdge-clause-lists : goal.returns-in-LabelEdge-clause-lists
returns-in-LabelEdge-clause-lists g c = rw c.in-LabelEdge.is c.edit_edge-in-LabelEdge.ensures.lists

pub returns-in-UnlabelEdge-clause-lists : goal.returns-in-UnlabelEdge-clause-lists
returns-in-UnlabelEdge-clause-lists g c = rw c.in-UnlabelEdge.is c.edit_edge-in-UnlabelEdge.ensures.lists
