use Rattle.std.specs.Map.{keys_of}
use Rattle.pgs_overlay.specs.declared.side.Side.TheVariants.{Out, In}
use Rattle.pgs_overlay.proofs.Passing.{passed_none}
use Rattle.pgs_overlay.proofs.node_lists.NodeLists.edited.Goals as goal

pub edit_edges-requires-clause-outgoing : goal.edit_edges-requires-clause-outgoing
edit_edges-requires-clause-outgoing g c =
    rw c.new.ensures (passed_none Out (g.B.GraphRead.meaning c.args.base.now) c.requires.graph (keys_of c.args.changes.now))

pub edit_edges-requires-clause-incoming : goal.edit_edges-requires-clause-incoming
edit_edges-requires-clause-incoming g c =
    rw c.new-2.ensures (passed_none In (g.B.GraphRead.meaning c.args.base.now) c.requires.graph (keys_of c.args.changes.now))
