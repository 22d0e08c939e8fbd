use Rattle.std.proofs.Common.{◌≡◌, drop}
use Rattle.pgs_base.specs.declared.element.NodeId.{NodeId}
use Rattle.pgs_base_slots.specs.Slots.{present}
use Rattle.pgs_graph.specs.Lists.{listed, listed_after, relisted_all}
use Rattle.pgs_graph.proofs.relist.relist_edges.Given as goal

abbrev pub invariant-loop-change : goal.invariant-loop-change
invariant-loop-change l =
    (q : NodeId) → relisted_all l.end q (present l.edges) (drop l.change-index l.changes) (listed_after (present l.lists) l.made q)
    ≡ relisted_all l.end q (present l.edges) l.changes (listed (present l.lists) q)
