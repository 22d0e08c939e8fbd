use Rattle.std.proofs.Common.{◌≡◌, ℕ, ◌+◌, ◌*◌, ◌^◌, ◌<◌, ◌≤◌, true, length, take, drop}
use Rattle.std.specs.List.{list_any}
use Rattle.std.specs.Map.{keys_of}
use Rattle.pgs_base.specs.declared.element.NodeId.{NodeId}
use Rattle.pgs_base.specs.Graph.{edge_cmp}
use Rattle.pgs_graph.specs.Changed.{entries_changed}
use Rattle.pgs_tables.specs.Adjacency.{ends_here}
use Rattle.pgs_overlay.specs.declared.side.Side.TheVariants.{Out, In}
use Rattle.pgs_overlay.specs.Passed.{ArePassed, HasFew}
use Rattle.pgs_overlay.proofs.node_lists.NodeLists.edit_edges.Given as goal

abbrev pub invariant-loop-change : goal.invariant-loop-change
invariant-loop-change g l = record {
  outgoing : ArePassed Out (g.B.GraphRead.meaning l.base) (take l.change-index l.changes) (keys_of (drop l.change-index l.changes)) l.self.outgoing;
  incoming : ArePassed In (g.B.GraphRead.meaning l.base) (take l.change-index l.changes) (keys_of (drop l.change-index l.changes)) l.self.incoming;
  count : l.count + length (g.B.GraphRead.meaning l.base).edges ≡ l.initial.count + length (entries_changed edge_cmp (g.B.GraphRead.meaning l.base).edges (take l.change-index l.changes));
  never_back : l.initial.steps ≤ l.steps;
  cost : (most k : ℕ) → most < 2 ^ k → ((id : NodeId) → list_any (ends_here (g.B.GraphRead.meaning l.base) id) l.changes ≡ true → HasFew (g.B.GraphRead.meaning l.base) most id) →
      l.steps ≤ l.initial.steps + (8 * k + 17) * l.change-index;
}
