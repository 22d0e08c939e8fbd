-- The edges at a node are removed one by one.
use Rattle.std.specs.Prelude.{◌≡◌, Bool, true}
use Rattle.pgs_base.specs.declared.element.NodeId.{NodeId}
use Rattle.pgs_base.specs.declared.element.EdgeId.{EdgeId}
use Rattle.pgs_base.specs.Graph.{Graph}
use Rattle.pgs_violation.specs.Staging.{detached}
use Rattle.pgs_txn.specs.declared.working.Working.{Working}
use Rattle.pgs_txn.specs.Looks.{is_at_node}
use Rattle.pgs_txn.specs.Rows.{is_changed}
use Rattle.pgs_txn.specs.Working.{StandsOn, graph_now, Lists}

-- from one state to a later one only edges at a node were removed
pub record OnlyEdgesAt (g : Graph) (id : NodeId) (before after : Working) : Type 0 where
  pub stands : StandsOn g after
  pub nodes : after.rows.nodes ≡ before.rows.nodes
  pub detaching : detached (graph_now g after) id ≡ detached (graph_now g before) id
  pub stay_changed : (edge : EdgeId) → is_changed before.rows edge ≡ true → is_changed after.rows edge ≡ true
  pub lists : (nodes : NodeId → Bool) (edges : EdgeId → Bool) → ((edge : EdgeId) → is_at_node id g edge ≡ true → edges edge ≡ true) →
      Lists nodes edges before.rows → Lists nodes edges after.rows
