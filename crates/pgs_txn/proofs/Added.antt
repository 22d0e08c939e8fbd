-- When an element is added.
use Rattle.std.proofs.Common.{◌≡◌, false, Option, Some, None, is_some, Err, refl, sym, ◌∙◌, ap, true≢false}
use Rattle.std.specs.Prelude.{if◌then◌else◌}
use Rattle.pgs_base.specs.declared.element.NodeId.{NodeId}
use Rattle.pgs_base.specs.declared.element.EdgeId.{EdgeId}
use Rattle.pgs_base.specs.declared.element.Elem.TheVariants.{Node}
use Rattle.pgs_base.specs.declared.row.NodeRow.{NodeRow}
use Rattle.pgs_base.specs.declared.row.EdgeRow.{EdgeRow}
use Rattle.pgs_base.specs.Graph.{Graph, node_at, edge_at}
use Rattle.pgs_violation.specs.declared.structural.Cause.TheVariants.{AlreadyThere}
use Rattle.pgs_violation.specs.Staging.{Unable, put_node, added_node}
use Rattle.pgs_txn.specs.declared.working.Working.{Working}
use Rattle.pgs_txn.specs.Rows.{edge_change, was_put}
use Rattle.pgs_txn.specs.Working.{graph_now, StandsOn}
use Rattle.pgs_txn.proofs.Standing.{edge_of_change}

pub added_node_from : (g : Graph) (id : NodeId) (row : NodeRow) → is_some (node_at g id) ≡ false → added_node g id row ≡ put_node g id row
added_node_from g id row absent = ap (λ b. if b then Err (Unable (AlreadyThere (Node id))) else put_node g id row) absent

-- an edge that isn't there was not put in
pub absent_not_put : (g : Graph) (w : Working) → StandsOn g w → (id : EdgeId) → edge_at (graph_now g w) id ≡ None → was_put (edge_change w.rows id) ≡ false
absent_not_put g w stands id absent = by (edge_change w.rows id) refl
  where
    by : (change : Option (Option EdgeRow)) → edge_change w.rows id ≡ change → was_put change ≡ false
    by None is = refl
    by (Some None) is = refl
    by (Some (Some row)) is = absurd (true≢false (ap is_some (sym (edge_of_change g w stands id (Some row) is) ∙ absent)))
