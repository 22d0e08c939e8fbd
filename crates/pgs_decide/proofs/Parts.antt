-- The parts of a decision whose transaction is staged: its delta is sparse where the transaction is, and has no more elements.
use Rattle.std.proofs.Common.{◌≡◌, ℕ, ◌+◌, ◌*◌, ◌^◌, ◌≤◌, true, length, Ok, ap, subst, arith}
use Rattle.pgs_base.specs.declared.limits.Limits.{Limits}
use Rattle.pgs_base.specs.Graph.{Graph, is_graph}
use Rattle.pgs_graph.specs.declared.delta.Delta.{Delta}
use Rattle.pgs_graph.specs.declared.operation.Txn.{Txn}
use Rattle.pgs_graph.specs.Changed.{changed, is_sound}
use Rattle.pgs_violation.specs.Staging.{staged}
use Rattle.pgs_txn.specs.Listing.{lists_only}
use Rattle.pgs_overlay.specs.Standing.{row_count}
use Rattle.pgs_check_affected.specs.Changes.{elems_of}
use Rattle.pgs_check_affected.specs.Touched.{touched, AreSparse}
use Rattle.pgs_check_affected.proofs.Touching.{elems_ascend}
use Rattle.pgs_decide.specs.Touched.{graph_after, staged_after, touched_by}
use Rattle.pgs_decide.proofs.Counted.{rows_fewer, touched_fewer}
use Rattle.pgs_decide.proofs.Covered.{touched_covered}
use Rattle.pgs_decide.proofs.Degrees.{sparse_fewer}
use Rattle.pgs_decide.proofs.Summed.{bound, all_parts}

module _ (limits : Limits) (g : Graph) (txn : Txn) (delta : Delta) (only : lists_only g txn.ops delta ≡ true) where
  pub delta_sparse : staged limits g txn ≡ Ok (changed g delta) → (near most : ℕ) → AreSparse g (staged_after limits g txn) near (touched_by g txn.ops) most →
      AreSparse g (changed g delta) near (touched g (elems_of delta)) most
  delta_sparse staged near most sparse =
      sparse_fewer g (changed g delta) near most (touched g (elems_of delta)) (touched_by g txn.ops) (touched_covered g txn.ops delta only)
      (subst (λ h. AreSparse g h near (touched_by g txn.ops) most) (ap (graph_after g) staged) sparse)

  module _ (graph : is_graph g ≡ true) (sound : is_sound g delta ≡ true) where
    elems_fewer : length (touched g (elems_of delta)) ≤ length (touched_by g txn.ops)
    elems_fewer = touched_fewer g (elems_of delta) graph (elems_ascend delta g sound) (touched_by g txn.ops) (touched_covered g txn.ops delta only)

    -- staging, and then the overlay and the check
    pub whole_cost : (most edges q k : ℕ) → k ≤ q → (start staged after : ℕ) → staged ≤ start + 16 * (length txn.ops + 1) * (most + 2) →
        after ≤ staged + (16 * (row_count delta + 1) * (most + 2) + 3072 * (k + 1) * (length (touched g (elems_of delta)) + 1) * (most + 2) ^ (2 * edges + 2)) →
        after ≤ start + bound most edges q (length txn.ops) (length (touched_by g txn.ops))
    whole_cost most edges q k keys start staged after one two =
        let elems = elems_fewer in
        let rows = rows_fewer g delta in
        all_parts most edges q (length txn.ops) (length (touched_by g txn.ops)) (row_count delta) k (length (touched g (elems_of delta))) (omega arith) keys elems start staged after one two
