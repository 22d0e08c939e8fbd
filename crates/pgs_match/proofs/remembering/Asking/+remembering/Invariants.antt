use Rattle.std.proofs.Common.{◌≡◌, ◌*◌, ◌+◌, ◌≤◌, ℕ, List, true, false, length, take, Some}
use Rattle.std.specs.Prelude.{is_some}
use Rattle.std.specs.List.{Contains, list_any, sum_by}
use Rattle.pgs_base.specs.declared.element.EdgeId.{EdgeId}
use Rattle.pgs_base.specs.declared.element.Elem.TheVariants.{Node, Edge}
use Rattle.pgs_match.specs.declared.bindings.Bound.TheVariants as bounds
use Rattle.pgs_match.specs.declared.stand.Stand.{Stand}
use Rattle.pgs_match.specs.Answers.{KeepsOthers, AreRight, IsClosed, IsPaid, IsPrice}
use Rattle.pgs_match.specs.Search.{edges_along}
use Rattle.pgs_match.specs.Spread.{stand_at, edges_in}
use Rattle.pgs_match.specs.Tests.{admitted_edge}
use Rattle.pgs_match.proofs.BranchSteps.{given_with, asked_with}
use Rattle.pgs_match.proofs.remembering.Asking.+remembering.Given as goal

abbrev pub decreases-given : goal.decreases-given
decreases-given g l = 4 * length l.plan.now

abbrev pub decreases-branch_given : goal.decreases-branch_given
decreases-branch_given g l = 4 * length l.rest.now + 3

abbrev pub decreases-edge_given : goal.decreases-edge_given
decreases-edge_given g l = 4 * length l.rest.now + 2

abbrev pub decreases-node_given : goal.decreases-node_given
decreases-node_given g l = 4 * length l.rest.now + 2

abbrev pub decreases-next_given : goal.decreases-next_given
decreases-next_given g l = 4 * length l.rest.now + 1

abbrev pub invariant-edge_given-loop-nth : goal.invariant-edge_given-loop-nth
invariant-edge_given-loop-nth g l =
    let graph = g.G.GraphRead.meaning l.self.search.graph.now in
    let resolved = l.self.search.compiled.now in
    let atoms = l.self.search.atoms.now in
    let ids = edges_along graph l.forward (Some (bounds.Node l.from)) in
    record {
      none : list_any (given_with resolved graph atoms l.rest l.var) (take l.nth ids) ≡ false;
      reached : l.nth ≤ length ids;
      right : AreRight resolved graph atoms l.self.whole.now l.answers;
      kept : KeepsOthers l.rest l.fn.answers l.answers;
      full : l.fn.answers.is_full ≡ true → l.answers.is_full ≡ true;
      no_step_back : l.fn.steps ≤ l.steps;
      cost : l.steps ≤ l.fn.steps + (l.nth + sum_by (asked_with resolved graph atoms l.rest l.var) (take l.nth ids));
      once : (pairs : List Stand) (price : ℕ) → IsPrice l.rest price → IsClosed resolved graph atoms pairs l.rest →
          ((id : EdgeId) → Contains (edges_in graph l.forward (Node l.from)) id → is_some (admitted_edge resolved graph atoms l.var id) ≡ true → Contains pairs (stand_at l.var (Edge id))) →
          IsPaid graph price pairs l.fn.answers l.answers l.fn.steps l.steps (l.nth * (length l.rest + 4));
    }
