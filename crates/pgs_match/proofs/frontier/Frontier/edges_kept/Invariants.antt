use Rattle.std.proofs.Common.{◌≡◌, ℕ, ◌+◌, ◌≤◌, List, [], ◌∷◌, flat_map, length, take}
use Rattle.std.specs.List.{Contains, sum_by}
use Rattle.pgs_base.specs.declared.element.NodeId.{NodeId}
use Rattle.pgs_base.specs.declared.element.Elem.TheVariants.{Node}
use Rattle.pgs_match.specs.declared.bindings.Bound.TheVariants as bounds
use Rattle.pgs_match.specs.declared.stand.Stand.{Stand}
use Rattle.pgs_match.specs.declared.step.Step.TheVariants.{Along}
use Rattle.pgs_match.specs.Answers.{HasAhead, IsClosed}
use Rattle.pgs_match.specs.Frontier.{kept_bounds, on_most, hop_most, AreNoted, IsPaidOn, StayFull}
use Rattle.pgs_match.specs.Spread.{stand_at}
use Rattle.pgs_match.proofs.frontier.Frontier.edges_kept.Given as goal

abbrev pub invariant-loop-from : goal.invariant-loop-from
invariant-loop-from g l =
    let search = l.self.asking.search in
    let graph = g.G.GraphRead.meaning search.graph.now in
    let resolved = search.compiled.now in
    let atoms = search.atoms.now in
    let off = l.self.asking.whole.now in
    record {
      so_far : l.ends.items ≡ flat_map (λ id. kept_bounds resolved graph atoms off (Along l.var 0 l.forward) (bounds.Node id)) (take l.from-index l.here);
      right : AreNoted resolved graph atoms off l.notes;
      full : StayFull l.fn.notes l.notes;
      no_step_back : l.fn.steps ≤ l.steps;
      cost : l.steps ≤ l.fn.steps + sum_by (λ id. on_most resolved graph atoms off 0 (Along l.var 0 l.forward ∷ []) (bounds.Node id)) (take l.from-index l.here);
      once : (node : ℕ) (pairs : List Stand) → length off ≤ 19 → IsClosed resolved graph atoms pairs off → ((id : NodeId) → Contains l.here id → Contains pairs (stand_at node (Node id))) →
          HasAhead resolved graph atoms pairs (Along l.var node l.forward) →
          IsPaidOn graph pairs l.fn.notes l.notes l.fn.steps l.steps (sum_by (λ id. hop_most graph (length off) (stand_at node (Node id))) (take l.from-index l.here));
    }
