use Rattle.std.proofs.Common.{◌≤◌, ◌+◌, ℕ, List, length, take}
use Rattle.std.specs.List.{Contains, flat_map, sum_by}
use Rattle.pgs_base.specs.declared.element.NodeId.{NodeId}
use Rattle.pgs_base.specs.declared.element.Elem.TheVariants.{Node}
use Rattle.pgs_match.specs.declared.bindings.Bound.TheVariants as bounds
use Rattle.pgs_match.specs.declared.stand.Stand.{Stand}
use Rattle.pgs_match.specs.declared.step.Step.TheVariants.{Along, End}
use Rattle.pgs_match.specs.Answers.{HasAhead, IsClosed}
use Rattle.pgs_match.specs.Frontier.{on_most, hop_steps, hop_bounds, at_nodes, hop_most, AreAllOf, AreNoted, IsPaidOn, StayFull}
use Rattle.pgs_match.specs.Spread.{stand_at}
use Rattle.pgs_match.proofs.frontier.Frontier.all_behind.Given as goal

abbrev pub invariant-loop-from : goal.invariant-loop-from
invariant-loop-from g l =
    let graph = g.G.GraphRead.meaning l.self.asking.search.graph.now in
    let resolved = l.self.asking.search.compiled.now in
    let atoms = l.self.asking.search.atoms.now in
    let off = l.self.asking.whole.now in
    record {
      all : AreAllOf (flat_map (hop_bounds resolved graph atoms off l.hop) (take l.from-index l.here)) (at_nodes l.ends.items);
      right : AreNoted resolved graph atoms off l.notes;
      full : StayFull l.fn.notes l.notes;
      no_step_back : l.fn.steps ≤ l.steps;
      cost : l.steps ≤ l.fn.steps + sum_by (λ from. on_most resolved graph atoms off 0 (hop_steps l.hop) (bounds.Node from)) (take l.from-index l.here);
      once : (var : ℕ) (pairs : List Stand) → length off ≤ 19 → IsClosed resolved graph atoms pairs off →
          ((id : NodeId) → Contains l.here id → Contains pairs (stand_at var (Node id))) →
          HasAhead resolved graph atoms pairs (Along l.hop.edge var l.hop.forward) → HasAhead resolved graph atoms pairs (End l.hop.edge l.hop.node l.hop.source) →
          IsPaidOn graph pairs l.fn.notes l.notes l.fn.steps l.steps (sum_by (λ id. hop_most graph (length off) (stand_at var (Node id))) (take l.from-index l.here));
    }
