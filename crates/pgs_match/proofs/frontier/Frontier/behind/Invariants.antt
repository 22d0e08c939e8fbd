use Rattle.std.proofs.Common.{◌≡◌, ℕ, ◌+◌, ◌*◌, ◌≤◌, List, flat_map, length, take, Some}
use Rattle.std.specs.List.{Contains, sum_by}
use Rattle.pgs_base.specs.declared.element.Elem.TheVariants.{Node}
use Rattle.pgs_match.specs.declared.bindings.Bound.TheVariants as bounds
use Rattle.pgs_match.specs.declared.stand.Stand.{Stand}
use Rattle.pgs_match.specs.declared.step.Step.TheVariants.{Along, End}
use Rattle.pgs_match.specs.Answers.{HasAhead, IsClosed}
use Rattle.pgs_match.specs.Frontier.{at_nodes, AreNoted, IsPaidOn, StayFull}
use Rattle.pgs_match.specs.Search.{edges_along}
use Rattle.pgs_match.specs.Spread.{stand_at}
use Rattle.pgs_match.proofs.Behind.{ends_on, hop_cost}
use Rattle.pgs_match.proofs.frontier.Frontier.behind.Given as goal

abbrev pub invariant-loop-nth : goal.invariant-loop-nth
invariant-loop-nth g l =
    let search = l.self.asking.search in
    let graph = g.G.GraphRead.meaning search.graph.now in
    let resolved = search.compiled.now in
    let atoms = search.atoms.now in
    let off = l.self.asking.whole.now in
    let ids = edges_along graph l.hop.forward (Some (bounds.Node l.from)) in
    record {
      so_far : at_nodes l.ends.items ≡ flat_map (ends_on resolved graph atoms off l.hop) (take l.nth ids);
      reached : l.nth ≤ length ids;
      right : AreNoted resolved graph atoms off l.notes;
      full : StayFull l.fn.notes l.notes;
      no_step_back : l.fn.steps ≤ l.steps;
      cost : l.steps ≤ l.fn.steps + (l.nth + sum_by (hop_cost resolved graph atoms off l.hop) (take l.nth ids));
      once : (var : ℕ) (pairs : List Stand) → length off ≤ 19 → IsClosed resolved graph atoms pairs off → Contains pairs (stand_at var (Node l.from)) →
          HasAhead resolved graph atoms pairs (Along l.hop.edge var l.hop.forward) → HasAhead resolved graph atoms pairs (End l.hop.edge l.hop.node l.hop.source) →
          IsPaidOn graph pairs l.fn.notes l.notes l.fn.steps l.steps (l.nth * (length off + 5));
    }
