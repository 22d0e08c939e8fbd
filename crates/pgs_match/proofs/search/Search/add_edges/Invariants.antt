use Rattle.std.proofs.Common.{◌≡◌, ◌+◌, ◌*◌, ◌≤◌, ◌++◌, flat_map, length, take}
use Rattle.pgs_base.specs.declared.element.Elem.TheVariants.{Node}
use Rattle.pgs_match.specs.Spread.{stands_of, edges_in}
use Rattle.pgs_match.specs.Tests.{admitted_edge}
use Rattle.pgs_match.proofs.search.Search.add_edges.Given as goal

abbrev pub invariant-loop-nth : goal.invariant-loop-nth
invariant-loop-nth g l =
    let graph = g.G.GraphRead.meaning l.self.graph.now in
    let ids = edges_in graph l.forward (Node l.node) in
    record {
      so_far : l.stands.items ≡ l.fn.stands.items ++ flat_map (λ id. stands_of l.var (admitted_edge l.self.compiled.now graph l.self.atoms.now l.var id)) (take l.nth ids);
      within : l.nth ≤ length ids;
      no_step_back : l.fn.steps ≤ l.steps;
      cost : l.steps ≤ l.fn.steps + 4 * l.nth;
    }
