use Rattle.std.proofs.Common.{◌≡◌, ◌+◌, ◌≤◌, ◌++◌, drop}
use Rattle.std.specs.Prelude.{option_map}
use Rattle.pgs_match.specs.Search.{tuple_at}
use Rattle.pgs_match.proofs.search.Search.tuple.Given as goal

abbrev pub invariant-loop-expr : goal.invariant-loop-expr
invariant-loop-expr g l =
    let graph = g.G.GraphRead.meaning l.self.graph.now in
    record {
      so_far : tuple_at graph l.exprs l.bindings ≡ option_map (λ rest. l.parts.items ++ rest) (tuple_at graph (drop l.expr-index l.exprs) l.bindings);
      no_step_back : l.fn.steps ≤ l.steps;
      at_most : l.steps ≤ l.fn.steps + l.expr-index;
    }
