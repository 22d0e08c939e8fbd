use Rattle.std.proofs.Common.{◌≡◌, ◌+◌, ◌*◌, ◌^◌, ◌≤◌, ℕ, true, List, filter, take}
use Rattle.std.specs.List.{Contains, sum_by}
use Rattle.pgs_base.specs.declared.element.Elem.{Elem}
use Rattle.pgs_syntax.specs.KeyValues.{is_in_scope}
use Rattle.pgs_match.specs.declared.stand.Stand.{Stand}
use Rattle.pgs_match.specs.Branches.{has_no_cycle}
use Rattle.pgs_match.specs.Learned.{IsLearned, HasSearched, unlearned}
use Rattle.pgs_match.specs.Near.{HasDegreesWithin}
use Rattle.pgs_match.specs.Planned.{most_edges}
use Rattle.pgs_match.specs.Spread.{elem_degree}
use Rattle.pgs_match.proofs.calls.scope_among.Given as goal

abbrev pub invariant-loop-elem : goal.invariant-loop-elem
invariant-loop-elem g l =
    let graph = g.G.GraphRead.meaning l.graph in
    record {
      so_far : l.scope.items ≡ filter (is_in_scope l.compiled graph l.key) (take l.elem-index l.elems);
      learned : IsLearned l.compiled graph l.key l.learned;
      no_step_back : l.fn.steps ≤ l.steps;
      cost : (most : ℕ) → HasDegreesWithin graph most → l.steps ≤ l.fn.steps + l.elem-index * (16 * (most + 2) ^ (most_edges l.key + 1));
      once : has_no_cycle l.key.scope ≡ true → (pairs : List Stand) → ((elem : Elem) → Contains l.elems elem → HasSearched l.compiled graph l.key.scope elem pairs) →
          l.steps + 440 * unlearned graph l.learned pairs
          ≤ l.fn.steps + 440 * sum_by (λ (elem : Elem). elem_degree graph elem + 2) (take l.elem-index l.elems) + 440 * sum_by (λ (stand : Stand). elem_degree graph stand.elem + 2) pairs;
    }
