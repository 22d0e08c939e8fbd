use Rattle.std.proofs.Common.{◌≡◌, ◌+◌, ◌*◌, ◌^◌, ◌≤◌, suc, subst, arith}
use Rattle.pgs_match.proofs.Counts.{some_at}
use Rattle.pgs_match.specs.Bounds.{with_bound, nothing_bound}
use Rattle.pgs_match.specs.Search.{most_steps}
use Rattle.pgs_match.proofs.Bounded.{steps_most, completions_most}
use Rattle.pgs_match.proofs.Started.{admitted_good}
use Rattle.pgs_match.proofs.laws.a_search_is_short_where_few_edges_are_near.Goals as goal

pub returns-clause-steps : goal.returns-clause-steps
returns-clause-steps c = λ resolved g pattern graph valid var below plan plans elem bound admits edges most last few sparse small.
    let kind = some_at pattern.edge_vars var below in
    let good = admitted_good resolved g pattern var elem bound admits in
    let one : suc edges ≡ edges + 1 = omega arith in
    subst (λ n. 3 + most_steps resolved g pattern.atoms last plan (with_bound nothing_bound var bound) ≤ 16 * (most + 2) ^ n) one
    (steps_most resolved g pattern valid var below kind.0 kind.1 plan plans graph elem bound good.0 good.1 edges most few sparse last small)

pub returns-clause-ends : goal.returns-clause-ends
returns-clause-ends c = λ resolved g pattern graph valid var below plan plans elem bound admits edges most few sparse.
    let kind = some_at pattern.edge_vars var below in
    let good = admitted_good resolved g pattern var elem bound admits in
    completions_most resolved g pattern valid var below kind.0 kind.1 plan plans graph elem bound good.0 good.1 edges most few sparse
