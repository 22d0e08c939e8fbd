use Rattle.std.proofs.Common.{◌+◌, ◌^◌, [], length, None, refl, sym, ap, ◌∙◌, arith}
use Rattle.pgs_base.specs.Graph.{element_count}
use Rattle.pgs_syntax.specs.KeyValues.{scope_of, key_values}
use Rattle.pgs_syntax.specs.Valid.{is_edge_var}
use Rattle.pgs_match.specs.Planned.{most_edges}
use Rattle.pgs_scratch.specs.Confirmed.{sharing_if_later}
use Rattle.pgs_scratch.proofs.Costs.{kind_count, scope_count, sharers}
use Rattle.pgs_scratch.proofs.FirstLater.{sharer_found, no_sharer}
use Rattle.pgs_scratch.proofs.Found.{found_next}
use Rattle.pgs_scratch.proofs.key_search.KeySearch.first_sharer.Goals as goal

pub loop-other-preserved : goal.loop-other-preserved
loop-other-preserved g c = record {
  none_so_far = found_next (sharing_if_later c.args.self.now.number (key_values c.args.self.now.compiled.now (g.G.GraphRead.meaning c.args.self.now.graph.now) c.args.self.now.key.now) c.args.row.now.elem)
      [] c.as_slice-elems.result.now c.loop-other.other-index _ c.loop-other-test.true [] [] None c.loop-other.invariant.none_so_far refl
      (sym c.in_default.is ∙ c.in_ok-found.ensures.found);
  learned = c.sharing_if_later.ensures.learned;
  no_step_back = omega arith;
  cost = λ most within.
      let before = c.loop-other.invariant.cost most within in
      let step = c.sharing_if_later.ensures.cost most within in
      omega arith;
}

pub returns-in-Some-clause-found : goal.returns-in-Some-clause-found
returns-in-Some-clause-found g c =
    let graph = g.G.GraphRead.meaning c.args.self.now.graph.now in
    sharer_found c.args.self.now.number (key_values c.args.self.now.compiled.now graph c.args.self.now.key.now) c.args.row.now.elem c.as_slice-elems.result.now
    (scope_of c.args.self.now.compiled.now graph c.args.self.now.key.now) (c.as_slice-elems.ensures ∙ c.in_ok-scope.ensures.scope) c.loop-other.other-index
    c.loop-other.invariant.none_so_far _ c.loop-other-test.true c.in-Some.found (sym c.in-Some.is ∙ c.in_ok-found.ensures.found)

pub returns-clause-found : goal.returns-clause-found
returns-clause-found g c =
    let graph = g.G.GraphRead.meaning c.args.self.now.graph.now in
    no_sharer c.args.self.now.number (key_values c.args.self.now.compiled.now graph c.args.self.now.key.now) c.args.row.now.elem c.as_slice-elems.result.now
    (scope_of c.args.self.now.compiled.now graph c.args.self.now.key.now) (c.as_slice-elems.ensures ∙ c.in_ok-scope.ensures.scope) c.loop-other.other-index
    c.loop-other.invariant.none_so_far c.loop-other-test.false

pub returns-in_err-scope-clause-cost : goal.returns-in_err-scope-clause-cost
returns-in_err-scope-clause-cost g c = λ most within.
    let graph = g.G.GraphRead.meaning c.args.self.now.graph.now in
    sharers (element_count graph) ((most + 2) ^ (most_edges c.args.self.now.key.now + 1)) _ 0 c.args.steps.now c.each_x.new.steps c.each_x.new.steps
    (kind_count graph (is_edge_var c.args.self.now.key.now.scope.edge_vars 0)) (omega arith) (c.each_x.ensures.cost most within) (omega arith)

pub returns-in_err-found-clause-cost : goal.returns-in_err-found-clause-cost
returns-in_err-found-clause-cost g c = λ most within.
    let graph = g.G.GraphRead.meaning c.args.self.now.graph.now in
    let few = scope_count c.args.self.now.compiled.now graph c.args.self.now.key.now in
    let same = ap length (c.as_slice-elems.ensures ∙ c.in_ok-scope.ensures.scope) in
    let step = c.sharing_if_later.ensures.cost most within in
    let before = c.loop-other.invariant.cost most within in
    sharers (element_count graph) ((most + 2) ^ (most_edges c.args.self.now.key.now + 1)) _ (c.loop-other.other-index + 1) c.args.steps.now c.each_x.new.steps c.sharing_if_later.new.steps
    (kind_count graph (is_edge_var c.args.self.now.key.now.scope.edge_vars 0)) (omega (arith, c.loop-other-test.true)) (c.each_x.ensures.cost most within) (omega arith)

pub returns-in-Some-clause-cost : goal.returns-in-Some-clause-cost
returns-in-Some-clause-cost g c = λ most within.
    let graph = g.G.GraphRead.meaning c.args.self.now.graph.now in
    let few = scope_count c.args.self.now.compiled.now graph c.args.self.now.key.now in
    let same = ap length (c.as_slice-elems.ensures ∙ c.in_ok-scope.ensures.scope) in
    let step = c.sharing_if_later.ensures.cost most within in
    let before = c.loop-other.invariant.cost most within in
    sharers (element_count graph) ((most + 2) ^ (most_edges c.args.self.now.key.now + 1)) _ (c.loop-other.other-index + 1) c.args.steps.now c.each_x.new.steps c.sharing_if_later.new.steps
    (kind_count graph (is_edge_var c.args.self.now.key.now.scope.edge_vars 0)) (omega (arith, c.loop-other-test.true)) (c.each_x.ensures.cost most within) (omega arith)

pub returns-clause-cost : goal.returns-clause-cost
returns-clause-cost g c = λ most within.
    let graph = g.G.GraphRead.meaning c.args.self.now.graph.now in
    let few = scope_count c.args.self.now.compiled.now graph c.args.self.now.key.now in
    let same = ap length (c.as_slice-elems.ensures ∙ c.in_ok-scope.ensures.scope) in
    sharers (element_count graph) ((most + 2) ^ (most_edges c.args.self.now.key.now + 1)) _ c.loop-other.other-index c.args.steps.now c.each_x.new.steps c.loop-other.steps
    (kind_count graph (is_edge_var c.args.self.now.key.now.scope.edge_vars 0)) (omega (arith, c.loop-other.auto.other-index-end)) (c.each_x.ensures.cost most within)
    (c.loop-other.invariant.cost most within)
