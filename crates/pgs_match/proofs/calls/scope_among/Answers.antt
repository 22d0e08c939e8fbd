use Rattle.std.proofs.Common.{◌∙◌, ◌+◌, ◌*◌, ◌^◌, length, filter, ap, arith}
use Rattle.std.specs.List.{sum_by}
use Rattle.std.proofs.lemmas.Grind.{common_steps}
use Rattle.pgs_base.specs.declared.element.Elem.{Elem}
use Rattle.pgs_syntax.specs.KeyValues.{is_in_scope}
use Rattle.pgs_match.specs.declared.stand.Stand.{Stand}
use Rattle.pgs_match.specs.Learned.{unlearned}
use Rattle.pgs_match.specs.Planned.{most_edges}
use Rattle.pgs_match.specs.Spread.{elem_degree}
use Rattle.pgs_match.proofs.Along.{take_whole}
use Rattle.pgs_match.proofs.Learning.{unlearned_most, one_more}
use Rattle.pgs_match.proofs.Rates.{some_searched}
use Rattle.pgs_match.proofs.calls.scope_among.Goals as goal
use Rattle.pgs_match.proofs.calls.scope_among.Goals.{then-found+in_ok-push, else-found}

pub returns-in_err-found-clause-cost : goal.returns-in_err-found-clause-cost
returns-in_err-found-clause-cost g c = λ most within.
    let step = c.in_scope_learned.ensures.cost most (λ id near. within id) in
    let before = c.loop-elem.invariant.cost most within in
    some_searched (length c.args.elems.now) (c.loop-elem.elem-index + 1) (16 * (most + 2) ^ (most_edges c.args.key.now + 1)) c.args.steps.now c.in_scope_learned.new.steps
    (omega (arith, c.loop-elem-test.true)) (omega (arith, before, step))

pub returns-in_err-push-clause-cost : goal.returns-in_err-push-clause-cost
returns-in_err-push-clause-cost g c = λ most within.
    let step = c.in_scope_learned.ensures.cost most (λ id near. within id) in
    let before = c.loop-elem.invariant.cost most within in
    some_searched (length c.args.elems.now) (c.loop-elem.elem-index + 1) (16 * (most + 2) ^ (most_edges c.args.key.now + 1)) c.args.steps.now c.in_scope_learned.new.steps
    (omega (arith, c.loop-elem-test.true)) (omega (arith, before, step))

pub loop-elem-preserved : goal.loop-elem-preserved
loop-elem-preserved g c = record {
  so_far = elim c.if-found.branch [ then-found+in_ok-push w ↦ grind (arith, common_steps) | else-found w ↦ grind (arith, common_steps) ];
  learned = c.in_scope_learned.ensures.learned;
  no_step_back = omega (arith, c.in_scope_learned.ensures.no_step_back, c.loop-elem.invariant.no_step_back);
  cost = λ most within.
      let step = c.in_scope_learned.ensures.cost most (λ id near. within id) in
      let before = c.loop-elem.invariant.cost most within in
      omega arith;
  once = λ acyclic pairs all.
      let graph = g.G.GraphRead.meaning c.args.graph.now in
      one_more graph c.args.elems.now c.loop-elem.elem-index c.loop-elem-test.true _ c.args.steps.now c.loop-elem.steps c.in_scope_learned.new.steps
      (unlearned graph c.loop-elem.learned pairs) (unlearned graph c.in_scope_learned.new.learned pairs) (sum_by (λ (stand : Stand). elem_degree graph stand.elem + 2) pairs)
      (c.loop-elem.invariant.once acyclic pairs all) (λ listed. c.in_ok-found.ensures.once acyclic pairs (all _ listed));
}

pub returns-clause-among : goal.returns-clause-among
returns-clause-among g c =
    let graph = g.G.GraphRead.meaning c.args.graph.now in
    c.from_vec.ensures ∙ c.loop-elem.invariant.so_far
    ∙ ap (filter (is_in_scope c.args.compiled.now graph c.args.key.now)) (take_whole c.args.elems.now c.loop-elem.elem-index c.loop-elem-test.false)

pub returns-clause-cost : goal.returns-clause-cost
returns-clause-cost g c = λ most within.
    some_searched (length c.args.elems.now) c.loop-elem.elem-index (16 * (most + 2) ^ (most_edges c.args.key.now + 1)) c.args.steps.now c.loop-elem.steps
    (omega (arith, c.loop-elem.auto.elem-index-end)) (c.loop-elem.invariant.cost most within)

pub loop-elem-init : goal.loop-elem-init
loop-elem-init g c =
    let graph = g.G.GraphRead.meaning c.args.graph.now in
    record {
      so_far = c.new-scope.ensures.items;
      learned = c.new-learned.ensures c.args.compiled.now graph c.args.key.now;
      no_step_back = omega arith;
      cost = λ most within. omega arith;
      once = λ acyclic pairs all. let less = unlearned_most graph c.new-learned.result pairs in omega (arith, less);
    }

pub returns-clause-once : goal.returns-clause-once
returns-clause-once g c = λ acyclic pairs all.
    let graph = g.G.GraphRead.meaning c.args.graph.now in
    let whole = ap (sum_by (λ (elem : Elem). elem_degree graph elem + 2)) (take_whole c.args.elems.now c.loop-elem.elem-index c.loop-elem-test.false) in
    let once = c.loop-elem.invariant.once acyclic pairs all in
    omega (arith, whole, once)
