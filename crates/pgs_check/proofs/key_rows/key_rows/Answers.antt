use Rattle.std.proofs.Common.{◌+◌, ◌*◌, ◌^◌, length, arith, rules}
use Rattle.std.specs.List.{sum_by}
use Rattle.pgs_match.specs.Planned.{most_edges}
use Rattle.pgs_keyindex.specs.Standing.{values_in_scope}
use Rattle.pgs_check.specs.Clashes.{tuples_of}
use Rattle.pgs_check.specs.Rows.{change_of}
use Rattle.pgs_check.proofs.Steps.{map_next, rate_more, rate_all, rate_from, few_all}
use Rattle.pgs_check.proofs.key_rows.key_rows.Goals as goal

pub loop-elem-init : goal.loop-elem-init
loop-elem-init g c = record {
  so_far = search rules;
  learned = c.new-learned.ensures c.args.compiled.now (g.G.GraphRead.meaning c.args.graph.now) c.args.key.now;
  no_step_back = search rules;
  cost = search rules;
  few = search rules;
}

pub loop-elem-preserved : goal.loop-elem-preserved
loop-elem-preserved g c =
    let graph = g.G.GraphRead.meaning c.args.graph.now in
    let i = c.loop-elem.elem-index in
    record {
      so_far = map_next (change_of c.args.number (values_in_scope c.args.compiled.now graph c.args.key.now)) c.args.elems.now i _ c.loop-elem-test.true
          c.loop-elem.rows.items c.push.new.self.items c.in_ok-row.row c.in_ok-push.ensures.items c.in_ok-row.ensures.row c.loop-elem.invariant.so_far;
      learned = c.searched_row.ensures.learned;
      no_step_back = omega arith;
      cost = λ most each.
          rate_more (32 * (most + 2) ^ (most_edges c.args.key.now + 1)) i c.args.steps.now c.loop-elem.steps c.searched_row.new.steps (c.loop-elem.invariant.cost most each)
          (c.searched_row.ensures.cost most (each i _ c.loop-elem-test.true));
      few = λ most each.
          rate_from ((most + 2) ^ most_edges c.args.key.now) i (λ row. length (tuples_of row)) c.loop-elem.rows.items c.push.new.self.items c.in_ok-row.row
          c.in_ok-push.ensures.items (c.loop-elem.invariant.few most each) (c.in_ok-row.ensures.few most (each i _ c.loop-elem-test.true));
    }

pub returns-clause-cost : goal.returns-clause-cost
returns-clause-cost g c = λ most each.
    rate_all (32 * (most + 2) ^ (most_edges c.args.key.now + 1)) c.args.elems.now c.loop-elem.elem-index c.loop-elem.auto.elem-index-end c.args.steps.now c.loop-elem.steps
    (c.loop-elem.invariant.cost most each)

pub returns-clause-few : goal.returns-clause-few
returns-clause-few g c = λ most each.
    few_all ((most + 2) ^ most_edges c.args.key.now) c.args.elems.now c.loop-elem.elem-index c.loop-elem.auto.elem-index-end
    (sum_by (λ row. length (tuples_of row)) c.loop-elem.rows.items) (c.loop-elem.invariant.few most each)

pub returns-in_err-row-clause-cost : goal.returns-in_err-row-clause-cost
returns-in_err-row-clause-cost g c = λ most each.
    let i = c.loop-elem.elem-index in
    let rate = 32 * (most + 2) ^ (most_edges c.args.key.now + 1) in
    rate_all rate c.args.elems.now (i + 1) (omega arith) c.args.steps.now c.searched_row.new.steps
    (rate_more rate i c.args.steps.now c.loop-elem.steps c.searched_row.new.steps (c.loop-elem.invariant.cost most each) (c.searched_row.ensures.cost most (each i _ c.loop-elem-test.true)))

pub returns-in_err-push-clause-cost : goal.returns-in_err-push-clause-cost
returns-in_err-push-clause-cost g c = λ most each.
    let i = c.loop-elem.elem-index in
    let rate = 32 * (most + 2) ^ (most_edges c.args.key.now + 1) in
    rate_all rate c.args.elems.now (i + 1) (omega arith) c.args.steps.now c.searched_row.new.steps
    (rate_more rate i c.args.steps.now c.loop-elem.steps c.searched_row.new.steps (c.loop-elem.invariant.cost most each) (c.searched_row.ensures.cost most (each i _ c.loop-elem-test.true)))
