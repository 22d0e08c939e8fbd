use Rattle.std.proofs.Common.{◌≡◌, ◌+◌, false, not, cond, ◌∙◌, sym, ap, arith}
use Rattle.std.specs.Option.{option_map_or}
use Rattle.std.proofs.lemmas.List.Sums.{count_by_more_yes, count_by_more_no, sum_by-take-le}
use Rattle.pgs_keyindex.specs.Rows.{has_tuple, has_value}
use Rattle.pgs_check.specs.Clashes.{comes, with_holder, with_holders}
use Rattle.pgs_check.proofs.Owned.{had_before, one_owner}
use Rattle.pgs_check.proofs.Steps.{holders_step, holders_done}
use Rattle.pgs_check.proofs.sharing.Owners.with_owners_of.Goals.{then-not-is_former+in_ok-least, else-not-is_former}
use Rattle.pgs_check.proofs.sharing.Owners.with_owners_of.Goals as goal

pub loop-tuple-preserved : goal.loop-tuple-preserved
loop-tuple-preserved g c =
    let number = c.args.self.now.number in
    let rows = c.args.self.now.index.now.rows in
    let elem = c.args.elem in
    let tuples = c.args.tuples.now in
    let i = c.loop-tuple.tuple-index in
    let tuple = c.tuple-item.result in
    let come = comes rows number elem in
    let had : has_value rows number elem tuple ≡ c.is_former.result =
    ap (λ o. option_map_or (has_tuple tuple) o false) (sym c.values_of-former.ensures.values) ∙ sym c.is_former.ensures in
    elim c.if-not-is_former.branch [
      | then-not-is_former+in_ok-least w ↦
          let more = count_by_more_yes come tuples i tuple c.loop-tuple-test.true (ap come (sym c.tuple-item.is) ∙ ap not (had ∙ w.if-not-is_former.true)) in
          record {
            so_far = λ owner owns.
                holders_step number owner elem (with_holders number owner elem c.args.found tuples) tuples i tuple c.tuple-item.is c.loop-tuple-test.true
                c.loop-tuple.found c.if-not-is_former.found
                (w.found-is ∙ w.in_ok-least.ensures ∙ ap (with_holder number elem c.loop-tuple.found tuple)
                (one_owner _ w.unchanged_owner-owner.result (owner tuple) w.unchanged_owner-owner.ensures.owner (owns tuple)))
                (c.loop-tuple.invariant.so_far owner owns);
            no_step_back = omega (arith, w.steps-is, w.unchanged_owner-owner.ensures.tick);
            cost = omega (arith, w.steps-is, w.unchanged_owner-owner.ensures.tick);
          }
      | else-not-is_former w ↦
          let more = count_by_more_no come tuples i tuple c.loop-tuple-test.true (ap come (sym c.tuple-item.is) ∙ ap not (had ∙ w.if-not-is_former.false)) in
          record {
            so_far = λ owner owns.
                holders_step number owner elem (with_holders number owner elem c.args.found tuples) tuples i tuple c.tuple-item.is c.loop-tuple-test.true
                c.loop-tuple.found c.if-not-is_former.found
                (w.found-is ∙ had_before c.args.self.now.index.now.exclusive rows number c.facts.ensures.owned c.requires.exclusive c.args.self.now.changed.now owner owns
                elem c.requires.changed tuple (had ∙ w.if-not-is_former.false) c.loop-tuple.found)
                (c.loop-tuple.invariant.so_far owner owns);
            no_step_back = omega (arith, w.steps-is);
            cost = omega (arith, w.steps-is);
          }
    ]

pub returns-clause-least : goal.returns-clause-least
returns-clause-least g c = λ owner owns.
    holders_done c.args.self.now.number owner c.args.elem (with_holders c.args.self.now.number owner c.args.elem c.args.found c.args.tuples.now) c.args.tuples.now
    c.loop-tuple.tuple-index c.loop-tuple-test.false c.loop-tuple.found (c.loop-tuple.invariant.so_far owner owns)

pub returns-clause-cost : goal.returns-clause-cost
returns-clause-cost g c =
    let come = comes c.args.self.now.index.now.rows c.args.self.now.number c.args.elem in
    let part = sum_by-take-le (λ tuple. cond (come tuple) 1 0) c.args.tuples.now c.loop-tuple.tuple-index in
    omega (arith, c.loop-tuple.invariant.cost)

pub returns-in_err-least-clause-cost : goal.returns-in_err-least-clause-cost
returns-in_err-least-clause-cost g c =
    let rows = c.args.self.now.index.now.rows in
    let number = c.args.self.now.number in
    let elem = c.args.elem in
    let tuples = c.args.tuples.now in
    let i = c.loop-tuple.tuple-index in
    let tuple = c.tuple-item.result in
    let come = comes rows number elem in
    let had : has_value rows number elem tuple ≡ c.is_former.result =
    ap (λ o. option_map_or (has_tuple tuple) o false) (sym c.values_of-former.ensures.values) ∙ sym c.is_former.ensures in
    let more = count_by_more_yes come tuples i tuple c.loop-tuple-test.true (ap come (sym c.tuple-item.is) ∙ ap not (had ∙ c.if-not-is_former.true)) in
    let part = sum_by-take-le (λ t. cond (come t) 1 0) tuples (i + 1) in
    omega (arith, c.loop-tuple.invariant.cost, c.unchanged_owner-owner.ensures.tick)
