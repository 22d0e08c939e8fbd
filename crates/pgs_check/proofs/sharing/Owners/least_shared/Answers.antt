use Rattle.std.proofs.Common.{◌≡◌, ◌+◌, ◌∙◌, IfOk, ap, None, subst, sym, arith}
use Rattle.std.specs.Prelude.{count_by}
use Rattle.std.proofs.lemmas.List.Sums.{sum_by-take-le}
use Rattle.pgs_check_affected.specs.Local.{is_one_of}
use Rattle.pgs_check.specs.Clashes.{comes, look_ups, with_holders, with_owners, with_earlier}
use Rattle.pgs_check.specs.Rows.{least_shared}
use Rattle.pgs_check.proofs.Chosen.{asked_is}
use Rattle.pgs_check.proofs.Alone.{alone_earlier}
use Rattle.pgs_check.proofs.Owned.{elem_there}
use Rattle.pgs_check.proofs.Steps.{owners_step, owners_done, sum_next}
use Rattle.pgs_check.proofs.sharing.Owners.least_shared.Goals as goal

pub loop-row-preserved : goal.loop-row-preserved
loop-row-preserved g c =
    let number = c.args.self.now.number in
    let rows = c.args.rows.now in
    let i = c.loop-row.row-index in
    let row = c.row-item.result in
    let index = c.args.self.now.index.now.rows in
    let next = sum_next (look_ups index number) rows i row c.row-item.is c.loop-row-test.true in
    let same = ap (count_by (comes index number row.elem)) c.tuples_of-tuples.ensures in
    let before = c.loop-row.invariant.cost in
    record {
      so_far = λ owner owns.
          owners_step number owner (with_owners number owner None rows) rows i row c.row-item.is c.loop-row-test.true c.loop-row.found c.in_ok-least.least
          (c.in_ok-least.ensures.least owner owns ∙ ap (with_holders number owner row.elem c.loop-row.found) c.tuples_of-tuples.ensures)
          (c.loop-row.invariant.so_far owner owns);
      no_step_back = omega arith;
      cost = omega (arith, c.with_owners_of.ensures.cost);
    }

pub with_owners_of-requires-clause-exclusive : goal.with_owners_of-requires-clause-exclusive
with_owners_of-requires-clause-exclusive g c = c.requires.exclusive c.if-not-asked.false

pub with_owners_of-requires-clause-changed : goal.with_owners_of-requires-clause-changed
with_owners_of-requires-clause-changed g c =
    ap (λ es. is_one_of es c.row-item.result.elem) (sym c.requires.elems) ∙ elem_there c.args.rows.now c.loop-row.row-index c.row-item.result c.row-item.is c.loop-row-test.true

pub returns-then-rows-lt2-clause-least : goal.returns-then-rows-lt2-clause-least
returns-then-rows-lt2-clause-least g c = λ owner owns.
    let number = c.args.self.now.number in
    let rows = c.args.rows.now in
    let asked = c.if-not-asked.false in
    owners_done number owner (with_owners number owner None rows) rows c.loop-row.row-index c.loop-row-test.false c.loop-row.found (c.loop-row.invariant.so_far owner (owns asked))
    ∙ sym (alone_earlier number _ rows c.if-rows-lt2.true) ∙ sym (asked_is c.args.asked (least_shared number owner rows) asked)

pub returns-clause-least : goal.returns-clause-least
returns-clause-least g c = λ owner owns.
    let number = c.args.self.now.number in
    let rows = c.args.rows.now in
    let asked = c.if-not-asked.false in
    subst (λ shared. IfOk c.with_earlier.result (λ least. least ≡ shared))
    (ap (λ found. with_earlier number (λ tuple. None) found rows)
    (owners_done number owner (with_owners number owner None rows) rows c.loop-row.row-index c.loop-row-test.false c.loop-row.found (c.loop-row.invariant.so_far owner (owns asked)))
    ∙ sym (asked_is c.args.asked (least_shared number owner rows) asked))
    c.with_earlier.ensures

pub returns-then-rows-lt2-clause-cost : goal.returns-then-rows-lt2-clause-cost
returns-then-rows-lt2-clause-cost g c = let part = sum_by-take-le (look_ups c.args.self.now.index.now.rows c.args.self.now.number) c.args.rows.now c.loop-row.row-index in omega (arith, c.loop-row.invariant.cost)

pub returns-clause-cost : goal.returns-clause-cost
returns-clause-cost g c = let part = sum_by-take-le (look_ups c.args.self.now.index.now.rows c.args.self.now.number) c.args.rows.now c.loop-row.row-index in omega (arith, c.loop-row.invariant.cost)

pub returns-in_err-least-clause-cost : goal.returns-in_err-least-clause-cost
returns-in_err-least-clause-cost g c =
    let number = c.args.self.now.number in
    let index = c.args.self.now.index.now.rows in
    let rows = c.args.rows.now in
    let i = c.loop-row.row-index in
    let row = c.row-item.result in
    let next = sum_next (look_ups index number) rows i row c.row-item.is c.loop-row-test.true in
    let part = sum_by-take-le (look_ups index number) rows (i + 1) in
    let same = ap (count_by (comes index number row.elem)) c.tuples_of-tuples.ensures in
    omega (arith, c.loop-row.invariant.cost, c.with_owners_of.ensures.cost)
