use Rattle.std.proofs.Common.{◌≡◌, ◌+◌, ◌*◌, ◌^◌, length, slice_get, refl, sym, ap, subst, ◌∙◌, arith}
use Rattle.std.proofs.lemmas.Result.{err_from_is_err_and}
use Rattle.pgs_violation.specs.Violations.{key_violations, keys_violations}
use Rattle.pgs_keyindex.specs.Standing.{key_at}
use Rattle.pgs_check_affected.specs.Touched.{touched}
use Rattle.pgs_check.specs.Standing.{AreChanges}
use Rattle.pgs_check.proofs.Indexed.{no_changes, more_changes, key_none}
use Rattle.pgs_check.proofs.KeyList.{valid_key, key_number, passed_key, first_key, no_keys_left}
use Rattle.pgs_check.proofs.OneKey.{first_passed_on}
use Rattle.pgs_check.proofs.Steps.{rate_more, rate_all, key_there}
use Rattle.pgs_check.proofs.checking.check_keys.Goals as goal

pub loop-place-init : goal.loop-place-init
loop-place-init g c = record {
  so_far = refl;
  changes = no_changes c.args.compiled.now c.args.change.now.before c.args.new.now c.args.compiled.now.guard.keys _ c.new-changes.ensures.items;
  within = omega arith;
  no_step_back = omega arith;
  cost = λ edges most few sparse. omega arith;
}

pub check_key-requires-clause-typed : goal.check_key-requires-clause-typed
check_key-requires-clause-typed g c =
    valid_key c.args.compiled.now c.resolved-facts.ensures.valid c.args.keys.now c.requires.keys c.loop-place.place c.loop-place-test.true
    c.index-keys-place.result c.index-keys-place.is

pub check_key-requires-clause-number : goal.check_key-requires-clause-number
check_key-requires-clause-number g c =
    ap (λ keys. key_at keys (c.loop-place.place + 1)) (sym c.requires.keys)
    ∙ key_number c.args.keys.now c.loop-place.place c.index-keys-place.result c.loop-place-test.true c.index-keys-place.is

pub check_key-requires-clause-conforms : goal.check_key-requires-clause-conforms
check_key-requires-clause-conforms g c =
    key_none c.args.compiled.now c.args.change.now.before c.args.compiled.now.guard.keys c.requires.conforms (c.loop-place.place + 1) c.index-keys-place.result
    (ap (λ keys. key_at keys (c.loop-place.place + 1)) (sym c.requires.keys)
    ∙ key_number c.args.keys.now c.loop-place.place c.index-keys-place.result c.loop-place-test.true c.index-keys-place.is)

pub loop-place-preserved : goal.loop-place-preserved
loop-place-preserved g c =
    let resolved = c.args.compiled.now in
    let h = c.args.new.now in
    let keys = c.args.keys.now in
    let place = c.loop-place.place in
    let key = c.index-keys-place.result in
    let at = ap (λ keys. key_at keys (place + 1)) (sym c.requires.keys) ∙ key_number keys place key c.loop-place-test.true c.index-keys-place.is in
    record {
      so_far = passed_key resolved h keys place key c.loop-place-test.true c.index-keys-place.is c.loop-place.invariant.so_far c.in_ok-rows.ensures.none;
      changes = subst (AreChanges resolved c.args.change.now.before h resolved.guard.keys (place + 1)) (sym c.in_ok-append.ensures)
          (more_changes resolved c.args.change.now.before h resolved.guard.keys place key at c.loop-place.changes.items c.in_ok-rows.rows.items
          c.loop-place.invariant.changes c.in_ok-rows.ensures.rows);
      within = omega arith;
      no_step_back = omega arith;
      cost = λ edges most few sparse.
          rate_more (2048 * length (touched c.args.change.now.before c.args.change.now.elems) * (most + 2) ^ (2 * edges + 2)) place c.args.steps.now c.loop-place.steps
          c.check_key.new.steps (c.loop-place.invariant.cost edges most few sparse)
          (c.check_key.ensures.cost edges most (few key (key_there keys place key c.index-keys-place.is c.loop-place-test.true)) sparse);
    }

pub returns-in_err-rows-clause-violated : goal.returns-in_err-rows-clause-violated
returns-in_err-rows-clause-violated g c =
    let p = err_from_is_err_and c.from_residual.result c.from_residual.ensures.1 in
    rw (p.1, p.2)
    (first_passed_on (key_violations c.args.compiled.now c.args.new.now (c.loop-place.place + 1) c.index-keys-place.result) _ c.in_err-rows.field-0.0
    (λ v first. ap (λ keys. slice_get (keys_violations c.args.compiled.now c.args.new.now 1 keys) 0) (sym c.requires.keys)
    ∙ first_key c.args.compiled.now c.args.new.now c.args.keys.now c.loop-place.place c.index-keys-place.result c.loop-place-test.true c.index-keys-place.is
    c.loop-place.invariant.so_far v first)
    c.in_err-rows.ensures.violated)

pub returns-clause-none : goal.returns-clause-none
returns-clause-none g c =
    ap (keys_violations c.args.compiled.now c.args.new.now 1) (sym c.requires.keys)
    ∙ no_keys_left c.args.compiled.now c.args.new.now c.args.keys.now c.loop-place.place c.loop-place-test.false c.loop-place.invariant.so_far

pub returns-clause-changes : goal.returns-clause-changes
returns-clause-changes g c =
    let end : c.loop-place.place ≡ length c.args.keys.now = omega arith in
    subst (λ n. AreChanges c.args.compiled.now c.args.change.now.before c.args.new.now c.args.compiled.now.guard.keys n c.loop-place.changes.items) end
    c.loop-place.invariant.changes

pub returns-clause-cost : goal.returns-clause-cost
returns-clause-cost g c = λ edges most few sparse.
    rate_all (2048 * length (touched c.args.change.now.before c.args.change.now.elems) * (most + 2) ^ (2 * edges + 2)) c.args.keys.now c.loop-place.place
    c.loop-place.invariant.within c.args.steps.now c.loop-place.steps (c.loop-place.invariant.cost edges most few sparse)

pub returns-in_err-rows-clause-cost : goal.returns-in_err-rows-clause-cost
returns-in_err-rows-clause-cost g c = λ edges most few sparse.
    let place = c.loop-place.place in
    let rate = 2048 * length (touched c.args.change.now.before c.args.change.now.elems) * (most + 2) ^ (2 * edges + 2) in
    rate_all rate c.args.keys.now (place + 1) (omega arith) c.args.steps.now c.check_key.new.steps
    (rate_more rate place c.args.steps.now c.loop-place.steps c.check_key.new.steps (c.loop-place.invariant.cost edges most few sparse)
    (c.check_key.ensures.cost edges most (few c.index-keys-place.result (key_there c.args.keys.now place c.index-keys-place.result c.index-keys-place.is c.loop-place-test.true)) sparse))

pub returns-in_err-append-clause-cost : goal.returns-in_err-append-clause-cost
returns-in_err-append-clause-cost g c = λ edges most few sparse.
    let place = c.loop-place.place in
    let rate = 2048 * length (touched c.args.change.now.before c.args.change.now.elems) * (most + 2) ^ (2 * edges + 2) in
    rate_all rate c.args.keys.now (place + 1) (omega arith) c.args.steps.now c.check_key.new.steps
    (rate_more rate place c.args.steps.now c.loop-place.steps c.check_key.new.steps (c.loop-place.invariant.cost edges most few sparse)
    (c.check_key.ensures.cost edges most (few c.index-keys-place.result (key_there c.args.keys.now place c.index-keys-place.result c.index-keys-place.is c.loop-place-test.true)) sparse))

pub returns-in_err-append-clause-violated : goal.returns-in_err-append-clause-violated
returns-in_err-append-clause-violated g c =
    let p = err_from_is_err_and c.from_residual-in_err-append.result c.from_residual-in_err-append.ensures.1 in rw (p.1, p.2) tt
