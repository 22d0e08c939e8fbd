use Rattle.std.proofs.Common.{◌+◌, ◌*◌, ◌^◌, ◌≤◌, length, sym, ap, subst, ◌∙◌}
use Rattle.std.proofs.lemmas.Result.{err_from_is_err_and}
use Rattle.pgs_base.specs.Graph.{is_graph}
use Rattle.pgs_graph.proofs.Deltas.{changed_graph}
use Rattle.pgs_violation.specs.Violations.{keys_violations}
use Rattle.pgs_keyindex.specs.Rows.{IsOwned, rows_changed}
use Rattle.pgs_keyindex.specs.Standing.{StandsFor}
use Rattle.pgs_check_affected.specs.Changes.{elems_of}
use Rattle.pgs_check_affected.specs.Touched.{touched}
use Rattle.pgs_check.specs.Costs.{HaveEdgesWithin}
use Rattle.pgs_check.specs.Standing.{ChangeEachOnce, AreChanges, index_changed}
use Rattle.pgs_check.proofs.Firsts.{none_first}
use Rattle.pgs_check.proofs.Indexed.{stands_after, owned_after}
use Rattle.pgs_check.proofs.Total.{degrees, types_only, types_read, all_three, moved_sparse, moved_count}
use Rattle.pgs_check.proofs.Whole.{no_untyped, no_of_keys, conforming, type_first, keys_first}
use Rattle.pgs_check.proofs.checking.check.Goals as goal

pub check_types-requires-clause-typed : goal.check_types-requires-clause-typed
check_types-requires-clause-typed g c = no_untyped c.args.compiled.now c.args.old.now.graph c.requires.conforms

pub check_keys-requires-clause-keys : goal.check_keys-requires-clause-keys
check_keys-requires-clause-keys g c = c.as_slice.ensures ∙ c.requires.keys

pub check_keys-requires-clause-before : goal.check_keys-requires-clause-before
check_keys-requires-clause-before g c = ap is_graph c.in_ok-change.ensures.before ∙ c.count-facts.ensures.graph

pub check_keys-requires-clause-after : goal.check_keys-requires-clause-after
check_keys-requires-clause-after g c = sym c.in_ok-change.ensures.after

pub check_keys-requires-clause-index : goal.check_keys-requires-clause-index
check_keys-requires-clause-index g c =
    subst (λ x. StandsFor c.args.compiled.now x c.args.compiled.now.guard.keys c.args.index.now) (sym c.in_ok-change.ensures.before) c.requires.index

pub check_keys-requires-clause-conforms : goal.check_keys-requires-clause-conforms
check_keys-requires-clause-conforms g c =
    ap (λ x. keys_violations c.args.compiled.now x 1 c.args.compiled.now.guard.keys) c.in_ok-change.ensures.before
    ∙ no_of_keys c.args.compiled.now c.args.old.now.graph c.requires.conforms

pub returns-in-Some-clause-violated : goal.returns-in-Some-clause-violated
returns-in-Some-clause-violated g c = type_first c.args.compiled.now c.args.new.now c.in-Some.violation (sym c.in-Some.ensures.first)

pub returns-in-Some-clause-cost : goal.returns-in-Some-clause-cost
returns-in-Some-clause-cost g c = λ edges most few sparse.
    types_only c.args.old.now.graph c.args.new.now c.args.delta.now edges most sparse (length c.args.keys.now) c.args.steps.now c.check_types.new.steps
    (c.check_types.ensures.cost most (degrees c.args.old.now.graph c.args.new.now c.args.delta.now edges most sparse))

pub returns-in_err-change-clause-cost : goal.returns-in_err-change-clause-cost
returns-in_err-change-clause-cost g c = λ edges most few sparse.
    types_read c.args.old.now.graph c.args.new.now c.args.delta.now edges most sparse (length c.args.keys.now) c.args.steps.now c.check_types.new.steps c.new.new.steps
    (c.check_types.ensures.cost most (degrees c.args.old.now.graph c.args.new.now c.args.delta.now edges most sparse)) c.new.ensures.cost

pub returns-in_err-changes-clause-violated : goal.returns-in_err-changes-clause-violated
returns-in_err-changes-clause-violated g c =
    let p = err_from_is_err_and c.from_residual-in_err-changes.result c.from_residual-in_err-changes.ensures.1 in
    rw (p.1, p.2)
    (keys_first c.args.compiled.now c.args.new.now (none_first _ (sym c.in_default.ensures.first)) c.in_err-changes.field-0.0 c.in_err-changes.ensures.violated)

pub returns-clause-conforms : goal.returns-clause-conforms
returns-clause-conforms g c =
    conforming c.args.compiled.now c.args.new.now (none_first _ (sym c.in_default.ensures.first)) c.in_ok-changes.ensures.none

pub returns-clause-once : goal.returns-clause-once
returns-clause-once g c = subst ChangeEachOnce (sym c.from_vec.ensures) c.in_ok-changes.ensures.changes.once

pub returns-clause-owned : goal.returns-clause-owned
returns-clause-owned g c =
    subst (λ changes. IsOwned c.args.index.now.exclusive (rows_changed c.args.index.now.rows changes)) (sym c.from_vec.ensures)
    (owned_after c.args.compiled.now c.args.old.now.graph c.args.new.now (ap is_graph c.requires.overlay ∙ changed_graph c.args.old.now.graph c.args.delta.now c.requires.sound)
    c.args.compiled.now.guard.keys c.args.index.now c.requires.index c.facts.ensures.ascending c.in_ok-changes.changes.items
    (subst (λ x. AreChanges c.args.compiled.now x c.args.new.now c.args.compiled.now.guard.keys (length c.args.compiled.now.guard.keys) c.in_ok-changes.changes.items) c.in_ok-change.ensures.before
    (subst (λ n. AreChanges c.args.compiled.now c.in_ok-change.change.before c.args.new.now c.args.compiled.now.guard.keys n c.in_ok-changes.changes.items)
    (ap length (c.as_slice.ensures ∙ c.requires.keys)) c.in_ok-changes.ensures.changes))
    c.in_ok-changes.ensures.none)

pub returns-clause-stands : goal.returns-clause-stands
returns-clause-stands g c =
    subst (λ changes. StandsFor c.args.compiled.now c.args.new.now c.args.compiled.now.guard.keys (index_changed c.args.index.now changes)) (sym c.from_vec.ensures)
    (stands_after c.args.compiled.now c.args.old.now.graph c.args.new.now (ap is_graph c.requires.overlay ∙ changed_graph c.args.old.now.graph c.args.delta.now c.requires.sound)
    c.args.compiled.now.guard.keys c.args.index.now c.requires.index c.facts.ensures.ascending c.in_ok-changes.changes.items
    (subst (λ x. AreChanges c.args.compiled.now x c.args.new.now c.args.compiled.now.guard.keys (length c.args.compiled.now.guard.keys) c.in_ok-changes.changes.items) c.in_ok-change.ensures.before
    (subst (λ n. AreChanges c.args.compiled.now c.in_ok-change.change.before c.args.new.now c.args.compiled.now.guard.keys n c.in_ok-changes.changes.items)
    (ap length (c.as_slice.ensures ∙ c.requires.keys)) c.in_ok-changes.ensures.changes)))

pub returns-in_err-changes-clause-cost : goal.returns-in_err-changes-clause-cost
returns-in_err-changes-clause-cost g c = λ edges most few sparse.
    let old = c.args.old.now.graph in
    let new = c.args.new.now in
    let elems = elems_of c.args.delta.now in
    let change = c.in_ok-change.change in
    let moved = moved_sparse old new change.before change.after elems change.elems c.in_ok-change.ensures.before c.in_ok-change.ensures.after c.in_ok-change.ensures.elems
    (2 * edges) most sparse in
    let count = moved_count old change.before elems change.elems c.in_ok-change.ensures.before c.in_ok-change.ensures.elems in
    let keys = ap length c.as_slice.ensures in
    let each = c.check_keys.ensures.cost edges most (subst (λ ks. HaveEdgesWithin ks edges) (sym c.as_slice.ensures) few) moved in
    all_three old new c.args.delta.now edges most sparse (length c.args.keys.now) c.args.steps.now c.check_types.new.steps c.new.new.steps c.check_keys.new.steps
    (c.check_types.ensures.cost most (degrees old new c.args.delta.now edges most sparse)) c.new.ensures.cost
    (subst (λ k. c.check_keys.new.steps ≤ c.new.new.steps + k * (2048 * length (touched old elems) * (most + 2) ^ (2 * edges + 2))) keys
    (subst (λ u. c.check_keys.new.steps ≤ c.new.new.steps + length c.as_slice.result.now * (2048 * u * (most + 2) ^ (2 * edges + 2))) count each))

pub returns-clause-cost : goal.returns-clause-cost
returns-clause-cost g c = λ edges most few sparse.
    let old = c.args.old.now.graph in
    let new = c.args.new.now in
    let elems = elems_of c.args.delta.now in
    let change = c.in_ok-change.change in
    let moved = moved_sparse old new change.before change.after elems change.elems c.in_ok-change.ensures.before c.in_ok-change.ensures.after c.in_ok-change.ensures.elems
    (2 * edges) most sparse in
    let count = moved_count old change.before elems change.elems c.in_ok-change.ensures.before c.in_ok-change.ensures.elems in
    let keys = ap length c.as_slice.ensures in
    let each = c.check_keys.ensures.cost edges most (subst (λ ks. HaveEdgesWithin ks edges) (sym c.as_slice.ensures) few) moved in
    all_three old new c.args.delta.now edges most sparse (length c.args.keys.now) c.args.steps.now c.check_types.new.steps c.new.new.steps c.check_keys.new.steps
    (c.check_types.ensures.cost most (degrees old new c.args.delta.now edges most sparse)) c.new.ensures.cost
    (subst (λ k. c.check_keys.new.steps ≤ c.new.new.steps + k * (2048 * length (touched old elems) * (most + 2) ^ (2 * edges + 2))) keys
    (subst (λ u. c.check_keys.new.steps ≤ c.new.new.steps + length c.as_slice.result.now * (2048 * u * (most + 2) ^ (2 * edges + 2))) count each))

pub returns-in_err-change-clause-violated : goal.returns-in_err-change-clause-violated
returns-in_err-change-clause-violated g c =
    let p = err_from_is_err_and c.from_residual.result c.from_residual.ensures.1 in rw (p.1, p.2) tt
