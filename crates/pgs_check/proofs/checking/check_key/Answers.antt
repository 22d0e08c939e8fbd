use Rattle.std.proofs.Common.{◌≡◌, true, map, sym, ap, subst, ◌∙◌, arith, Option, List, IfErr, OnOk, None, Ok}
use Rattle.std.proofs.lemmas.Result.{err_from_is_err_and}
use Rattle.pgs_base.specs.declared.element.Elem.{Elem}
use Rattle.pgs_base.specs.declared.part.Part.{Part}
use Rattle.pgs_base.specs.Order.{ascends, elem_cmp}
use Rattle.pgs_keyindex.specs.declared.change.KeyChange.{KeyChange}
use Rattle.pgs_keyindex.specs.Rows.{is_exclusive}
use Rattle.pgs_keyindex.specs.Standing.{values_in_scope}
use Rattle.pgs_check.specs.Clashes.{IsOwner}
use Rattle.pgs_check.specs.Rows.{first_of_rows}
use Rattle.pgs_check.specs.Standing.{AreRows, IsFound}
use Rattle.pgs_check.proofs.OneKey.{found_first, nothing_found, no_rows_first, rows_are, its_elems, none_listed}
use Rattle.pgs_check.proofs.Owners.{exclusive_at}
use Rattle.pgs_check.proofs.checking.check_key.Goals as goal

pub kept_rows-requires-clause-exclusive : goal.kept_rows-requires-clause-exclusive
kept_rows-requires-clause-exclusive g c = λ asked.
    subst (λ es. is_exclusive es c.args.number ≡ true) (sym c.requires.index.exclusive)
    (exclusive_at c.args.compiled.now.guard.keys c.args.number c.args.key.now c.requires.number asked)

pub kept_rows-requires-clause-ascending : goal.kept_rows-requires-clause-ascending
kept_rows-requires-clause-ascending g c =
    let change = c.args.change.now in
    let are = c.in_ok-rows.ensures.rows in
    let elem = λ (row : KeyChange). row.elem in
    ap (ascends elem_cmp)
    (c.as_slice-elems.ensures.value ∙ c.in_ok-changed.ensures ∙ ap (map elem) c.as_slice-given.ensures.value
    ∙ its_elems c.args.compiled.now change.before change.after c.args.key.now c.args.number c.in_ok-rows.rows.items are)
    ∙ are.ascending

pub kept_rows-requires-clause-elems : goal.kept_rows-requires-clause-elems
kept_rows-requires-clause-elems g c =
    sym (c.as_slice-elems.ensures.value ∙ c.in_ok-changed.ensures ∙ ap (map (λ (row : KeyChange). row.elem)) c.as_slice-given.ensures.value)

pub returns-in_err-rows-clause-violated : goal.returns-in_err-rows-clause-violated
returns-in_err-rows-clause-violated g c =
    let p = err_from_is_err_and c.from_residual.result c.from_residual.ensures.1 in rw (p.1, p.2) tt

pub returns-in_err-changed-clause-violated : goal.returns-in_err-changed-clause-violated
returns-in_err-changed-clause-violated g c =
    let p = err_from_is_err_and c.from_residual-in_err-changed.result c.from_residual-in_err-changed.ensures.1 in rw (p.1, p.2) tt

pub returns-in_err-rows-clause-cost : goal.returns-in_err-rows-clause-cost
returns-in_err-rows-clause-cost g c = λ edges most within sparse. c.changed_rows.ensures.cost edges most within sparse

pub returns-in_err-changed-clause-cost : goal.returns-in_err-changed-clause-cost
returns-in_err-changed-clause-cost g c = λ edges most within sparse. c.changed_rows.ensures.cost edges most within sparse

pub returns-then-is_empty-clause-cost : goal.returns-then-is_empty-clause-cost
returns-then-is_empty-clause-cost g c = λ edges most within sparse. c.changed_rows.ensures.cost edges most within sparse

-- without rows there is nothing to be found
pub returns-then-is_empty-clause-none : goal.returns-then-is_empty-clause-none
returns-then-is_empty-clause-none g c =
    let resolved = c.args.compiled.now in
    let key = c.args.key.now in
    let number = c.args.number in
    let before = c.args.change.now.before in
    let rows = c.in_ok-rows.rows.items in
    let are = subst (λ h. AreRows number (values_in_scope resolved before key) (values_in_scope resolved h key) rows) (sym c.requires.after) c.in_ok-rows.ensures.rows in
    let none = sym c.as_slice-given.ensures.value ∙ none_listed c.as_slice-given.result.now (sym c.is_empty.ensures ∙ c.if-is_empty.true) in
    nothing_found resolved before c.args.new.now c.requires.before c.count-facts.ensures.graph resolved.guard.keys number key
    c.requires.number c.args.index.now c.requires.index c.requires.conforms are.elems are.ascending are.others rows are.are
    {T = List KeyChange} (Ok rows) (λ owner owns. subst (λ rs. first_of_rows key.qualifiers number owner rs ≡ None) (sym none) (no_rows_first key.qualifiers number owner))

pub returns-then-is_empty-clause-rows : goal.returns-then-is_empty-clause-rows
returns-then-is_empty-clause-rows g c =
    let before = c.args.change.now.before in
    subst (λ h. AreRows c.args.number (values_in_scope c.args.compiled.now before c.args.key.now) (values_in_scope c.args.compiled.now h c.args.key.now) c.in_ok-rows.rows.items)
    (sym c.requires.after) c.in_ok-rows.ensures.rows

pub returns-clause-violated : goal.returns-clause-violated
returns-clause-violated g c =
    let resolved = c.args.compiled.now in
    let key = c.args.key.now in
    let number = c.args.number in
    let before = c.args.change.now.before in
    let rows = c.in_ok-rows.rows.items in
    let are = subst (λ h. AreRows number (values_in_scope resolved before key) (values_in_scope resolved h key) rows) (sym c.requires.after) c.in_ok-rows.ensures.rows in
    found_first resolved before c.args.new.now c.requires.before c.count-facts.ensures.graph resolved.guard.keys number key
    c.requires.number c.args.index.now c.requires.index c.requires.conforms are.elems are.ascending are.others rows are.are
    c.kept_rows.result
    (subst (λ elems. (owner : List Part → Option Elem) → (key.qualifiers.exclusive ≡ true → IsOwner c.args.index.now.rows number elems owner) →
    IfErr c.kept_rows.result (IsFound (first_of_rows key.qualifiers number owner rows)))
    (c.as_slice-elems.ensures.value ∙ c.in_ok-changed.ensures ∙ ap (map (λ (row : KeyChange). row.elem)) c.as_slice-given.ensures.value ∙ its_elems resolved before c.args.new.now key number rows are)
    c.kept_rows.ensures.violated)

pub returns-clause-none : goal.returns-clause-none
returns-clause-none g c =
    let resolved = c.args.compiled.now in
    let key = c.args.key.now in
    let number = c.args.number in
    let before = c.args.change.now.before in
    let rows = c.in_ok-rows.rows.items in
    let are = subst (λ h. AreRows number (values_in_scope resolved before key) (values_in_scope resolved h key) rows) (sym c.requires.after) c.in_ok-rows.ensures.rows in
    nothing_found resolved before c.args.new.now c.requires.before c.count-facts.ensures.graph resolved.guard.keys number key
    c.requires.number c.args.index.now c.requires.index c.requires.conforms are.elems are.ascending are.others rows are.are
    c.kept_rows.result
    (subst (λ elems. (owner : List Part → Option Elem) → (key.qualifiers.exclusive ≡ true → IsOwner c.args.index.now.rows number elems owner) →
    OnOk c.kept_rows.result (first_of_rows key.qualifiers number owner rows ≡ None))
    (c.as_slice-elems.ensures.value ∙ c.in_ok-changed.ensures ∙ ap (map (λ (row : KeyChange). row.elem)) c.as_slice-given.ensures.value ∙ its_elems resolved before c.args.new.now key number rows are)
    c.kept_rows.ensures.none)

pub returns-clause-rows : goal.returns-clause-rows
returns-clause-rows g c =
    let resolved = c.args.compiled.now in
    let key = c.args.key.now in
    let number = c.args.number in
    let before = c.args.change.now.before in
    let rows = c.in_ok-rows.rows.items in
    let are = subst (λ h. AreRows number (values_in_scope resolved before key) (values_in_scope resolved h key) rows) (sym c.requires.after) c.in_ok-rows.ensures.rows in
    rows_are resolved before c.args.new.now c.requires.before c.count-facts.ensures.graph resolved.guard.keys number key
    c.requires.number c.args.index.now c.requires.index c.requires.conforms are.elems are.ascending are.others rows are.are
    (λ kept. kept.items) c.kept_rows.result c.kept_rows.ensures.kept

pub returns-clause-cost : goal.returns-clause-cost
returns-clause-cost g c = λ edges most within sparse.
    let owned = c.in_ok-rows.ensures.owned c.args.index.now.rows edges most within sparse in
    omega (arith, owned, c.kept_rows.ensures.cost)
