use Rattle.std.proofs.Common.{◌≡◌, ◌+◌, ◌*◌, ◌^◌, ◌≤◌, length, map, sym, ap, subst, ◌∙◌, arith}
use Rattle.std.proofs.lemmas.List.{length-map}
use Rattle.std.proofs.lemmas.Result.{IfOk-weaker}
use Rattle.std.specs.List.{All, sum_by}
use Rattle.pgs_match.specs.Near.{IsSparse}
use Rattle.pgs_match.specs.Planned.{most_edges}
use Rattle.pgs_keyindex.specs.Standing.{values_in_scope}
use Rattle.pgs_check_affected.specs.Touched.{touched}
use Rattle.pgs_check.specs.Clashes.{look_ups}
use Rattle.pgs_check.specs.Rows.{change_of}
use Rattle.pgs_check.specs.Standing.{AreRows}
use Rattle.pgs_check.proofs.Costly.{fewer_edges, rows_only, rows_owned, search_only}
use Rattle.pgs_check.proofs.OneKey.{no_rows, searched_are}
use Rattle.pgs_check.proofs.changed_rows.searched_rows.Goals as goal

pub returns-then-not-can_alter-clause-rows : goal.returns-then-not-can_alter-clause-rows
returns-then-not-can_alter-clause-rows g c =
    let change = c.args.change.now in
    no_rows c.args.compiled.now change.before change.after c.args.key.now c.args.number (c.can_alter.ensures c.if-not-can_alter.true) c.new.result.items c.new.ensures.items

pub returns-then-not-can_alter-clause-owned : goal.returns-then-not-can_alter-clause-owned
returns-then-not-can_alter-clause-owned g c = λ index edges most within sparse.
    let u = length (touched c.args.change.now.before c.args.change.now.elems) in
    subst (λ rows. c.args.steps.now + sum_by (look_ups index c.args.number) rows ≤ c.args.steps.now + 2048 * u * (most + 2) ^ (2 * edges + 2)) (sym c.new.ensures.items) (omega arith)

pub returns-in_err-changed-clause-cost : goal.returns-in_err-changed-clause-cost
returns-in_err-changed-clause-cost g c = λ edges most within sparse.
    search_only most edges (length (touched c.args.change.now.before c.args.change.now.elems)) c.args.steps.now c.affected.new.steps
    (c.affected.ensures.cost edges most within sparse)

pub returns-clause-rows : goal.returns-clause-rows
returns-clause-rows g c =
    let change = c.args.change.now in
    let resolved = c.args.compiled.now in
    let key = c.args.key.now in
    IfOk-weaker c.key_rows.result (λ rows. rows.items ≡ map (change_of c.args.number (values_in_scope resolved c.args.new.now key)) c.as_slice-elems.result.now)
    (λ rows. AreRows c.args.number (values_in_scope resolved change.before key) (values_in_scope resolved change.after key) rows.items)
    (λ rows are. searched_are resolved change.before change.after key c.args.number c.in_ok-changed.changed c.in_ok-changed.ensures.ascending c.in_ok-changed.ensures.holds
    c.args.new.now c.requires.after c.as_slice-elems.result.now c.as_slice-elems.ensures rows.items are)
    c.key_rows.ensures.rows

pub returns-clause-cost : goal.returns-clause-cost
returns-clause-cost g c = λ edges most within sparse.
    let change = c.args.change.now in
    let own = most_edges c.args.key.now in
    let u = length (touched change.before change.elems) in
    let same = c.as_slice-elems.ensures in
    let near = subst (All (λ elem. IsSparse c.args.new.now own elem most)) (sym same)
    (subst (λ h. All (λ elem. IsSparse h own elem most) c.in_ok-changed.changed) (sym c.requires.after)
    (fewer_edges change.before change.after own edges most within c.in_ok-changed.changed (c.in_ok-changed.ensures.near edges most within sparse))) in
    rows_only most own edges within u (length c.as_slice-elems.result.now)
    (subst (λ n. n ≤ 80 * u * (most + 2) ^ edges) (sym (ap length same)) (c.in_ok-changed.ensures.few edges most within sparse))
    c.args.steps.now c.affected.new.steps c.key_rows.new.steps (c.affected.ensures.cost edges most within sparse) (c.key_rows.ensures.cost most near)

pub returns-clause-owned : goal.returns-clause-owned
returns-clause-owned g c = λ index edges most within sparse.
    let change = c.args.change.now in
    let resolved = c.args.compiled.now in
    let key = c.args.key.now in
    let own = most_edges key in
    let u = length (touched change.before change.elems) in
    let same = c.as_slice-elems.ensures in
    let values = change_of c.args.number (values_in_scope resolved c.args.new.now key) in
    let near = subst (All (λ elem. IsSparse c.args.new.now own elem most)) (sym same)
    (subst (λ h. All (λ elem. IsSparse h own elem most) c.in_ok-changed.changed) (sym c.requires.after)
    (fewer_edges change.before change.after own edges most within c.in_ok-changed.changed (c.in_ok-changed.ensures.near edges most within sparse))) in
    rows_owned most own edges within u (length c.as_slice-elems.result.now)
    (subst (λ n. n ≤ 80 * u * (most + 2) ^ edges) (sym (ap length same)) (c.in_ok-changed.ensures.few edges most within sparse))
    (λ rows. rows.items) c.key_rows.result index c.args.number c.args.steps.now c.affected.new.steps c.key_rows.new.steps
    (c.affected.ensures.cost edges most within sparse) (c.key_rows.ensures.cost most near)
    (IfOk-weaker c.key_rows.result (λ rows. rows.items ≡ map values c.as_slice-elems.result.now) (λ rows. length rows.items ≡ length c.as_slice-elems.result.now)
    (λ rows are. ap length are ∙ length-map c.as_slice-elems.result.now values) c.key_rows.ensures.rows)
    (c.key_rows.ensures.few most near)
