use Rattle.std.proofs.Common.{◌≡◌, ◌+◌, ◌*◌, ◌≤◌, map, filter, length}
use Rattle.std.specs.List.{sum_by}
use Rattle.std.proofs.lemmas.Bool.{and_parts}
use Rattle.std.proofs.lemmas.Result.{IfOk-weaker}
use Rattle.pgs_keyindex.specs.Standing.{values_in_scope}
use Rattle.pgs_check.specs.Clashes.{tuples_of}
use Rattle.pgs_check.specs.Own.{is_altered, altered_to}
use Rattle.pgs_check.specs.Standing.{AreRows}
use Rattle.pgs_check.proofs.LocalRows.{local_are, few_of_change}
use Rattle.pgs_check.proofs.local_rows.local_rows.Goals as goal

pub returns-clause-rows : goal.returns-clause-rows
returns-clause-rows c =
    let change = c.args.change.now in
    let resolved = c.args.compiled.now in
    let key = c.args.key.now in
    let number = c.args.number in
    let known = c.known-known.result.now in
    IfOk-weaker c.altered_rows.result (λ rows. rows.items ≡ map (altered_to resolved key number) (filter (is_altered resolved key) known))
    (λ rows. AreRows number (values_in_scope resolved change.before key) (values_in_scope resolved change.after key) rows.items)
    (λ rows are. local_are resolved change.before change.after key (and_parts _ _ (and_parts _ _ c.requires.typed).0).0 c.requires.local number change.elems known c.known-known.ensures rows.items are)
    c.altered_rows.ensures

pub returns-clause-few : goal.returns-clause-few
returns-clause-few c =
    let change = c.args.change.now in
    let resolved = c.args.compiled.now in
    let key = c.args.key.now in
    let number = c.args.number in
    let known = c.known-known.result.now in
    IfOk-weaker c.altered_rows.result (λ rows. rows.items ≡ map (altered_to resolved key number) (filter (is_altered resolved key) known))
    (λ rows. length rows.items + sum_by (λ row. length (tuples_of row)) rows.items ≤ 2 * length change.elems)
    (λ rows are. few_of_change resolved key number change.before change.after change.elems known c.known-known.ensures rows.items are)
    c.altered_rows.ensures
