use Rattle.std.proofs.Common.{◌∙◌, ap, rules}
use Rattle.std.specs.BTreeMap.{is_at}
use Rattle.std.specs.Map.{keys_of}
use Rattle.std.specs.Set.{remove_key}
use Rattle.pgs_base.proofs.Ascending.{keys-remove_entry}
use Rattle.pgs_txn.specs.Rows.{end_cmp}
use Rattle.pgs_txn.proofs.changed_rows.remove_ends.Goals as goal

pub returns-in-Some-Some : goal.returns-in-Some-Some
returns-in-Some-Some c =
    let at_source = is_at (end_cmp (record { node = c.in-Some-Some.row.source; edge = c.args.id })) in
    let at_target = is_at (end_cmp (record { node = c.in-Some-Some.row.target; edge = c.args.id })) in
    let taken = ap keys_of c.unset-in-Some-Some.ensures.rows ∙ keys-remove_entry at_target c.unset.new.self
    ∙ ap (remove_key at_target) (ap keys_of c.unset.ensures.rows ∙ keys-remove_entry at_source c.args.ends.now) in
    search (rules, taken)
