use Rattle.std.proofs.Common.{◌∙◌, ap}
use Rattle.std.specs.Map.{keys_of}
use Rattle.std.specs.BTreeSet.{insert_key}
use Rattle.pgs_base.proofs.Ascending.{keys-insert_entry}
use Rattle.pgs_txn.specs.Rows.{end_cmp}
use Rattle.pgs_txn.proofs.changed_rows.put_ends.Goals as goal

pub returns : goal.returns
returns c =
    ap keys_of c.in_ok-set-2.ensures.ok ∙ keys-insert_entry end_cmp (record { node = c.args.row.now.target; edge = c.args.id }) tt c.set.new.self
    ∙ ap (λ ends. insert_key end_cmp ends (record { node = c.args.row.now.target; edge = c.args.id }))
    (ap keys_of c.in_ok-set.ensures.ok ∙ keys-insert_entry end_cmp (record { node = c.args.row.now.source; edge = c.args.id }) tt c.args.ends.now)
