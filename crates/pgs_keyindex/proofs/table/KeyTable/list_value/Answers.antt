use Rattle.std.proofs.Common.{◌≡◌, true, OnOk, ◌∙◌, sym, ap, subst}
use Rattle.pgs_keyindex.specs.Digests.{digest_of}
use Rattle.pgs_keyindex.specs.Rows.{is_exclusive}
use Rattle.pgs_keyindex.specs.Table.{TableState, has_elem, listed_at}
use Rattle.pgs_keyindex.proofs.Held.{digest_key}
use Rattle.pgs_keyindex.proofs.table.KeyTable.list_value.Goals as goal

pub list-requires : goal.list-requires
list-requires c =
    let flags = c.self.inside.exclusive in
    ap (λ d. is_exclusive flags d.key) c.of-digest.ensures ∙ ap (is_exclusive flags) (digest_key c.self.inside.seed c.args.key c.args.tuple.now)
    ∙ ap (λ (t : TableState). is_exclusive t.exclusive c.args.key) c.self.view_is ∙ c.requires

pub returns-clause-there : goal.returns-clause-there
returns-clause-there c =
    let new = c.list.new.self in
    subst (λ d. OnOk c.list.result (has_elem c.args.elem (listed_at new.holders.rows d) ≡ true))
    (c.of-digest.ensures ∙ ap (λ s. digest_of s c.args.key c.args.tuple.now) (sym c.list.ensures.grows.room.seed)) c.list.ensures.there
