use Rattle.std.proofs.Common.{◌≡◌, true, false, ◌∙◌, sym, ap, subst}
use Rattle.std.specs.Option.{option_map_or}
use Rattle.std.specs.Map.{lookup}
use Rattle.std.specs.BTreeMap.{is_at}
use Rattle.pgs_keyindex.specs.Members.{member_cmp}
use Rattle.pgs_keyindex.specs.Rows.{has_tuple, has_value, is_exclusive}
use Rattle.pgs_keyindex.specs.Table.{TableState, is_listed}
use Rattle.pgs_keyindex.proofs.table.KeyTable.has_listed.Goals as goal

pub returns : goal.returns
returns c there =
    let inside = c.self.inside in
    let table : TableState = record { exclusive = inside.exclusive; seed = inside.seed; rows = inside.rows; holders = inside.holders } in
    let key = c.args.key in
    let elem = c.args.elem in
    let tuple = c.args.tuple.now in
    let row = c.in-Some.ensures ∙ ap (λ m. lookup (is_at (member_cmp m)) table.rows.rows) c.new.ensures in
    let value : has_value table.rows.rows key elem tuple ≡ true =
    ap (λ o. option_map_or (has_tuple tuple) o false) (sym row) ∙ sym c.contains.ensures ∙ there in
    subst (λ t. is_listed t key tuple elem ≡ true) c.self.view_is
    (c.self.invariant.held key tuple elem (ap (λ t. is_exclusive t.exclusive key) c.self.view_is ∙ c.requires) value)
