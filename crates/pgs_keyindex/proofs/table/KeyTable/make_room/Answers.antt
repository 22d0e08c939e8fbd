use Rattle.std.proofs.Common.{◌≡◌, true, List, sym, subst}
use Rattle.pgs_base.specs.declared.part.Part.{Part}
use Rattle.pgs_tables.specs.Slots.{Slots, has_slot}
use Rattle.pgs_keyindex.specs.declared.member.Member.{Member}
use Rattle.pgs_keyindex.specs.Members.{member_cmp}
use Rattle.pgs_keyindex.specs.Table.{TableState, Grows}
use Rattle.pgs_keyindex.proofs.Held.{grows_again, slots_made}
use Rattle.pgs_keyindex.proofs.table.KeyTable.make_room.Goals as goal

-- seen as the table that it was
slots_seen : (table now : TableState) (rows : Slots Member (List (List Part))) → table ≡ now → rows.rows ≡ table.rows.rows →
    ((member : Member) → has_slot member_cmp table.rows member ≡ true → has_slot member_cmp rows member ≡ true) →
    Grows now (record { exclusive = table.exclusive; seed = table.seed; rows = rows; holders = table.holders })
slots_seen table now rows is same kept =
    subst (λ t. Grows t (record { exclusive = table.exclusive; seed = table.seed; rows = rows; holders = table.holders })) is (slots_made table rows same kept)

pub returns-in_err-make_slot-clause-grows : goal.returns-in_err-make_slot-clause-grows
returns-in_err-make_slot-clause-grows c =
    let inside = c.self.inside in
    slots_seen (record { exclusive = inside.exclusive; seed = inside.seed; rows = inside.rows; holders = inside.holders }) c.args.self.now c.make_slot.new.self c.self.view_is
    c.in_err-make_slot.ensures.rows c.in_err-make_slot.ensures.kept

pub returns-in_err-keep_former-clause-grows : goal.returns-in_err-keep_former-clause-grows
returns-in_err-keep_former-clause-grows c =
    let inside = c.self.inside in
    subst (Grows c.args.self.now) (sym c.keep_former-2.ensures)
    (slots_seen (record { exclusive = inside.exclusive; seed = inside.seed; rows = inside.rows; holders = inside.holders }) c.args.self.now c.make_slot.new.self c.self.view_is
    c.in_ok-make_slot.ensures.rows c.in_ok-make_slot.ensures.kept)

pub returns-in_err-list_at_each-clause-grows : goal.returns-in_err-list_at_each-clause-grows
returns-in_err-list_at_each-clause-grows c =
    let inside = c.self.inside in
    grows_again _ _ _
    (subst (Grows c.args.self.now) (sym c.keep_former-2.ensures)
    (slots_seen (record { exclusive = inside.exclusive; seed = inside.seed; rows = inside.rows; holders = inside.holders }) c.args.self.now c.make_slot.new.self c.self.view_is
    c.in_ok-make_slot.ensures.rows c.in_ok-make_slot.ensures.kept)) c.in_err-list_at_each.ensures.grows

pub returns-in_ok-list_at_each-clause-grows : goal.returns-in_ok-list_at_each-clause-grows
returns-in_ok-list_at_each-clause-grows c =
    let inside = c.self.inside in
    grows_again _ _ _
    (subst (Grows c.args.self.now) (sym c.keep_former-2.ensures)
    (slots_seen (record { exclusive = inside.exclusive; seed = inside.seed; rows = inside.rows; holders = inside.holders }) c.args.self.now c.make_slot.new.self c.self.view_is
    c.in_ok-make_slot.ensures.rows c.in_ok-make_slot.ensures.kept)) c.in_ok-list_at_each.ensures.grows

pub returns-else-is_exclusive-clause-grows : goal.returns-else-is_exclusive-clause-grows
returns-else-is_exclusive-clause-grows c =
    let inside = c.self.inside in
    subst (Grows c.args.self.now) (sym c.keep_former-2.ensures)
    (slots_seen (record { exclusive = inside.exclusive; seed = inside.seed; rows = inside.rows; holders = inside.holders }) c.args.self.now c.make_slot.new.self c.self.view_is
    c.in_ok-make_slot.ensures.rows c.in_ok-make_slot.ensures.kept)
