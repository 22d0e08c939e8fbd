use Rattle.std.proofs.Common.{◌≡◌, ℕ, true, cond, List, Option, Some, None, ◌∙◌, sym, ap, refl}
use Rattle.std.specs.List.Sorted.{IsStrictlySortedBy}
use Rattle.std.specs.Map.{keys_of, lookup, remove_entry}
use Rattle.std.specs.BTreeMap.{is_at, insert_entry}
use Rattle.pgs_base.specs.declared.element.Elem.{Elem}
use Rattle.pgs_base.specs.declared.part.Part.{Part}
use Rattle.pgs_base.proofs.Lookups.{lookup-insert_entry, lookup-remove_key}
use Rattle.pgs_tables.specs.Slots.{Slots}
use Rattle.pgs_keyindex.specs.declared.member.Member.{Member}
use Rattle.pgs_keyindex.specs.Members.{member_of, member_cmp}
use Rattle.pgs_keyindex.specs.MemberLaws.{member_cmp_total}
use Rattle.pgs_keyindex.specs.Rows.{KeyRows, values_at}
use Rattle.pgs_keyindex.specs.Table.{TableState, IsHeld, has_room, has_room_for}
use Rattle.pgs_keyindex.proofs.Held.{set_held}
use Rattle.pgs_keyindex.proofs.table.KeyTable.set.Goals as goal

put : (k : ℕ) (e : Elem) (member : Member) (values : List (List Part)) (old new : KeyRows) → member ≡ member_of k e → new ≡ insert_entry member_cmp old member values → (key : ℕ) (elem : Elem) →
    values_at new key elem ≡ cond (is_at (member_cmp (member_of k e)) (member_of key elem)) (Some values) (values_at old key elem)
put k e member values old new at is key elem =
    ap (lookup (is_at (member_cmp (member_of key elem)))) is ∙ lookup-insert_entry member_cmp_total (member_of key elem) member values old
    ∙ ap (λ m. cond (is_at (member_cmp m) (member_of key elem)) (Some values) (values_at old key elem)) at

taken : (k : ℕ) (e : Elem) (member : Member) (old new : KeyRows) → member ≡ member_of k e → new ≡ remove_entry (is_at (member_cmp member)) old → IsStrictlySortedBy member_cmp (keys_of old) → (key : ℕ) (elem : Elem) →
    values_at new key elem ≡ cond (is_at (member_cmp (member_of k e)) (member_of key elem)) None (values_at old key elem)
taken k e member old new at is sorted key elem =
    ap (lookup (is_at (member_cmp (member_of key elem)))) is ∙ lookup-remove_key member_cmp_total (member_of key elem) member old sorted
    ∙ ap (λ m. cond (is_at (member_cmp m) (member_of key elem)) None (values_at old key elem)) at

held_still : (table : TableState) (rows : Slots Member (List (List Part))) (k : ℕ) (e : Elem) (o : Option (List (List Part))) → IsHeld table → has_room_for table k e o ≡ true →
    ((key : ℕ) (elem : Elem) → values_at rows.rows key elem ≡ cond (is_at (member_cmp (member_of k e)) (member_of key elem)) o (values_at table.rows.rows key elem)) →
    IsHeld (record { exclusive = table.exclusive; seed = table.seed; rows = rows; holders = table.holders })
held_still table rows k e o held room is = record {
  held = λ key tuple elem exclusive value. set_held table k e o rows.rows is room key tuple elem exclusive (held.held key tuple elem exclusive) value;
  apart = held.apart;
}

pub invariant_of-self : goal.invariant_of-self
invariant_of-self c =
    let inside = c.self.inside in
    let table : TableState = record { exclusive = inside.exclusive; seed = inside.seed; rows = inside.rows; holders = inside.holders } in
    let room : has_room_for table c.args.change.key c.args.change.elem (Some c.in-Some.values) ≡ true =
    ap (has_room_for table c.args.change.key c.args.change.elem) (sym c.in-Some.is) ∙ ap (λ t. has_room t c.args.change) c.self.view_is ∙ c.requires in
    held_still table c.put.new.self c.args.change.key c.args.change.elem (Some c.in-Some.values) c.self.invariant room
    (put c.args.change.key c.args.change.elem c.new.result c.in-Some.values inside.rows.rows c.put.new.self.rows c.new.ensures c.put.ensures.rows)

pub invariant_of-self-in-None : goal.invariant_of-self-in-None
invariant_of-self-in-None c =
    let inside = c.self.inside in
    let table : TableState = record { exclusive = inside.exclusive; seed = inside.seed; rows = inside.rows; holders = inside.holders } in
    held_still table c.take.new.self c.args.change.key c.args.change.elem None c.self.invariant refl
    (taken c.args.change.key c.args.change.elem c.new-in-None.result inside.rows.rows c.take.new.self.rows c.new-in-None.ensures c.take.ensures.rows c.take.ensures.ascending)

pub invariant_of-self-in-None-2 : goal.invariant_of-self-in-None-2
invariant_of-self-in-None-2 c =
    let inside = c.self.inside in
    let table : TableState = record { exclusive = inside.exclusive; seed = inside.seed; rows = inside.rows; holders = inside.holders } in
    held_still table c.take.new.self c.args.change.key c.args.change.elem None c.self.invariant refl
    (taken c.args.change.key c.args.change.elem c.new-in-None.result inside.rows.rows c.take.new.self.rows c.new-in-None.ensures c.take.ensures.rows c.take.ensures.ascending)
