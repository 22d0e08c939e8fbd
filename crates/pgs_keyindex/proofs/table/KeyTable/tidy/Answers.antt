use Rattle.std.proofs.Common.{◌≡◌, cond, List, IfSome, ◌∙◌, sym, ap, subst}
use Rattle.std.specs.BTreeMap.{is_at}
use Rattle.std.specs.List.{filter}
use Rattle.pgs_base.specs.declared.element.Elem.{Elem}
use Rattle.pgs_tables.specs.Slots.{Slots}
use Rattle.pgs_keyindex.specs.declared.digest.Digest.{Digest}
use Rattle.pgs_keyindex.specs.Members.{digest_cmp}
use Rattle.pgs_keyindex.specs.Table.{TableState, IsHeld, listed_at, stands}
use Rattle.pgs_keyindex.proofs.Held.{tidied, tidied_apart}
use Rattle.pgs_keyindex.proofs.table.KeyTable.tidy.Goals as goal

held_still : (table : TableState) (digest : Digest) (holders : Slots Digest (List Elem)) → IsHeld table →
    ((other : Digest) → listed_at holders.rows other ≡ cond (is_at (digest_cmp digest) other) (filter (stands table digest) (listed_at table.holders.rows digest)) (listed_at table.holders.rows other)) →
    IsHeld (record { exclusive = table.exclusive; seed = table.seed; rows = table.rows; holders = holders })
held_still table digest holders held is = record {
  held = λ key tuple elem asked value. tidied table digest holders.rows is key tuple elem value (held.held key tuple elem asked value);
  apart = λ other not_so. tidied_apart table digest holders.rows is other (held.apart other not_so);
}

pub invariant_of-self-2 : goal.invariant_of-self-2
invariant_of-self-2 c =
    let inside = c.self.inside in
    let digest = c.args.digest in
    let table : TableState = record { exclusive = inside.exclusive; seed = inside.seed; rows = inside.rows; holders = inside.holders } in
    let now = c.args.self.now in
    let left : c.in-Some.standing ≡ filter (stands now digest) (listed_at now.holders.rows digest) =
    subst (λ o. IfSome o (λ few. few ≡ filter (stands now digest) (listed_at now.holders.rows digest))) c.in-Some.is c.in_ok-found.ensures in
    held_still table digest c.relist.new.holders c.self.invariant
    (λ other. c.relist.ensures other
    ∙ ap (λ l. cond (is_at (digest_cmp digest) other) c.in-Some.standing (listed_at l other)) c.in_ok-make_slot.ensures.rows
    ∙ ap (λ f. cond (is_at (digest_cmp digest) other) f (listed_at inside.holders.rows other))
    (left ∙ ap (λ t. filter (stands t digest) (listed_at t.holders.rows digest)) (sym c.self.view_is)))
