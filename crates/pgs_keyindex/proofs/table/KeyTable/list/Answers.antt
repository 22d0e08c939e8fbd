use Rattle.std.proofs.Common.{◌≡◌, true, cond, List, [], ◌∷◌, ◌++◌, ◌∙◌, ap, subst}
use Rattle.std.specs.BTreeMap.{is_at}
use Rattle.pgs_base.specs.declared.element.Elem.{Elem}
use Rattle.pgs_tables.specs.Slots.{Slots}
use Rattle.pgs_keyindex.specs.declared.digest.Digest.{Digest}
use Rattle.pgs_keyindex.specs.Digests.{digest_of}
use Rattle.pgs_keyindex.specs.Members.{digest_cmp}
use Rattle.pgs_keyindex.specs.Rows.{is_exclusive}
use Rattle.pgs_keyindex.specs.Table.{TableState, IsHeld, Grows, listed_at}
use Rattle.pgs_keyindex.proofs.Held.{grown, grown_apart, listed_more}
use Rattle.pgs_keyindex.proofs.table.KeyTable.list.Goals as goal

-- what is listed after the slot was made and the elements were put into it
relisted : (digest : Digest) (elem : Elem) (elems few : List Elem) (old made new : List (Digest × List Elem)) → few ≡ elems ++ elem ∷ [] → elems ≡ listed_at old digest → made ≡ old →
    ((other : Digest) → listed_at new other ≡ cond (is_at (digest_cmp digest) other) few (listed_at made other)) →
    (other : Digest) → listed_at new other ≡ cond (is_at (digest_cmp digest) other) (listed_at old digest ++ elem ∷ []) (listed_at old other)
relisted digest elem elems few old made new is were same put other =
    put other ∙ ap (λ l. cond (is_at (digest_cmp digest) other) few (listed_at l other)) same
    ∙ ap (λ f. cond (is_at (digest_cmp digest) other) f (listed_at old other)) (is ∙ ap (λ l. l ++ elem ∷ []) were)

held_still : (table : TableState) (digest : Digest) (elem : Elem) (holders : Slots Digest (List Elem)) → IsHeld table → is_exclusive table.exclusive digest.key ≡ true →
    ((other : Digest) → listed_at holders.rows other ≡ cond (is_at (digest_cmp digest) other) (listed_at table.holders.rows digest ++ elem ∷ []) (listed_at table.holders.rows other)) →
    IsHeld (record { exclusive = table.exclusive; seed = table.seed; rows = table.rows; holders = holders })
held_still table digest elem holders held exclusive is = record {
  held = λ key tuple e asked value. grown table digest elem holders.rows is (digest_of table.seed key tuple) e (held.held key tuple e asked value);
  apart = λ other not_so. grown_apart table digest elem holders.rows is exclusive other not_so (held.apart other not_so);
}

pub invariant_of-self-2 : goal.invariant_of-self-2
invariant_of-self-2 c =
    let inside = c.self.inside in
    let table : TableState = record { exclusive = inside.exclusive; seed = inside.seed; rows = inside.rows; holders = inside.holders } in
    held_still table c.args.digest c.args.elem c.relist.new.holders c.self.invariant (ap (λ t. is_exclusive t.exclusive c.args.digest.key) c.self.view_is ∙ c.requires)
    (relisted c.args.digest c.args.elem c.as_slice-elems.result.now c.in_ok-few.few inside.holders.rows c.make_slot.new.self.rows c.relist.new.holders.rows
    c.in_ok-few.ensures (c.as_slice-elems.ensures ∙ c.elements_at-lent.ensures ∙ ap (λ l. listed_at l c.args.digest) c.in_ok-make_slot.ensures.rows) c.in_ok-make_slot.ensures.rows c.relist.ensures)

pub returns-clause-grows : goal.returns-clause-grows
returns-clause-grows c =
    let inside = c.self.inside in
    let table : TableState = record { exclusive = inside.exclusive; seed = inside.seed; rows = inside.rows; holders = inside.holders } in
    subst (λ t. Grows t (record { exclusive = inside.exclusive; seed = inside.seed; rows = inside.rows; holders = c.relist.new.holders })) c.self.view_is
    (listed_more table c.relist.new.holders (grown table c.args.digest c.args.elem c.relist.new.holders.rows
    (relisted c.args.digest c.args.elem c.as_slice-elems.result.now c.in_ok-few.few inside.holders.rows c.make_slot.new.self.rows c.relist.new.holders.rows
    c.in_ok-few.ensures (c.as_slice-elems.ensures ∙ c.elements_at-lent.ensures ∙ ap (λ l. listed_at l c.args.digest) c.in_ok-make_slot.ensures.rows) c.in_ok-make_slot.ensures.rows c.relist.ensures)))
