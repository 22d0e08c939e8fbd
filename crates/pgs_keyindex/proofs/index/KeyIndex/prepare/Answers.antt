use Rattle.std.proofs.Common.{◌≡◌, true, List, ◌∙◌, sym, ap, subst}
use Rattle.std.specs.List.{list_all}
use Rattle.pgs_keyindex.specs.declared.change.KeyChange.{KeyChange}
use Rattle.pgs_keyindex.specs.Index.{IsReady}
use Rattle.pgs_keyindex.specs.Rows.{IsOwned, rows_changed}
use Rattle.pgs_keyindex.specs.Table.{TableState, SameRows, has_room}
use Rattle.pgs_keyindex.proofs.Held.{owned_still}
use Rattle.pgs_keyindex.proofs.index.KeyIndex.prepare.Goals as goal

-- a table is ready for changes for which there is room, if those before it had owners after them
readied : (old new : TableState) (changes : List KeyChange) → SameRows old new → list_all (has_room new) changes ≡ true → IsOwned old.exclusive (rows_changed old.rows.rows changes) → IsReady new changes
readied old new changes same room owned = record {
  room = room;
  owned = subst (λ flags. IsOwned flags (rows_changed new.rows.rows changes)) (sym same.exclusive)
      (subst (λ rows. IsOwned old.exclusive (rows_changed rows changes)) (sym same.rows) owned);
}

pub invariant_of-self : goal.invariant_of-self
invariant_of-self c = record {
  owned = owned_still c.self.inside.table c.take_memory.new.table c.in_err-take_memory.ensures.same c.self.invariant.owned;
  prepared = tt;
}

pub invariant_of-self-2 : goal.invariant_of-self-2
invariant_of-self-2 c =
    let old = c.self.inside.table in
    let new = c.take_memory.new.table in
    let changes = c.args.changes in
    let owned = subst (λ s. IsOwned s.exclusive (rows_changed s.rows changes)) (sym c.self.view_is) c.requires in
    let ready : IsReady new changes =
    readied old new changes c.in_ok-take_memory.ensures.same (ap (list_all (has_room new)) (sym c.as_slice.ensures) ∙ c.in_ok-take_memory.ensures.room) owned in
    record {
      owned = owned_still old new c.in_ok-take_memory.ensures.same c.self.invariant.owned;
      prepared = subst (IsReady new) (ap (λ r. r.changes) (sym c.of.ensures)) ready;
    }
