use Rattle.std.proofs.Common.{rules, ◌≡◌, true, ◌∷◌, ◌∙◌, sym, ap, subst}
use Rattle.std.specs.List.{list_all}
use Rattle.std.proofs.lemmas.Bool.{and_parts}
use Rattle.pgs_keyindex.specs.Rows.{rows_changed}
use Rattle.pgs_keyindex.specs.Table.{has_room}
use Rattle.pgs_keyindex.proofs.Held.{all_given, room_kept}
use Rattle.pgs_keyindex.proofs.index.put_changes.Goals as goal

pub loop-change-preserved : goal.loop-change-preserved
loop-change-preserved c =
    let old = c.loop-change.table in
    let new = c.set.new.self in
    let rest = c.next.new.self.rest.items in
    let whole : c.loop-change.change-iterator.rest.items ≡ c.in-Some.change ∷ rest = search rules in
    record {
      room = all_given (has_room old) (has_room new) (room_kept old new c.set.ensures.room) rest
          (and_parts _ _ (subst (λ l. list_all (has_room old) l ≡ true) whole c.loop-change.invariant.room)).1;
      exclusive = c.set.ensures.room.exclusive ∙ c.loop-change.invariant.exclusive;
      seed = c.set.ensures.room.seed ∙ c.loop-change.invariant.seed;
      made = ap (λ r. rows_changed r rest) c.set.ensures.rows ∙ ap (rows_changed old.rows.rows) (sym whole) ∙ c.loop-change.invariant.made;
    }
