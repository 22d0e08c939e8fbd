-- What an index is seen as, and when one stands.
use Rattle.std.specs.Prelude.{◌≡◌, Bool, true, List, Option, IfSome}
use Rattle.std.specs.Option.{option_map}
use Rattle.std.specs.List.{list_all}
use Rattle.std.specs.declared.snapshot.Snapshot.{Snapshot}
use Rattle.pgs_base.specs.declared.seed.Seed.{Seed}
use Rattle.pgs_keyindex.specs.declared.change.KeyChange.{KeyChange}
use Rattle.pgs_keyindex.specs.declared.change.KeyReady.{KeyReady}
use Rattle.pgs_keyindex.specs.Rows.{KeyRows, IsOwned, rows_changed}
use Rattle.pgs_keyindex.specs.Table.{TableState, has_room}

-- what contracts see of an index: which keys are exclusive, how its values are hashed, its rows, and the changes that it is ready for
pub record IndexState : Type 0 where
  pub exclusive : List Bool
  pub seed : Seed
  pub rows : KeyRows
  pub ready : Option (List KeyChange)

-- the changes that an index is ready for, of which it keeps what contracts see
abbrev pub ready_for : Option (Snapshot KeyReady) → Option (List KeyChange)
ready_for ready = option_map (λ (snapshot : Snapshot KeyReady). snapshot.value.changes) ready

-- there is room for changes, and after them each value of an exclusive key still has one owner
pub record IsReady (table : TableState) (changes : List KeyChange) : Type 0 where
  pub room : list_all (has_room table) changes ≡ true
  pub owned : IsOwned table.exclusive (rows_changed table.rows.rows changes)

pub record AreIndexed (table : TableState) (ready : Option (List KeyChange)) : Type 0 where
  pub owned : IsOwned table.exclusive table.rows.rows
  pub prepared : IfSome ready (IsReady table)
