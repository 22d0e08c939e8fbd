-- When tables and an index are ready for what was decided.
use Rattle.std.specs.Prelude.{◌≡◌, Some}
use Rattle.pgs_decide.specs.declared.deciding.Decided.{Decided}
use Rattle.pgs_keyindex.specs.Index.{IndexState}
use Rattle.pgs_tables.specs.Adjacency.{Suits}
use Rattle.pgs_tables.specs.Standing.{TablesState}
use Rattle.pgs_decide.specs.declared.changing.Ready.{Ready}

-- both are ready for their part of it
pub record AreReady (tables : TablesState) (index : IndexState) (ready : Ready) : Type 0 where
  pub delta : tables.ready ≡ Some ready.tables.delta
  pub suits : Suits tables.graph ready.tables
  pub changes : index.ready ≡ Some ready.rows.changes

-- it is all that was decided
pub record IsReadyOf (decided : Decided) (ready : Ready) : Type 0 where
  pub delta : ready.tables.delta ≡ decided.delta
  pub changes : ready.rows.changes ≡ decided.changes
