-- A graph that conforms with an index that stands for it, and changes that keep both so.
use Rattle.std.specs.Prelude.{◌≡◌, true, List}
use Rattle.pgs_base.specs.Graph.{Graph}
use Rattle.pgs_syntax.specs.declared.resolved.Resolved.{Resolved}
use Rattle.pgs_violation.specs.Violations.{conforms}
use Rattle.pgs_keyindex.specs.declared.change.KeyChange.{KeyChange}
use Rattle.pgs_keyindex.specs.Index.{IndexState}
use Rattle.pgs_keyindex.specs.Rows.{IsOwned, rows_changed}
use Rattle.pgs_keyindex.specs.Standing.{StandsFor}
use Rattle.pgs_check.specs.Standing.{index_changed}

pub record IsKept (resolved : Resolved) (g : Graph) (index : IndexState) : Type 0 where
  pub conforms : conforms resolved g ≡ true
  pub stands : StandsFor resolved g resolved.guard.keys index

-- after changes of the index, where the graph is the changed one
pub record Keeps (resolved : Resolved) (changed : Graph) (index : IndexState) (changes : List KeyChange) : Type 0 where
  pub kept : IsKept resolved changed (index_changed index changes)
  pub owned : IsOwned index.exclusive (rows_changed index.rows changes)
