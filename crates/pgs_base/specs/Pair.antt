-- Pairs: what an element carries, its labels and its properties, written as a node's row. What is said of names and of properties
-- is passed on from here.
use Rattle.std.specs.Prelude.{ℕ, Bool, ◌&&◌, List}
use Rattle.pgs_base.specs.declared.row.NodeRow.{NodeRow}
use Rattle.pgs_base.specs.declared.value.Value.{Value}
pub use Rattle.pgs_base.specs.Names.{same_name, has_name, put_name, take_name, are_names}
pub use Rattle.pgs_base.specs.Properties.{value_at, put_value, take_value, are_props}

-- the pair of these labels and properties
abbrev pub pair_of : List (List ℕ) → List (List ℕ × Value) → NodeRow
pair_of labels props = record { labels = labels; props = props }

-- whether a row is a pair, as an element can carry it
abbrev pub is_pair : NodeRow → Bool
is_pair p = are_names p.labels && are_props p.props
