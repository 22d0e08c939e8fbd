-- What may stand at a key of the join of two shapes.
use Rattle.std.specs.Prelude.{ℕ, Bool, true, ◌&&◌, ◌||◌, List, unwrap_or}
use Rattle.std.specs.Map.{lookup}
use Rattle.pgs_base.specs.Pair.{same_name}
use Rattle.pgs_conform.specs.declared.options.Options.{Options}

-- what may stand at a key that isn't named: nothing, and any value where more keys are free
abbrev pub free_options : Bool → Options
free_options more = record { absent = true; text = more; int = more; boolean = more; date = more }

-- whether a kind may stand at a key of a join: it may in one of the two, and in the other it may too or nothing may
abbrev pub joins_kind : Bool → Bool → Bool → Bool → Bool
joins_kind first first_absent second second_absent = (first && (second || second_absent)) || (first_absent && second)

-- what may stand at a key of a join
abbrev pub joined_options : Options → Options → Options
joined_options a b = record {
  absent = a.absent && b.absent;
  text = joins_kind a.text a.absent b.text b.absent;
  int = joins_kind a.int a.absent b.int b.absent;
  boolean = joins_kind a.boolean a.absent b.boolean b.absent;
  date = joins_kind a.date a.absent b.date b.absent;
}

-- what may stand at any key, where some are named
abbrev pub options_at : List (List ℕ × Options) → Bool → List ℕ → Options
options_at keys more key = unwrap_or (lookup (same_name key) keys) (free_options more)
