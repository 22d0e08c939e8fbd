-- The cause for which a line is no transaction.
use Rattle.std.specs.Prelude.{◌≡◌, ℕ, List, Option, Some, None, if◌then◌else◌}
use Rattle.std.specs.Str.{is_utf8}
use Rattle.serde_json.specs.Data.{Data}
use Rattle.serde_json.specs.Read.{read}
use Rattle.pgs_json_causes.specs.Byte.{IsByteCause}
use Rattle.pgs_json_causes.specs.Cause.{cause_of}

-- the JSON value of a line
unfoldable pub value_in : List ℕ → Option Data
value_in line = if is_utf8 line then read line else None

-- where the line has no JSON value a byte of it is told, else the cause of its value, if there is one
abbrev pub IsCauseWith : List ℕ → Option Data → Option (List ℕ) → Type 0
IsCauseWith line None found = (text : List ℕ) × (found ≡ Some text) × IsByteCause line text
IsCauseWith line (Some d) found = found ≡ cause_of d

abbrev pub IsLineCause : List ℕ → Option (List ℕ) → Type 0
IsLineCause line found = IsCauseWith line (value_in line) found
