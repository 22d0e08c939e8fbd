-- Days as texts: four digits, `-`, two digits, `-`, two digits.
use Rattle.std.specs.Prelude.{ℕ, Bool, ◌&&◌, List, length, Option, Some, None, ◌==◌, if◌then◌else◌, slice_index, slice_range}
use Rattle.std.specs.List.{list_all}
use Rattle.std.specs.Str.Parse.{digits_value}
use Rattle.pgs_base.specs.Day.{is_day}
use Rattle.pgs_base.specs.Name.{is_between}
use Rattle.pgs_base.specs.Options.{◌>>=◌}

-- the number that decimal digits write
abbrev pub number_in : List ℕ → Option ℕ
number_in digits = if list_all (is_between 48 57) digits then Some (digits_value 10 digits) else None

-- whether a text is ten bytes with a `-` after the year and after the month
abbrev pub has_dashes : List ℕ → Bool
has_dashes text = length text == 10 && (slice_index text 4 == 45 && slice_index text 7 == 45)

-- the day of these numbers, where there is one
abbrev pub if_day : ℕ → ℕ → ℕ → Option (ℕ × ℕ × ℕ)
if_day year month day = if is_day year month day then Some (year, month, day) else None

-- the day of a text such as `2024-02-29`
unfoldable pub day_in : List ℕ → Option (ℕ × ℕ × ℕ)
day_in text =
    if has_dashes text
    then (number_in (slice_range text 0 4) >>= λ year. number_in (slice_range text 5 7) >>= λ month.
    number_in (slice_range text 8 10) >>= λ day. if_day year month day)
    else None
