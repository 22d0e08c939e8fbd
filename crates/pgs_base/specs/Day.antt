-- Days of the Gregorian calendar, of the years 1 to 9999. How long a month is, is the calendar crate's definition.
use Rattle.std.specs.Prelude.{ℕ, pos, Bool, ◌&&◌, nat_le}
use Rattle.jiff_core.specs.Calendar.{days_in_month}

-- whether there is such a day
abbrev pub is_day : ℕ → ℕ → ℕ → Bool
is_day year month day =
    nat_le 1 year && nat_le year 9999 && nat_le 1 month && nat_le month 12 && nat_le 1 day
    && nat_le day (days_in_month (pos year) month)
