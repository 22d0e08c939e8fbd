-- The digits at the front of a text, and the number that they write.
use Rattle.std.specs.Prelude.{ℕ, ◌^◌, Bool, List, Option, Some, None, nat_lt, if◌then◌else◌}
use Rattle.std.specs.List.{take_while}
use Rattle.std.specs.Str.Parse.{digits_value}
use Rattle.pgs_base.specs.Name.{is_between}

abbrev pub is_digit : ℕ → Bool
is_digit b = is_between 48 57 b

-- the digits at the front
abbrev pub digits_in : List ℕ → List ℕ
digits_in bytes = take_while is_digit bytes

-- the number that the digits at the front write, below 2 ^ 64
unfoldable pub digits_at : List ℕ → Option ℕ
digits_at bytes = if nat_lt (digits_value 10 (digits_in bytes)) (2 ^ 64) then Some (digits_value 10 (digits_in bytes)) else None
