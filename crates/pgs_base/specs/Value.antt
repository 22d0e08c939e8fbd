-- Values and their kinds.
use Rattle.std.specs.Prelude.{ℕ, ℤ, pos, negsuc, Bool, true, ◌&&◌, ◌==◌, List, length, nat_le, int_le}
use Rattle.std.specs.Str.{is_utf8}
use Rattle.pgs_base.specs.declared.value.Kind.{Kind}
use Rattle.pgs_base.specs.declared.value.Kind.TheVariants as kinds
use Rattle.pgs_base.specs.declared.value.Value.{Value}
use Rattle.pgs_base.specs.declared.value.Value.TheVariants as values
use Rattle.pgs_base.specs.Day.{is_day}

-- the kind of a value
abbrev pub kind_of : Value → Kind
kind_of (values.Text text) = kinds.Text
kind_of (values.Int number) = kinds.Int
kind_of (values.Bool truth) = kinds.Bool
kind_of (values.Date day) = kinds.Date

-- the place of a kind: texts, numbers, truth values, days
abbrev pub kind_rank : Kind → ℕ
kind_rank kinds.Text = 0
kind_rank kinds.Int = 1
kind_rank kinds.Bool = 2
kind_rank kinds.Date = 3

-- whether a value is of a kind
abbrev pub is_of_kind : Kind → Value → Bool
is_of_kind kind value = kind_rank (kind_of value) == kind_rank kind

-- whether bytes are those of a text: UTF-8, and at most 65,535 of them
abbrev pub is_text : List ℕ → Bool
is_text bytes = is_utf8 bytes && nat_le (length bytes) 65535

-- whether a number lies in the signed 64-bit range
abbrev pub is_number : ℤ → Bool
is_number number = int_le (negsuc 9223372036854775807) number && int_le number (pos 9223372036854775807)

-- whether a value is one that a property can have
abbrev pub is_value : Value → Bool
is_value (values.Text text) = is_text text
is_value (values.Int number) = is_number number
is_value (values.Bool truth) = true
is_value (values.Date day) = is_day day.0 day.1 day.2
