-- Types with capped widths, and the first of them that is past a limit where they stand in order.
use Rattle.std.specs.Prelude.{ℕ, ◌+◌, ◌*◌, Bool, ◌||◌, List, [], ◌∷◌, Option, Some, None, nat_lt, if◌then◌else◌}
use Rattle.pgs_syntax.specs.Width.{Sized, most_forms, most_parts}
use Rattle.pgs_width.specs.declared.sized.SizedType.{SizedType}
use Rattle.pgs_width.specs.Capped.{capped, capped_width}

abbrev pub capped_type : Sized → SizedType
capped_type type = record { name = type.name; place = type.place; width = capped_width type.width }

-- the parts of a type
abbrev pub parts_of : SizedType → ℕ
parts_of type = capped (type.width.count * type.width.weight)

-- whether a type has too many forms, or the types up to it have too many parts
abbrev pub is_past : SizedType → ℕ → Bool
is_past type parts = nat_lt most_forms type.width.count || nat_lt most_parts parts

-- the name of the first type that is past a limit, where the types before these have so many parts
abbrev pub first_past : ℕ → List SizedType → Option (List ℕ)
first_past before [] = None
first_past before (type ∷ types) =
    let parts = capped (before + parts_of type) in
    if is_past type parts then Some type.name else first_past parts types
