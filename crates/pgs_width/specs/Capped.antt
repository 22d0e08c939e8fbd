-- Widths with each number counted up to a cap, which is one more than the most parts of all types: what is past a limit stays
-- past it.
use Rattle.std.specs.Prelude.{ℕ, ◌+◌, List, [], ◌∷◌, min}
use Rattle.pgs_syntax.specs.Width.{Width, one_form, both, either, most_parts}
use Rattle.pgs_width.specs.declared.capped.CappedWidth.{CappedWidth}

-- a number, up to the cap
abbrev pub capped : ℕ → ℕ
capped n = min n (most_parts + 1)

abbrev pub capped_width : Width → CappedWidth
capped_width width = record { count = capped width.count; weight = capped width.weight }

-- both, and either, of several
abbrev pub both_of : List Width → Width
both_of [] = one_form 0
both_of (width ∷ widths) = both width (both_of widths)

abbrev pub either_of : List Width → Width
either_of [] = record { count = 0; weight = 0 }
either_of (width ∷ widths) = either width (either_of widths)
