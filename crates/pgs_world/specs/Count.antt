-- Counts of calls and of faults.
use Rattle.std.specs.Prelude.{◌≡◌, ℕ, Bool, List, ◌+◌, ◌-◌, ◌^◌, ◌≤◌, ◌==◌, min}
use Rattle.std.specs.List.{list_any}

-- a count rose: it is greater than before, or stands at the end of a u64
abbrev pub Rose : ℕ → ℕ → Type 0
Rose before now = min (before + 1) (2 ^ 64 - 1) ≤ now

-- one more, up to the end of a u64
abbrev pub raised : ℕ → ℕ
raised count = min (count + 1) (2 ^ 64 - 1)

-- a count rose by exactly one, up to the end of a u64
abbrev pub RoseByOne : ℕ → ℕ → Type 0
RoseByOne before now = now ≡ raised before

-- this call is one of those that are listed
abbrev pub is_listed : List ℕ → ℕ → Bool
is_listed calls call = list_any (λ listed. listed == call) calls
