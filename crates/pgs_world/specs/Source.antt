-- What a read of a source says of the bytes that are left.
use Rattle.std.specs.Prelude.{◌≡◌, ℕ, List, [], ◌++◌, Option, IfSome}
use Rattle.std.specs.Option.{option_map}

-- What was left is what was taken, and then what is left now. A source that doesn't tell goes on not telling.
abbrev pub Takes : Option (List ℕ) → Option (List ℕ) → List ℕ → Type 0
Takes before now taken = before ≡ option_map (λ rest. taken ++ rest) now

-- nothing was left, where the source tells
abbrev pub IsAtEnd : Option (List ℕ) → Type 0
IsAtEnd left = IfSome left (λ rest. rest ≡ [])
