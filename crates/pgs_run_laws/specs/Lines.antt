-- The lines of a text, as a dump puts it before other lines.
use Rattle.std.specs.Prelude.{◌≡◌, ℕ, List, [], ◌∷◌, ◌++◌, ◌⊎◌}
use Rattle.pgs_run_lines.specs.Input.{lines_of}

-- each line of a text: those that a line feed ends, and what follows the last line feed
abbrev pub all_lines : List ℕ → List (List ℕ)
all_lines text = (lines_of text).ended ++ (lines_of text).rest ∷ []

-- where a text goes on after this front, a line begins
abbrev pub IsLineStart : List ℕ → Type 0
IsLineStart front = (front ≡ []) ⊎ ((before : List ℕ) × (front ≡ before ++ 10 ∷ []))
