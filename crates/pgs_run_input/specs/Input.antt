-- The input of a command as a schema part, a separator and transaction lines.
use Rattle.std.specs.Prelude.{ℕ, Bool, ◌||◌, ◌==◌, List, [], ◌∷◌, if◌then◌else◌, codes}
use Rattle.std.specs.List.{join_with_byte}
use Rattle.std.specs.Cmp.Lexicographic.{pointwise}
use Rattle.pgs_run_lines.specs.Input.{front_of, is_blank}

-- the most bytes of a schema text and of a transaction line
abbrev pub text_limit : ℕ
text_limit = 1_048_576

-- the front of a text of any length: as many bytes as a text may have, and one more
abbrev pub text_front : List ℕ → List ℕ
text_front text = front_of text_limit text

-- a line that is skipped and not numbered
abbrev pub is_skipped : List ℕ → Bool
is_skipped line = is_blank text_limit line

-- a line that ends the schema part: `---`, with or without a carriage return
unfoldable pub is_separator : List ℕ → Bool
is_separator line = pointwise ◌==◌ line (codes "---") || pointwise ◌==◌ line (codes "---\r")

-- the lines before the first separator
abbrev pub before_separator : List (List ℕ) → List (List ℕ)
before_separator [] = []
before_separator (line ∷ lines) = if is_separator line then [] else line ∷ before_separator lines

-- the lines after the first separator
abbrev pub after_separator : List (List ℕ) → List (List ℕ)
after_separator [] = []
after_separator (line ∷ lines) = if is_separator line then lines else after_separator lines

-- The schema text: the lines before the separator. The line feed before the separator isn't part of it.
abbrev pub schema_part : List (List ℕ) → List ℕ
schema_part lines = join_with_byte 10 (before_separator lines)
