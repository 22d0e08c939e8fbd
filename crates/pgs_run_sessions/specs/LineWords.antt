-- A line cut at its first space, and without the carriage return at its end.
use Rattle.std.specs.Prelude.{ℕ, ◌+◌, ◌-◌, Bool, ◌==◌, List, length, take, drop, nat_lt, Option, Some, None, codes, if◌then◌else◌}
use Rattle.std.specs.Cmp.Lexicographic.{pointwise}
use Rattle.std.specs.List.{position_or_len}

abbrev pub is_space : ℕ → Bool
is_space b = b == 32

-- where the first space of a line is; its length where there is none
abbrev pub first_space : List ℕ → ℕ
first_space line = position_or_len is_space line

-- the bytes before the first space
abbrev pub word_of : List ℕ → List ℕ
word_of line = take (first_space line) line

-- the bytes behind the first space, where there is one
abbrev pub behind_word : List ℕ → Option (List ℕ)
behind_word line = if nat_lt (first_space line) (length line) then Some (drop (first_space line + 1) line) else None

-- a carriage return at the end isn't part of the line
unfoldable pub without_return : List ℕ → List ℕ
without_return line =
    if pointwise ◌==◌ (drop (length line - 1) line) (codes "\r") then take (length line - 1) line else line

-- whether bytes are those of a word
abbrev pub is_word : List ℕ → List ℕ → Bool
is_word bytes word = pointwise ◌==◌ bytes word
