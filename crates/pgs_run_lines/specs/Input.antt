-- A text as lines, and of each line a front.
use Rattle.std.specs.Prelude.{◌≡◌, true, ◌<◌, drop, ℕ, Bool, ◌&&◌, ◌||◌, not, List, [], ◌∷◌, ◌++◌, length, take, map, ◌+◌, nat_le, ◌==◌, if◌then◌else◌}
use Rattle.std.specs.List.{list_all}

-- the lines that a line feed ends, and what follows the last line feed
pub record Lines : Type 0 where
  pub ended : List (List ℕ)
  pub rest : List ℕ

-- the same with one more byte, which is no line feed, at the front of the first line
abbrev pub with_byte : ℕ → List (List ℕ) → List ℕ → Lines
with_byte b [] rest = record { ended = []; rest = b ∷ rest }
with_byte b (line ∷ lines) rest = record { ended = (b ∷ line) ∷ lines; rest = rest }

-- the same with one more byte at the front
abbrev pub with_front : ℕ → Lines → Lines
with_front b lines =
    if b == 10 then record { ended = [] ∷ lines.ended; rest = lines.rest } else with_byte b lines.ended lines.rest

-- a text cut at its line feeds
abbrev pub lines_of : List ℕ → Lines
lines_of [] = record { ended = []; rest = [] }
lines_of (b ∷ bs) = with_front b (lines_of bs)

-- whether bytes have no line feed
abbrev pub has_no_feed : List ℕ → Bool
has_no_feed bytes = list_all (λ b. not (b == 10)) bytes

-- The front of a text of any length: as many bytes as the limit, and one more. So of a text that is too long it is known to be so.
unfoldable pub front_of : ℕ → List ℕ → List ℕ
front_of limit text = take (limit + 1) text

-- of each line its front
abbrev pub fronts_of : ℕ → Lines → Lines
fronts_of limit lines = record { ended = map (front_of limit) lines.ended; rest = front_of limit lines.rest }

-- a text cut at its line feeds, of each line its front
unfoldable pub kept_of : ℕ → List ℕ → Lines
kept_of limit text = fronts_of limit (lines_of text)

-- a space, a tab or a carriage return
abbrev pub is_blank_byte : ℕ → Bool
is_blank_byte b = b == 32 || b == 9 || b == 13

-- a line of such bytes alone that isn't too long
unfoldable pub is_blank : ℕ → List ℕ → Bool
is_blank limit line = nat_le (length line) limit && list_all is_blank_byte line

-- a line feed stands at this place, and none before it
pub record IsLineEnd (bytes : List ℕ) (end : ℕ) : Type 0 where
  pub within : end < length bytes
  pub line : has_no_feed (take end bytes) ≡ true
  pub parts : bytes ≡ take end bytes ++ 10 ∷ drop (end + 1) bytes
