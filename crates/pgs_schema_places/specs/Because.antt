-- The line of the cause of a refusal: where in a text it stands, and what the text has there.
use Rattle.std.specs.Prelude.{◌≡◌, ℕ, ◌+◌, ◌/◌, ◌%◌, ◌<◌, ◌≤◌, not, true, ◌⊎◌, List, [], ◌∷◌, ◌++◌, length, take, drop, slice_get, Some, Ok, codes, decimal}
use Rattle.std.specs.Char.{digit_char}
use Rattle.std.specs.List.{suffix_len}
use Rattle.std.specs.Str.{IsUtf8}
use Rattle.pgs_lexer.specs.Cut.{line_at, tokens_of}
use Rattle.pgs_lexer.specs.Form.{is_line, is_line_feed}
use Rattle.pgs_lexer.specs.Token.{Lexeme}

-- the column of a place of a text, in bytes, from 1
abbrev pub column_at : List ℕ → ℕ → ℕ
column_at text place = 1 + suffix_len (λ b. not (is_line_feed b)) (take place text)

-- a byte in two hexadecimal digits
abbrev pub byte_text : ℕ → List ℕ
byte_text byte = codes "byte " ++ digit_char (byte / 16) ∷ digit_char (byte % 16) ∷ []

-- what a text has at a place: a token of it, a character, a byte, or its end
pub data IsAt (text : List ℕ) : ℕ → List ℕ → Type 0 where
  token : (tokens : List Lexeme) (number : ℕ) (found : Lexeme) → tokens_of text ≡ Ok tokens → slice_get tokens number ≡ Some found →
      IsAt text found.start found.bytes
  character : (place size : ℕ) → 0 < size → size ≤ 4 → place + size ≤ length text → IsUtf8 (take size (drop place text)) →
      IsAt text place (take size (drop place text))
  byte : (place found : ℕ) → slice_get text place ≡ Some found → IsAt text place (byte_text found)
  end : IsAt text (length text) (codes "end of text")

-- what might stand there, which may be said behind it
abbrev pub AreOthers : List ℕ → Type 0
AreOthers others = (others ≡ []) ⊎ ((words : List ℕ) × (is_line words ≡ true) × (others ≡ codes " in place of " ++ words))

abbrev pub because_line : ℕ → ℕ → List ℕ → List ℕ → List ℕ
because_line line column found others =
    codes "because line " ++ (decimal line ++ (codes ", column " ++ (decimal column ++ (codes ": " ++ (found ++ (others ++ codes "\n"))))))

-- a line of a cause within the text
pub record IsBecause (text line : List ℕ) : Type 0 where
  pub place : ℕ
  pub found : List ℕ
  pub others : List ℕ
  pub there : IsAt text place found
  pub said : AreOthers others
  pub is : line ≡ because_line (line_at text place) (column_at text place) found others
