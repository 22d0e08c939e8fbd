-- What is told of a line that is no JSON text: a byte of it, and what stands there.
use Rattle.std.specs.Prelude.{◌≡◌, ℕ, ◌+◌, ◌/◌, ◌%◌, ◌≤◌, ◌⊎◌, true, false, List, [], ◌∷◌, ◌++◌, length, take, drop, codes, decimal}
use Rattle.std.specs.Char.{digit_char}
use Rattle.std.specs.Str.{IsUtf8}
use Rattle.pgs_base.specs.Name.{is_between}

-- a byte as `byte` and two hexadecimal digits
abbrev pub hex_text : ℕ → List ℕ
hex_text b = codes "byte " ++ digit_char (b / 16) ∷ digit_char (b % 16) ∷ []

-- bytes begin with a text
abbrev pub IsFront : List ℕ → List ℕ → Type 0
IsFront bytes text = (n : ℕ) × (text ≡ take n bytes) × IsUtf8 text

-- the first of some bytes is shown by itself where it is of ASCII and prints, else by a character that begins there, or as a byte
pub record IsShownByte (b : ℕ) (bytes text : List ℕ) : Type 0 where
  pub plain : is_between 32 126 b ≡ true → text ≡ b ∷ []
  pub other : is_between 32 126 b ≡ false → IsFront bytes text ⊎ (text ≡ hex_text b)

-- what stands at a place before the end, or its end, is shown so
abbrev pub IsShownPlace : List ℕ → List ℕ → Type 0
IsShownPlace [] text = text ≡ codes "end of line"
IsShownPlace (b ∷ bs) text = IsShownByte b (b ∷ bs) text

-- bytes are told so: a place, from 1 up to the one behind them, and what stands there
abbrev pub IsByteCause : List ℕ → List ℕ → Type 0
IsByteCause line text =
    (at : ℕ) × (at ≤ length line) × (place : List ℕ) × IsShownPlace (drop at line) place
    × (text ≡ codes "byte " ++ (decimal (at + 1) ++ (codes ": " ++ place)))
