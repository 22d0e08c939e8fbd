-- The schema part so far: the front of its text, and whether there was a line.
use Rattle.std.specs.Prelude.{ℕ, Bool, true, false, List, [], ◌∷◌, ◌++◌, if◌then◌else◌}
use Rattle.pgs_run_input.specs.Input.{text_front}

pub record Part : Type 0 where
  pub text : List ℕ
  pub begun : Bool

-- before the first line
abbrev pub no_part : Part
no_part = record { text = []; begun = false }

-- the schema part with one more line
unfoldable pub with_line : Part → List ℕ → Part
with_line part line =
    if part.begun then record { text = text_front (text_front (part.text ++ 10 ∷ []) ++ line); begun = true }
    else record { text = text_front (part.text ++ line); begun = true }

-- whether there is no line
abbrev pub has_none : List (List ℕ) → Bool
has_none [] = true
has_none (line ∷ lines) = false
