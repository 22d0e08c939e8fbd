-- Options, keys and properties on which the meaning of shapes is tried.
use Rattle.std.specs.Prelude.{ℕ, true, false, pos, List, [], ◌∷◌, codes}
use Rattle.pgs_base.specs.declared.value.Value.{Value}
use Rattle.pgs_base.specs.declared.value.Value.TheVariants.{Text, Int}
use Rattle.pgs_conform.specs.declared.options.Options.{Options}

-- a number, and a number or nothing
abbrev pub a_number : Options
a_number = record { absent = false; text = false; int = true; boolean = false; date = false }

abbrev pub maybe_number : Options
maybe_number = record { absent = true; text = false; int = true; boolean = false; date = false }

-- the key `k` with these options
abbrev pub at_k : Options → List (List ℕ × Options)
at_k options = (codes "k", options) ∷ []

-- a number at a key, and a text
abbrev pub number_at : List ℕ → List (List ℕ × Value)
number_at key = (key, Int (pos 5)) ∷ []

abbrev pub text_at : List ℕ → List (List ℕ × Value)
text_at key = (key, Text (codes "s")) ∷ []
