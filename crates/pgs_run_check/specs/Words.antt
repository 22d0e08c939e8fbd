-- What the words of a command line say.
use Rattle.std.specs.Prelude.{ℕ, List, [], ◌∷◌, Option, None, codes, option_and_then, slice_get, if◌then◌else◌}
use Rattle.pgs_run_words.specs.Further.{is_plain}
use Rattle.pgs_run_words.specs.Words.{found_in}
use Rattle.pgs_run_check.specs.declared.command.CheckCommand.{CheckCommand}
use Rattle.pgs_run_check.specs.declared.command.CheckCommand.TheVariants.{Schema, Try, Evolve, EvolveStore, Apply}

-- the commands of one word
unfoldable pub lone_words : List (List ℕ × CheckCommand)
lone_words = (codes "schema", Schema) ∷ (codes "try", Try) ∷ (codes "evolve", Evolve) ∷ []

-- the commands of a word and the name of a store
unfoldable pub store_words : List (List ℕ × CheckCommand)
store_words = (codes "evolve", EvolveStore) ∷ (codes "apply", Apply) ∷ []

-- the command of the words; other words are refused
abbrev pub command_of : List (List ℕ) → Option CheckCommand
command_of (word ∷ []) = found_in lone_words word
command_of (word ∷ (name ∷ [])) = if is_plain name then found_in store_words word else None
command_of words = None

-- the name of the store, where the command has one
abbrev pub store_of : List (List ℕ) → Option (List ℕ)
store_of words = option_and_then (λ (command : CheckCommand). slice_get words 1) (command_of words)
