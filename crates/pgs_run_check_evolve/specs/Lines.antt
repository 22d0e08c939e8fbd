-- The lines of what a step changes: the keys of the new guard, in their order, those of the old guard that are dropped, and that it is safe.
use Rattle.std.specs.Prelude.{ℕ, ◌+◌, Bool, true, false, List, [], ◌∷◌, ◌++◌, Option, Some, None, codes, decimal, map, if◌then◌else◌}
use Rattle.pgs_syntax.specs.declared.resolved.Resolved.{Resolved}
use Rattle.pgs_schema_changes.specs.AsksNoMore.{is_kept, is_dropped}
use Rattle.pgs_schema_changes.specs.Safe.{asks_strict, is_safe}
use Rattle.pgs_run_check_evolve.specs.declared.lines.KeysOf.{KeysOf}
use Rattle.pgs_run_check_evolve.specs.declared.lines.KeysOf.TheVariants.{New, Old}

abbrev pub strict_line : List ℕ
strict_line = codes "asks STRICT\n"

abbrev pub safe_line : List ℕ
safe_line = codes "safe\n"

-- the word for a key of the new guard, by whether it is kept, and of the old guard, by whether it is dropped
abbrev pub word_of : KeysOf → Bool → Option (List ℕ)
word_of New true = Some (codes "kept ")
word_of New false = Some (codes "asks ")
word_of Old true = Some (codes "drops ")
word_of Old false = None

abbrev pub key_line : List ℕ → ℕ → List ℕ
key_line word number = word ++ (decimal number ++ codes "\n")

-- the line of a key that has a word
abbrev pub line_at : Option (List ℕ) → ℕ → List (List ℕ)
line_at None number = []
line_at (Some word) number = key_line word number ∷ []

-- the lines of keys of which the first has this number
abbrev pub key_lines : KeysOf → ℕ → List Bool → List (List ℕ)
key_lines keys number [] = []
key_lines keys number (flag ∷ more) = line_at (word_of keys flag) number ++ key_lines keys (number + 1) more

-- the lines behind those of the types, by whether each type is contained
abbrev pub lines_behind : Resolved → Resolved → Bool → List (List ℕ)
lines_behind old new contained =
    (if asks_strict old new then strict_line ∷ [] else []) ++ key_lines New 1 (map (is_kept old new) new.guard.keys)
    ++ key_lines Old 1 (map (is_dropped old new) old.guard.keys) ++ (if is_safe old new contained then safe_line ∷ [] else [])
