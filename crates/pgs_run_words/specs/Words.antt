-- What the words of a command line say.
use Rattle.std.specs.Prelude.{ℕ, ◌+◌, ◌*◌, ◌^◌, Bool, true, false, ◌&&◌, ◌==◌, List, [], ◌∷◌, length, drop, Option, Some, None, nat_le, nat_lt, option_map, option_and_then, slice_get, codes, if◌then◌else◌}
use Rattle.std.specs.Char.{is_ascii_digit, digit_value}
use Rattle.std.specs.List.{find}
use Rattle.std.specs.Option.{option_map_or}
use Rattle.std.specs.Str.{bytes_eq}
use Rattle.pgs_base.specs.declared.element.Elem.{Elem}
use Rattle.pgs_base.specs.declared.element.Elem.TheVariants.{Node, Edge}
use Rattle.pgs_run_words.specs.declared.command.Command.{Command}
use Rattle.pgs_run_words.specs.declared.command.Command.TheVariants.{Try, Validate, Load, Apply, Recover, Explain, Gen, Checkpoint, Contain, Evolve}
use Rattle.pgs_run_words.specs.declared.command_word.CommandWord.{CommandWord}
use Rattle.pgs_run_words.specs.declared.command_word.CommandWord.TheVariants as words
use Rattle.pgs_run_words.specs.Further.{are_plain}

-- ---- numbers and elements

-- the number that digits go on with; none where a byte is no digit, or the number has more than 64 bits
abbrev pub number_after : ℕ → List ℕ → Option ℕ
number_after number [] = Some number
number_after number (digit ∷ digits) =
    if is_ascii_digit digit && nat_lt (number * 10 + digit_value digit) (2 ^ 64)
    then number_after (number * 10 + digit_value digit) digits else None

-- the number of 1 to 20 digits
abbrev pub number_of : List ℕ → Option ℕ
number_of word = if nat_lt 0 (length word) && nat_le (length word) 20 then number_after 0 word else None

-- the element of a word: `n` (110) or `e` (101), and its number
abbrev pub elem_of : List ℕ → Option Elem
elem_of [] = None
elem_of (kind ∷ digits) =
    if kind == 110 then option_map (λ number. Node (record { 0 = number })) (number_of digits)
    else (if kind == 101 then option_map (λ number. Edge (record { 0 = number })) (number_of digits) else None)

-- at most 500,000 transactions are made from a number
abbrev pub few_from : (start count : ℕ) → Option (ℕ × ℕ)
few_from start count = if nat_le count 500000 then Some (start, count) else None

-- the workload of two words, a start and a number of transactions
abbrev pub workload_of : (start count : List ℕ) → Option (ℕ × ℕ)
workload_of start count = option_and_then (λ s. option_and_then (few_from s) (number_of count)) (number_of start)

-- ---- further words

-- a command without further words
abbrev pub alone : Command → List (List ℕ) → Option Command
alone command [] = Some command
alone command (word ∷ further) = None

-- a command with the name of a store
abbrev pub with_name : Command → List (List ℕ) → Option Command
with_name command (name ∷ []) = Some command
with_name command _ = None

-- a command with the name of a store and any number of feeds
abbrev pub with_feeds : Command → List (List ℕ) → Option Command
with_feeds command [] = None
with_feeds command (name ∷ feeds) = Some command

abbrev pub with_element : List (List ℕ) → Option Command
with_element (name ∷ elem ∷ []) = option_map Explain (elem_of elem)
with_element _ = None

abbrev pub with_counts : List (List ℕ) → Option Command
with_counts (start ∷ count ∷ []) = option_map Gen (workload_of start count)
with_counts _ = None

-- the command of a first word and the further ones
abbrev pub command_in : CommandWord → List (List ℕ) → Option Command
command_in words.Try = alone Try
command_in words.Validate = alone Validate
command_in words.Load = with_name Load
command_in words.Apply = with_feeds Apply
command_in words.Recover = with_name Recover
command_in words.Explain = with_element
command_in words.Gen = with_counts
command_in words.Checkpoint = with_name Checkpoint
command_in words.Contain = alone Contain
command_in words.Evolve = with_name Evolve

-- ---- all words

-- the first words
abbrev pub command_words : List (List ℕ × CommandWord)
command_words =
    (codes "try", words.Try) ∷ (codes "validate", words.Validate) ∷ (codes "load", words.Load) ∷ (codes "apply", words.Apply)
    ∷ (codes "recover", words.Recover) ∷ (codes "explain", words.Explain) ∷ (codes "gen", words.Gen)
    ∷ (codes "checkpoint", words.Checkpoint) ∷ (codes "contain", words.Contain) ∷ (codes "evolve", words.Evolve) ∷ []

-- what a word stands for: the command of the first row that has it
abbrev pub found_in : {C : Type 0} → List (List ℕ × C) → List ℕ → Option C
found_in {C} rows word = option_map (λ (row : List ℕ × C). row.1) (find (λ (row : List ℕ × C). bytes_eq row.0 word) rows)

abbrev pub command_word : List ℕ → Option CommandWord
command_word word = found_in command_words word

abbrev pub command_of_plain : List (List ℕ) → Option Command
command_of_plain [] = None
command_of_plain (first ∷ further) = option_and_then (λ word. command_in word further) (command_word first)

-- the command of the words; other words are refused
unfoldable pub command_of : List (List ℕ) → Option Command
command_of words = if are_plain words then command_of_plain words else None

-- whether a command has the name of a store
abbrev pub has_store : Command → Bool
has_store Try = false
has_store Validate = false
has_store (Gen workload) = false
has_store Contain = false
has_store _ = true

abbrev pub has_feeds : Command → Bool
has_feeds Apply = true
has_feeds _ = false

-- the name of the store, where the command has one
abbrev pub store_in : Option Command → List (List ℕ) → Option (List ℕ)
store_in command words = if option_map_or has_store command false then slice_get words 1 else None

abbrev pub store_of : List (List ℕ) → Option (List ℕ)
store_of words = store_in (command_of words) words

-- the names of the feeds
abbrev pub feeds_in : Option Command → List (List ℕ) → List (List ℕ)
feeds_in command words = if option_map_or has_feeds command false then drop 2 words else []

abbrev pub feeds_of : List (List ℕ) → List (List ℕ)
feeds_of words = feeds_in (command_of words) words
