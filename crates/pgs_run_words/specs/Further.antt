-- The further words of a command, as `clap` is asked for them and as they are meant.
use Rattle.std.specs.Prelude.{Bool, true, false, not, ◌==◌, List, [], ◌∷◌, Option, Some, None, codes, option_and_then, option_map, unwrap_or}
use Rattle.std.specs.List.{list_all}
use Rattle.clap.specs.Words.{App, Row, Rule, Text, all_of, first_of, new_app, new_rule, with_rule}
use Rattle.clap.specs.declared.builder.action.ArgAction.TheVariants.{Append, Set}

-- the word has a byte, and the first isn't `-` (45)
abbrev pub is_plain : Text → Bool
is_plain [] = false
is_plain (x ∷ xs) = not (x == 45)

abbrev pub are_plain : List Text → Bool
are_plain = list_all is_plain

-- ---- what the words mean

abbrev pub is_none : List Text → Bool
is_none [] = true
is_none (word ∷ words) = false

abbrev pub one_of : List Text → Option Text
one_of (name ∷ []) = Some name
one_of _ = None

abbrev pub name_and_feeds_of : List Text → Option (Text × List Text)
name_and_feeds_of [] = None
name_and_feeds_of (name ∷ feeds) = Some (name, feeds)

abbrev pub two_of : List Text → Option (Text × Text)
two_of (first ∷ second ∷ []) = Some (first, second)
two_of _ = None

-- ---- the commands

abbrev pub required_rule : Text → Rule
required_rule id = record (new_rule id) { required = true; action = Some Set }

abbrev pub name_rule : Rule
name_rule = required_rule (codes "NAME")

abbrev pub feed_rule : Rule
feed_rule = record (new_rule (codes "FEED")) { action = Some Append }

abbrev pub bare : Text → App
bare name = record {
  top = record (new_app name).top {
    no_binary_name = true;
    disable_help_flag = true;
    disable_version_flag = true;
  };
  subs = [];
}

abbrev pub no_word : App
no_word = bare (codes "none")

abbrev pub one_word : App
one_word = with_rule (bare (codes "one")) name_rule

abbrev pub name_and_feeds : App
name_and_feeds = with_rule (with_rule (bare (codes "feeds")) name_rule) feed_rule

abbrev pub two_words : App
two_words = with_rule (with_rule (bare (codes "two")) (required_rule (codes "FIRST"))) (required_rule (codes "SECOND"))

-- what the rows that clap found say of two words
abbrev pub two_found : List Row → Option (Text × Text)
two_found rows = option_and_then (λ first. option_map (λ second. (first, second)) (first_of (codes "SECOND") rows))
    (first_of (codes "FIRST") rows)

-- what the rows that clap found say of a name and feeds
abbrev pub name_and_feeds_found : List Row → Option (Text × List Text)
name_and_feeds_found rows = option_map (λ name. (name, unwrap_or (all_of (codes "FEED") rows) []))
    (first_of (codes "NAME") rows)
