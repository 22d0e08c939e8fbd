-- The program of sessions as a command: the one word `run`; other words are refused.
use Rattle.std.specs.Prelude.{ℕ, Bool, true, false, List, [], ◌∷◌, codes}
use Rattle.std.specs.Str.{bytes_eq}
use Rattle.pgs_answer.specs.Lines.{words_refused_line}
use Rattle.pgs_command.specs.Answers.{IsOfCommand}
use Rattle.pgs_command.specs.Kept.{without_areas}
use Rattle.pgs_command.specs.Spec.{CommandSpec}
use Rattle.pgs_command.specs.Words.{refused_words}
use Rattle.pgs_run_sessions.specs.Told.{told_sessions}

abbrev pub asks_run : List (List ℕ) → Bool
asks_run (word ∷ []) = bytes_eq word (codes "run")
asks_run words = false

abbrev pub sessions_spec : CommandSpec
sessions_spec = without_areas true IsOfCommand told_sessions

abbrev pub spec_where : (runs : Bool) → CommandSpec
spec_where true = sessions_spec
spec_where false = refused_words words_refused_line

abbrev pub spec_for : (words : List (List ℕ)) → CommandSpec
spec_for words = spec_where (asks_run words)
