-- What a schema text is judged.
use Rattle.std.specs.Prelude.{◌≡◌, ℕ, List, ◌++◌, Ok, Err}
use Rattle.pgs_run_input.specs.Answers.{schema_answer}
use Rattle.pgs_run_contain.specs.declared.judging.Judged.{Judged}
use Rattle.pgs_run_contain.specs.declared.judging.Judged.TheVariants.{Schema, Refused}
use Rattle.pgs_run_contain.specs.Names.{Names, names_in}

-- behind these names those of a schema's text follow; a refused text is kept
abbrev pub IsJudged : Names → (text : List ℕ) → Judged → Type 0
IsJudged names text (Schema schema all) = (schema_answer text ≡ Ok schema) × (all ≡ names ++ names_in text)
IsJudged names text (Refused refusal kept) = (schema_answer text ≡ Err refusal) × (kept ≡ text)
