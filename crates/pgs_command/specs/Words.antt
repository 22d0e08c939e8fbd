-- Words that are no command, as a command: one line says so.
use Rattle.std.specs.Prelude.{ℕ, false, List, [], ◌∷◌}
use Rattle.pgs_command.specs.declared.status.Status.TheVariants.{BadWords}
use Rattle.pgs_command.specs.Answers.{IsOfWords}
use Rattle.pgs_command.specs.Kept.{without_areas}
use Rattle.pgs_command.specs.Spec.{CommandSpec}

abbrev pub refused_words : (line : List ℕ) → CommandSpec
refused_words line = without_areas false IsOfWords (λ input bytes. record { pieces = line ∷ []; status = BadWords })
