-- The command `evolve` over two texts. Its answers to the types of the old schema are free, as long as they are right, and so is which place of a
-- refused text is told.
use Rattle.pgs_command.specs.Spec.{CommandSpec}
use Rattle.pgs_run_contain.specs.Behind.{Behind, compared_spec}
use Rattle.pgs_run_refusal.specs.Refused.{IsCause}
use Rattle.pgs_run_check_evolve.specs.Told.{Chosen, nothing_chosen, told_changes, AreRightly}

-- Behind two schemas follows what the step from the first to the second changes, and behind a refusal at most one line of its cause, of a place
-- within the text.
abbrev pub evolve_behind : Behind
evolve_behind = record {
  Choice = Chosen;
  none = nothing_chosen;
  told = λ chosen. told_changes chosen.answers;
  IsRight = λ chosen. AreRightly chosen.answers;
  cause = λ chosen. chosen.cause;
  IsCause = λ chosen text. IsCause text chosen.cause;
}

abbrev pub check_evolve_spec : CommandSpec
check_evolve_spec = compared_spec evolve_behind
