-- A text and its front tell the same.
use Rattle.std.proofs.Common.{◌≡◌, ℕ, List, Result, Ok, Err, refl, sym, ap, subst, ◌∙◌}
use Rattle.pgs_command.specs.declared.status.Status.{Status}
use Rattle.pgs_syntax.specs.declared.resolved.Resolved.{Resolved}
use Rattle.pgs_run_input.specs.Answers.{schema_answer}
use Rattle.pgs_run_input.specs.Input.{text_front}
use Rattle.pgs_run_input.proofs.SameFronts.{schema_of_front, whole_text}
use Rattle.pgs_run_refusal.proofs.Fronts.{cause_of_front}
use Rattle.pgs_run_check_schema.specs.Told.{Chosen, IsRightOf, told_by, told_text}

by_answer : (chosen : Chosen) (input : List ℕ) (answer : Result Resolved (List ℕ)) → schema_answer input ≡ answer → told_text chosen (text_front input) ≡ told_text chosen input
by_answer chosen input (Ok resolved) is = ap (told_text chosen) (whole_text input resolved is)
by_answer chosen input (Err refusal) is =
    ap (told_by (text_front input) chosen) (schema_of_front input ∙ is) ∙ sym (ap (told_by input chosen) is)

pub told_of_front : (chosen : Chosen) (input : List ℕ) → told_text chosen (text_front input) ≡ told_text chosen input
told_of_front chosen input = by_answer chosen input (schema_answer input) refl

right_by : (chosen : Chosen) (status : Status) (input : List ℕ) (answer : Result Resolved (List ℕ)) → IsRightOf (text_front input) answer chosen status → IsRightOf input answer chosen status
right_by chosen status input (Ok resolved) right = right
right_by chosen status input (Err refusal) right = cause_of_front input chosen.cause right

pub right_of_front : (chosen : Chosen) (status : Status) (input : List ℕ) → IsRightOf (text_front input) (schema_answer (text_front input)) chosen status → IsRightOf input (schema_answer input) chosen status
right_of_front chosen status input right =
    right_by chosen status input (schema_answer input)
    (subst (λ answer. IsRightOf (text_front input) answer chosen status) (schema_of_front input) right)
