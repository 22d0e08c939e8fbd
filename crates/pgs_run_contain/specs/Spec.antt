-- The command `contain`. Its answers to the types are free, as long as they are right.
use Rattle.std.specs.Prelude.{List, [], is_some}
use Rattle.std.specs.List.{list_any}
use Rattle.pgs_command.specs.Spec.{CommandSpec}
use Rattle.pgs_run_contain.specs.Answers.{Answer, listed, answer_lines}
use Rattle.pgs_run_contain.specs.Behind.{Behind, compared_spec}
use Rattle.pgs_run_contain.specs.Running.{Answered}
use Rattle.pgs_run_contain.specs.Told.{status_by}

-- Behind two schemas the lines of the types of the first guard follow, by the answers to them: the answers to the first types are right, and
-- with 0 or 1 all of them are answered. Nothing follows a refusal.
abbrev pub contain_behind : Behind
contain_behind = record {
  Choice = List Answer;
  none = [];
  told = λ answers first second. record { pieces = answer_lines (listed first first.guard.types) answers; status = status_by (list_any is_some answers) };
  IsRight = λ answers first second names status. Answered first second names (listed first first.guard.types) answers status;
  cause = λ answers. [];
  IsCause = λ answers kept. Unit {0};
}

abbrev pub contain_spec : CommandSpec
contain_spec = compared_spec contain_behind
