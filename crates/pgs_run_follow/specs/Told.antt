-- What a run that follows tells: pieces of output, and a status.
use Rattle.std.specs.Prelude.{ℕ, Bool, false, List, [], ◌∷◌, ◌++◌, length, Option, Some, None, is_some, nat_le, if◌then◌else◌, codes}
use Rattle.std.specs.Str.{bytes_eq}
use Rattle.pgs_answer.specs.Lines.{followed_line}
use Rattle.pgs_dump.specs.Lines.{graph_lines}
use Rattle.pgs_run_lines.specs.Machine.{Told}
use Rattle.pgs_follow.specs.declared.fault.FollowFault.{FollowFault}
use Rattle.pgs_follow.specs.Followed.{Followed, followed, rest_of}
use Rattle.pgs_command.specs.declared.status.Status.{Status}
use Rattle.pgs_command.specs.declared.status.Status.TheVariants.{Accepted, Refused, InputTooLong}
use Rattle.pgs_run_follow.specs.Texts.{standard, fault_line}

-- the one word that the program knows
abbrev pub is_follow : List (List ℕ) → Bool
is_follow [] = false
is_follow (word ∷ []) = bytes_eq word (codes "follow")
is_follow (word ∷ (other ∷ words)) = false

abbrev pub fault_lines : Option FollowFault → List (List ℕ)
fault_lines None = []
fault_lines (Some fault) = fault_line fault ∷ []

-- what is told at the end: the fault, how far it came, and the graph
abbrev pub told_of : Followed → ℕ → Told Status
told_of f rest = record {
  pieces = fault_lines f.fault ++ (followed_line f.commits rest ∷ graph_lines f.graph);
  status = if is_some f.fault then Refused else Accepted;
}

-- what is told of an input within a budget: nothing where it is cut
unfoldable pub told_follow : List ℕ → ℕ → Told Status
told_follow input budget =
    if nat_le budget (length input) then record { pieces = []; status = InputTooLong }
    else told_of (followed standard input) (rest_of standard input)
