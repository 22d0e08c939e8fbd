-- What the command `apply` tells of an input within a budget: pieces of output, and a status.
use Rattle.std.specs.Prelude.{ℕ, ◌==◌, Bool, true, false, List, [], ◌∷◌, ◌++◌, length, Option, Some, None, take, nat_le, if◌then◌else◌}
use Rattle.pgs_run_lines.specs.Input.{lines_of}
use Rattle.pgs_run_lines.specs.Machine.{Told}
use Rattle.pgs_run_lines.specs.Pieces.{pieces_in}
use Rattle.pgs_violation.specs.Violations.{verdict}
use Rattle.pgs_answer.specs.Lines.{feeds_lost_line}
use Rattle.pgs_command.specs.declared.status.Status.{Status}
use Rattle.pgs_command.specs.declared.status.Status.TheVariants.{Accepted, Refused, InputTooLong}
use Rattle.pgs_command.specs.Areas.{Areas}
use Rattle.pgs_run_input.specs.Session.{Standing, every_verdict, after_lines, pieces_of_lines}
use Rattle.pgs_run_apply.specs.State.{status_after}
use Rattle.pgs_run_store.specs.Refusing.{SavedStore, told_of_areas}

-- where a run stands before its first line: commit numbers go on from those that are saved
abbrev pub start : SavedStore → Standing
start store = record { number = 0; commits = store.commits; refused = false; graph = store.graph }

-- where it stands after lines, and what they tell: each is decided on the graph after the accepted ones before it
abbrev pub after : SavedStore → List (List ℕ) → Standing
after store lines = after_lines (verdict store.schema) (start store) lines

abbrev pub verdicts : SavedStore → List (List ℕ) → List (List ℕ)
verdicts store lines = pieces_of_lines every_verdict (verdict store.schema) (start store) lines

-- the last piece, where feeds are lost
abbrev pub lost_piece : ℕ → Option (List ℕ)
lost_piece lost = if lost == 0 then None else Some (feeds_lost_line lost)

abbrev pub lost_pieces : ℕ → List (List ℕ)
lost_pieces lost = pieces_in (lost_piece lost)

-- it is put where the input was read to its end
abbrev pub is_done : Status → Bool
is_done Accepted = true
is_done Refused = true
is_done status = false

abbrev pub last_piece : Status → ℕ → Option (List ℕ)
last_piece status lost = if is_done status then lost_piece lost else None

-- the lines of an input: the last one may have no line feed
abbrev pub all_lines : List ℕ → List (List ℕ)
all_lines input = let lines = lines_of input in lines.ended ++ lines.rest ∷ []

-- what an input tells within a budget, but for the last piece; where it is cut, only lines with their line feed count
abbrev pub told_lines : List ℕ → ℕ → SavedStore → Told Status
told_lines input budget store =
    if nat_le budget (length input) then record { pieces = verdicts store (lines_of (take budget input)).ended; status = InputTooLong }
    else record { pieces = verdicts store (all_lines input); status = status_after (after store (all_lines input)).refused }

-- with the last piece, where so many feeds are lost
abbrev pub with_last : ℕ → Told Status → Told Status
with_last lost told = record { pieces = told.pieces ++ pieces_in (last_piece told.status lost); status = told.status }

-- the two areas are judged first, and then the lines
unfoldable pub told_apply : List ℕ → Areas → ℕ → ℕ → Told Status
told_apply input areas budget lost = told_of_areas areas (λ store. with_last lost (told_lines input budget store))
