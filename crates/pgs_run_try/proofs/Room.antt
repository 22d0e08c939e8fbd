-- Room for counting lines and commits.
use Rattle.std.proofs.Common.{◌≡◌, ℕ, ◌+◌, ◌-◌, ◌<◌, ◌^◌, Bool, true, false, List, Result, Ok, Err, OnOk, refl, sym, subst, arith}
use Rattle.pgs_syntax.specs.declared.resolved.Resolved.{Resolved}
use Rattle.pgs_run_input.specs.Answers.{schema_answer}
use Rattle.pgs_run_input.specs.Input.{is_separator, is_skipped}
use Rattle.pgs_run_input.specs.Part.{Part}
use Rattle.pgs_run_input.proofs.Following.{IsCounted, counted_line}
use Rattle.pgs_run_try.specs.declared.judging.Judging.{Judging}
use Rattle.pgs_run_try.specs.declared.phase.Phase.{Phase}
use Rattle.pgs_run_try.specs.declared.phase.Phase.TheVariants.{Schema, Lines, Refused}
use Rattle.pgs_run_try.specs.Judging.{verdict_by}
use Rattle.pgs_run_try.specs.Trying.{HasRoom, after_schema, after_end}

room_schema : (lines : ℕ) (judging : Judging) (schema : Result Resolved (List ℕ)) → lines + 1 < 2 ^ 64 → HasRoom lines (after_schema judging schema)
room_schema lines judging (Ok schema) room = (omega arith, omega arith)
room_schema lines judging (Err text) room = tt

room_part : (lines : ℕ) (judging : Judging) (part : Part) (line : List ℕ) (separator : Bool) → is_separator line ≡ separator → lines + 1 < 2 ^ 64 → HasRoom lines (after_end (Schema judging part) line)
room_part lines judging part line true e room = rw e (room_schema lines judging (schema_answer part.text) room)
room_part lines judging part line false e room = rw e (omega arith)

-- a line counts once at most
pub room_end : (lines : ℕ) (phase : Phase) (line : List ℕ) → HasRoom (lines + 1) phase → HasRoom lines (after_end phase line)
room_end lines (Schema judging part) line room = room_part lines judging part line (is_separator line) refl room
room_end lines (Lines s) line room =
    let n = 2 ^ 64 - 2 - lines in
    let number = room.0 in
    let commits = room.1 in
    let before : IsCounted n s.standing = record { lines = omega arith; commits = omega arith } in
    let after = counted_line n (verdict_by s.judging s.schema) s.standing line (is_skipped line) refl before in
    ((let h = after.lines in omega arith), (let h = after.commits in omega arith))
room_end lines Refused line room = tt

pub room_step : {T E : Type 0} (result : Result T E) (old new : Phase) (line : List ℕ) → OnOk result (new ≡ after_end old line) → OnOk result ((lines : ℕ) → HasRoom (lines + 1) old → HasRoom lines new)
room_step (Ok done) old new line is = λ lines room. subst (HasRoom lines) (sym is) (room_end lines old line room)
room_step (Err fault) old new line is = tt
