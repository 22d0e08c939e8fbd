-- How a command ends that reads no more and puts one line last.
use Rattle.std.proofs.Common.{◌≡◌, inl, ℕ, Bool, true, List, [], ◌∷◌, Some, None, cond, refl, sym, ap, subst, ◌∙◌}
use Rattle.pgs_run_lines.specs.AreasKept.{KeepsAreas}
use Rattle.pgs_run_lines.specs.Ending.{Faults, faults_of}
use Rattle.pgs_run_lines.specs.Machine.{Told}
use Rattle.pgs_run_lines.specs.Pieces.{Shown, ShowsFirst, shown_of}
use Rattle.pgs_run_lines.specs.Replies.{EndsLast, PutsReply}
use Rattle.pgs_run_lines.proofs.Showing.{shows_none}
use Rattle.pgs_world.specs.Count.{RoseByOne}
use Rattle.pgs_world.specs.Disk.{PutsFront}
use Rattle.pgs_world.specs.Moment.{IsQuiet, MakesNoPut, StopsBy}
use Rattle.pgs_world.specs.World.{Triple, View}
use Rattle.pgs_command.specs.declared.status.Status.{Status}
use Rattle.pgs_command.specs.declared.status.Status.TheVariants.{DiskFault, PutFault, Memory}
use Rattle.pgs_command.specs.Answers.{IsOfCommand}
use Rattle.pgs_command.specs.Ending.{Ends}
use Rattle.pgs_command.specs.Run.{HasCause}
use Rattle.pgs_command.proofs.Replied.{IsOwn, by_last, last_cause, last_ends}
use Rattle.pgs_run_input.specs.Text.{AnswersText}

-- ---- nothing was put

-- nothing was put, and no call failed
pub record IsSilent (old new : View) : Type 0 where
  pub shown : shown_of new ≡ shown_of old
  pub area_faults : new.area_faults ≡ old.area_faults
  pub put_faults : new.put_faults ≡ old.put_faults

pub silent_none : (view : View) → IsSilent view view
silent_none view = record { shown = refl; area_faults = refl; put_faults = refl }

pub same_shown : (old new : View) → new.tells_output ≡ old.tells_output → new.shown.output ≡ old.shown.output → MakesNoPut old new → shown_of new ≡ shown_of old
same_shown old new tells output none =
    let shown : Bool → List ℕ → ℕ → Shown = λ tells output puts. record { output = cond tells (Some output) None; puts = puts } in
    ap (λ t. shown t new.shown.output new.puts) tells ∙ ap (λ o. shown old.tells_output o new.puts) output ∙ ap (shown old.tells_output old.shown.output) none.puts

pub silent_quiet : (old new : View) → IsQuiet old new → MakesNoPut old new → new.area_faults ≡ old.area_faults → IsSilent old new
silent_quiet old new quiet none areas =
    record { shown = same_shown old new quiet.passes.tells_output (ap (λ (t : Triple). t.output) quiet.shown) none; area_faults = areas; put_faults = none.put_faults }

pub silent_faults : (reads : ℕ) (old new : View) → IsSilent old new → faults_of reads new ≡ faults_of reads old
silent_faults reads old new silent =
    let faults : ℕ → ℕ → Faults = λ areas puts. record { reads = reads; areas = areas; puts = puts } in
    ap (λ areas. faults areas new.put_faults) silent.area_faults ∙ ap (faults old.area_faults) silent.put_faults

nothing : (told : Told Status) (old new : View) → shown_of new ≡ shown_of old → ShowsFirst (shown_of old) told.pieces (shown_of new)
nothing told old new same =
    subst (λ (s : Shown). ShowsFirst (shown_of old) told.pieces s) (sym same) (record { first = []; later = told.pieces; parts = refl; shows = shows_none (shown_of old) })

-- for want of memory
pub answers_none : (told : Told Status) (old new : View) → IsSilent old new → AnswersText told old new Memory
answers_none told old new silent = record { ends = nothing told old new silent.shown; may_end = tt; cause = λ reads count. silent_faults count old new silent }

-- where an area failed
pub answers_failed : (told : Told Status) (old new : View) → shown_of new ≡ shown_of old → RoseByOne old.area_faults new.area_faults → new.put_faults ≡ old.put_faults → AnswersText told old new DiskFault
answers_failed told old new same rose puts = record { ends = nothing told old new same; may_end = tt; cause = λ reads count. (refl, (rose, refl, puts)) }

-- ---- a line was put, where there was memory for it

-- one line, and a status
abbrev pub told_line : List ℕ → Status → Told Status
told_line line status = record { pieces = line ∷ []; status = status }

pub record PutsLine (line : List ℕ) (status : Status) (old : View) (result : Status) (new : View) : Type 0 where
  pub ends : EndsLast line status PutFault Memory old result new
  pub stops : StopsBy (PutsFront line) old new
  pub areas : KeepsAreas old new

pub line_of_reply : (line : List ℕ) (status : Status) (old : View) (result : Status) (new : View) → PutsReply line status PutFault old result new → PutsLine line status old result new
line_of_reply line status old result new put = record { ends = inl put.ends; stops = put.stops; areas = put.areas }

pub answers_line : (told : Told Status) (line : List ℕ) (status result : Status) (old mid new : View) → IsSilent old mid → IsOwn true status → IsOfCommand status → told ≡ told_line line status → PutsLine line status mid result new
    → AnswersText told old new result
answers_line told line status result old mid new silent own may_end is put = record {
  ends = subst (λ (s : Shown). Ends s told result (shown_of new)) silent.shown
      (last_ends true told line status result mid new own (ap (λ (t : Told Status). t.pieces) is) (ap (λ (t : Told Status). t.status) is) put.ends);
  may_end = by_last IsOfCommand line status result mid new may_end tt tt put.ends;
  cause = λ reads count.
      subst (λ (before : Faults). HasCause reads true before (faults_of count new) result) (silent_faults count old mid silent) (last_cause reads true count line status result mid new own put.ends);
}
