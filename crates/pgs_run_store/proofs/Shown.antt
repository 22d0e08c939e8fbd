-- What is shown, and which faults are counted, where nothing was put.
use Rattle.std.proofs.Common.{◌≡◌, ℕ, Bool, List, [], Some, None, refl, ◌∙◌, ap}
use Rattle.std.specs.Prelude.{if◌then◌else◌}
use Rattle.pgs_run_lines.specs.Ending.{Faults, faults_of}
use Rattle.pgs_run_lines.specs.Pieces.{Shown, ShowsFirst, shown_of}
use Rattle.pgs_run_lines.proofs.Showing.{shows_none}
use Rattle.pgs_world.specs.Moment.{IsQuiet, MakesNoPut}
use Rattle.pgs_world.specs.World.{Triple, View}

abbrev shown_as : Bool → List ℕ → ℕ → Shown
shown_as tells output puts = record { output = if tells then Some output else None; puts = puts }

-- the same output, and no put
pub same_shown : (old new : View) → new.tells_output ≡ old.tells_output → new.shown.output ≡ old.shown.output → new.puts ≡ old.puts → shown_of new ≡ shown_of old
same_shown old new tells output puts =
    ap (λ (t : Bool). shown_as t new.shown.output new.puts) tells
    ∙ ap (λ (o : List ℕ). shown_as old.tells_output o new.puts) output
    ∙ ap (λ (n : ℕ). shown_as old.tells_output old.shown.output n) puts

pub shown_quiet : (old new : View) → IsQuiet old new → MakesNoPut old new → shown_of new ≡ shown_of old
shown_quiet old new quiet no_put = same_shown old new quiet.passes.tells_output (ap (λ (t : Triple). t.output) quiet.shown) no_put.puts

-- nothing is some first pieces of any
pub shows_no_piece : (start : Shown) (pieces : List (List ℕ)) → ShowsFirst start pieces start
shows_no_piece start pieces = record { first = []; later = pieces; parts = refl; shows = shows_none start }

abbrev counts : ℕ → ℕ → ℕ → Faults
counts reads areas puts = record { reads = reads; areas = areas; puts = puts }

pub same_faults : (reads : ℕ) (old new : View) → new.area_faults ≡ old.area_faults → new.put_faults ≡ old.put_faults → faults_of reads new ≡ faults_of reads old
same_faults reads old new areas puts =
    ap (λ (n : ℕ). counts reads n new.put_faults) areas ∙ ap (λ (n : ℕ). counts reads old.area_faults n) puts
