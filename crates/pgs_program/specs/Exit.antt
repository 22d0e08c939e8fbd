-- With which exit status a program ends: that of a run of the words that it was started with.
use Rattle.std.specs.Prelude.{◌≡◌, ◌⊎◌, ℕ, List, [], Result, Ok, Err, String}
use Rattle.std.specs.declared.alloc.Global.{Global}
use Rattle.std.specs.declared.io.Error.{Error}
use Rattle.std.specs.declared.vec.IntoIter.{IntoIter}
use Rattle.std.specs.declared.process.ExitCode.{ExitCode}
use Rattle.std.specs.Process.{exit_status}
use Rattle.std.specs.Vec.Iter.{into_iter_items}
use Rattle.pgs_command.specs.declared.status.Status.{Status}
use Rattle.pgs_command.specs.declared.status.Status.TheVariants.{Memory}
use Rattle.pgs_command.specs.ExitStatus.{status_number}
use Rattle.pgs_world_streams.specs.ProgramWords.{words_behind}

-- what a program was started with, or why that can't be read
abbrev pub Arguments : Type 0
Arguments = Result (IntoIter (String Global) Global) Error

-- the words behind the program's name; none where the arguments can't be read as text
abbrev pub AreWordsOf : Arguments → List (List ℕ) → Type 0
AreWordsOf (Ok all) words = words ≡ words_behind (into_iter_items all)
AreWordsOf (Err error) words = words ≡ []

-- the exit status is the number with which a run of these words ended
pub record ExitsAsRun (Runs : List (List ℕ) → Status → Type 0) (words : List (List ℕ)) (code : ExitCode) : Type 0 where
  pub status : Status
  pub ran : Runs words status
  pub exit : exit_status code ≡ status_number status

-- of the words of the arguments; or there was no memory for them, and it is 8
abbrev pub ExitsAs : (Runs : List (List ℕ) → Status → Type 0) → Arguments → ExitCode → Type 0
ExitsAs Runs arguments code =
    ((words : List (List ℕ)) × AreWordsOf arguments words × ExitsAsRun Runs words code) ⊎ (exit_status code ≡ status_number Memory)
