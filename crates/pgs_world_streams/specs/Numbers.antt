-- How the numbers of the standard streams are taken, which the system gives to the files that are opened next where a stream is closed.
use Rattle.std.specs.Prelude.{◌≡◌, ◌⊎◌, Option, Some, None, Result, Ok, Err, pos, ◌<ℤ◌}
use Rattle.std.specs.Fd.{file_raw_fd}
use Rattle.std.specs.declared.fs.File.{File}
use Rattle.std.specs.declared.io.Error.{Error}

-- The folder was opened and has the number of a stream. Else it got a number above these, so none of them is free; or it couldn't be opened.
abbrev pub IsTaken : (Result File Error → Type 0) → Option File → Type 0
IsTaken gives (Some file) = gives (Ok file) × (pos 2 <ℤ file_raw_fd file → ⊥)
IsTaken gives None = ((file : File) × gives (Ok file) × (pos 2 <ℤ file_raw_fd file)) ⊎ ((error : Error) × gives (Err error))

-- The same behind one that was taken; behind one that wasn't, none is.
abbrev pub IsNext : (Result File Error → Type 0) → Option File → Option File → Type 0
IsNext gives (Some before) next = IsTaken gives next
IsNext gives None next = next ≡ None

-- the first that was taken has the number of standard input
abbrev pub IsInput : Option File → Type 0
IsInput (Some file) = file_raw_fd file ≡ pos 0
IsInput None = ⊥
