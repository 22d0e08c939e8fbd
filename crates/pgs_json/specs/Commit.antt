-- The commit of a line of a feed: its number and its transaction, and why a line gives none.
use Rattle.std.specs.Prelude.{◌≡◌, ℕ, List, [], ◌∷◌, length, Option, Some, None, Result, Ok, Err, option_and_then, nat_lt, if◌then◌else◌, codes}
use Rattle.std.specs.Str.{is_utf8}
use Rattle.pgs_base.specs.Options.{◌>>=◌}
use Rattle.pgs_graph.specs.declared.operation.Txn.{Txn}
use Rattle.serde_json.specs.Data.{Data}
use Rattle.serde_json.specs.Read.{read}
use Rattle.pgs_json.specs.Form.{has_only, part, id_of, ops_of}
use Rattle.pgs_json.specs.declared.commit.TheConstants.{COMMIT_LIMIT}
use Rattle.pgs_json.specs.declared.commit_fault.CommitFault.{CommitFault}
use Rattle.pgs_json.specs.declared.commit_fault.CommitFault.TheVariants.{Memory, Unreadable, LineTooLong}
use Rattle.pgs_json.specs.declared.unread.Unread.{Unread}
use Rattle.pgs_json.specs.declared.unread.Unread.TheVariants as unread

abbrev pub from_one : ℕ → Option ℕ
from_one n = if nat_lt 0 n then Some n else None

-- the number of a commit: an id of at least 1
abbrev pub number_of : Data → Option ℕ
number_of d = id_of d >>= from_one

-- an object with the two members `commit`, a number, and `ops`, a list of operations
unfoldable pub commit_form : Data → Option (ℕ × Txn)
commit_form d =
    if has_only (codes "commit" ∷ codes "ops" ∷ []) d
    then (part number_of (codes "commit") d >>= λ number. part ops_of (codes "ops") d >>= λ ops. Some (number, record { ops = ops }))
    else None

-- the commit that the line's JSON value names. None where the line is no JSON text, or its value isn't of the form of a commit
unfoldable pub commit_of : List ℕ → Option (ℕ × Txn)
commit_of line = if is_utf8 line then option_and_then commit_form (read line) else None

abbrev pub or_unreadable : Option (ℕ × Txn) → Result (ℕ × Txn) CommitFault
or_unreadable None = Err Unreadable
or_unreadable (Some commit) = Ok commit

-- what a line gives. Its length is tested first
unfoldable pub read_commit_line : List ℕ → Result (ℕ × Txn) CommitFault
read_commit_line line = if nat_lt COMMIT_LIMIT (length line) then Err LineTooLong else or_unreadable (commit_of line)

-- what was returned is what the line gives, unless memory ran out
abbrev pub ReadsCommit : Result (ℕ × Txn) CommitFault → List ℕ → Type 0
ReadsCommit (Ok commit) line = read_commit_line line ≡ Ok commit
ReadsCommit (Err Memory) line = Unit {0}
ReadsCommit (Err Unreadable) line = read_commit_line line ≡ Err Unreadable
ReadsCommit (Err LineTooLong) line = read_commit_line line ≡ Err LineTooLong

-- a reader's fault as a line's
abbrev pub fault_of : Unread → CommitFault
fault_of unread.Memory = Memory
fault_of unread.Unfit = Unreadable
