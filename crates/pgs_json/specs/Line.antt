-- The transaction of a line, and why a line gives none.
use Rattle.std.specs.Prelude.{◌≡◌, ℕ, List, length, Option, Some, None, Result, Ok, Err, option_and_then, nat_lt, if◌then◌else◌}
use Rattle.std.specs.Str.{is_utf8}
use Rattle.pgs_base.specs.declared.text_limit.TheConstants.{TEXT_LIMIT}
use Rattle.pgs_graph.specs.declared.operation.Txn.{Txn}
use Rattle.serde_json.specs.Read.{read}
use Rattle.pgs_json.specs.Form.{form}
use Rattle.pgs_json.specs.declared.line_fault.LineFault.{LineFault}
use Rattle.pgs_json.specs.declared.line_fault.LineFault.TheVariants.{Memory, Unreadable, LineTooLong}
use Rattle.pgs_json.specs.declared.unread.Unread.{Unread}
use Rattle.pgs_json.specs.declared.unread.Unread.TheVariants as unread

-- the transaction that the line's JSON value names. None where the line is no JSON text, or its value
-- isn't of the form of a transaction
unfoldable pub txn_of : List ℕ → Option Txn
txn_of line = if is_utf8 line then option_and_then form (read line) else None

abbrev pub or_unreadable : Option Txn → Result Txn LineFault
or_unreadable None = Err Unreadable
or_unreadable (Some txn) = Ok txn

-- what a line gives. Its length is tested first
unfoldable pub read_line : List ℕ → Result Txn LineFault
read_line line = if nat_lt TEXT_LIMIT (length line) then Err LineTooLong else or_unreadable (txn_of line)

-- what was returned is what the line gives, unless memory ran out
abbrev pub Reads : Result Txn LineFault → List ℕ → Type 0
Reads (Ok txn) line = read_line line ≡ Ok txn
Reads (Err Memory) line = Unit {0}
Reads (Err Unreadable) line = read_line line ≡ Err Unreadable
Reads (Err LineTooLong) line = read_line line ≡ Err LineTooLong

-- a reader's fault as a line's
abbrev pub fault_of : Unread → LineFault
fault_of unread.Memory = Memory
fault_of unread.Unfit = Unreadable
