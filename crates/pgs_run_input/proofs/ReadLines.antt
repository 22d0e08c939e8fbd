-- What a line gives, as its reader answers it.
use Rattle.std.proofs.Common.{◌≡◌, ℕ, Bool, true, false, cond, nat_lt, List, [], length, Option, Some, None, Result, Ok, Err, ap}
use Rattle.pgs_base.specs.declared.text_limit.TheConstants.{TEXT_LIMIT}
use Rattle.pgs_graph.specs.declared.operation.Txn.{Txn}
use Rattle.pgs_json.specs.Line.{txn_of, or_unreadable, read_line}
use Rattle.pgs_json.specs.declared.line_fault.LineFault.{LineFault}
use Rattle.pgs_json.specs.declared.line_fault.LineFault.TheVariants.{Memory, Unreadable, LineTooLong}
use Rattle.pgs_answer.specs.Refusals.{unreadable_text, line_too_long_text}
use Rattle.pgs_run_input.specs.Answers.{txn_or_text, txn_answer}

abbrev pub line_or_text : Result Txn LineFault → Result Txn (List ℕ)
line_or_text (Ok txn) = Ok txn
line_or_text (Err Memory) = Err []
line_or_text (Err Unreadable) = Err unreadable_text
line_or_text (Err LineTooLong) = Err line_too_long_text

answered : (long : Bool) (found : Option Txn) (so : Result Txn LineFault) → cond long (Err LineTooLong) (or_unreadable found) ≡ so → cond long (Err line_too_long_text) (txn_or_text found) ≡ line_or_text so
answered true found so is = ap line_or_text is
answered false None so is = ap line_or_text is
answered false (Some txn) so is = ap line_or_text is

pub read_as : (line : List ℕ) (so : Result Txn LineFault) → read_line line ≡ so → txn_answer line ≡ line_or_text so
unfolding read_line txn_answer
read_as line so is = answered (nat_lt TEXT_LIMIT (length line)) (txn_of line) so is
