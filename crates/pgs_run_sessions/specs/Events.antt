-- The event of a line, or the text of the refusal: 21 first, then 46, then 20.
use Rattle.std.specs.Prelude.{ℕ, List, length, nat_lt, Option, Some, None, option_and_then, Result, Ok, Err, codes, if◌then◌else◌}
use Rattle.pgs_base.specs.declared.element.Elem.{Elem}
use Rattle.pgs_graph.specs.declared.operation.Txn.{Txn}
use Rattle.pgs_answer.specs.Refusals.{line_too_long_text, no_event_text}
use Rattle.pgs_run_input.specs.Answers.{txn_answer}
use Rattle.pgs_run_input.specs.Input.{text_limit}
use Rattle.pgs_run_words.specs.Words.{number_of, elem_of}
use Rattle.pgs_sessions_machine.specs.declared.event.Event.{Event}
use Rattle.pgs_sessions_machine.specs.declared.event.Event.TheVariants.{Begin, Read, Stage, Commit, Abort}
use Rattle.pgs_run_sessions.specs.LineWords.{word_of, behind_word, without_return, is_word}

-- an event, or refusal 46 where there is none
abbrev pub event_or : Option Event → Result Event (List ℕ)
event_or None = Err no_event_text
event_or (Some event) = Ok event

-- `begin`, `commit` and `abort` of a session
abbrev pub plain_event : List ℕ → ℕ → Option Event
plain_event word session =
    if is_word word (codes "begin") then Some (Begin session)
    else (if is_word word (codes "commit") then Some (Commit session)
    else (if is_word word (codes "abort") then Some (Abort session) else None))

-- the element of the bytes behind a number
abbrev pub elem_behind : Option (List ℕ) → Option Elem
elem_behind None = None
elem_behind (Some word) = elem_of word

-- `read` of a session and an element
abbrev pub reading : Option ℕ → Option Elem → Option Event
reading (Some session) (Some elem) = Some (Read session elem)
reading session elem = None

-- a transaction that is staged, or why it isn't one
abbrev pub staging : ℕ → Result Txn (List ℕ) → Result Event (List ℕ)
staging session (Ok txn) = Ok (Stage session txn)
staging session (Err text) = Err text

-- `stage` of a session and a transaction: all that stands behind the space is the JSON part
abbrev pub staged : Option ℕ → Option (List ℕ) → Result Event (List ℕ)
staged (Some session) (Some json) = staging session (txn_answer json)
staged session json = Err no_event_text

-- the event of a word and what stands behind the space after it
unfoldable pub event_of : List ℕ → List ℕ → Result Event (List ℕ)
event_of word rest =
    if is_word word (codes "stage") then staged (number_of (word_of rest)) (behind_word rest)
    else (if is_word word (codes "read") then event_or (reading (number_of (word_of rest)) (elem_behind (behind_word rest)))
    else event_or (option_and_then (plain_event word) (number_of rest)))

abbrev pub event_behind : List ℕ → Option (List ℕ) → Result Event (List ℕ)
event_behind word None = Err no_event_text
event_behind word (Some rest) = event_of word rest

-- the event of a line that has no carriage return at its end
abbrev pub event_in : List ℕ → Result Event (List ℕ)
event_in line = event_behind (word_of line) (behind_word line)

-- the event of a line, or the text of its refusal
unfoldable pub event_answer : List ℕ → Result Event (List ℕ)
event_answer line =
    if nat_lt text_limit (length (without_return line)) then Err line_too_long_text else event_in (without_return line)
