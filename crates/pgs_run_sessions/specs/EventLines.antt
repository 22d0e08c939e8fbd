-- What event lines tell, one after another. What sessions are, and what an event brings to them, are parameters.
use Rattle.std.specs.Prelude.{ℕ, ◌+◌, Bool, true, false, ◌||◌, List, [], ◌∷◌, ◌++◌, Result, Ok, Err, if◌then◌else◌}
use Rattle.pgs_answer.specs.Lines.{refused_line}
use Rattle.pgs_run_sessions.specs.Events.{event_answer}
use Rattle.pgs_run_sessions.specs.Replies.{line_of, is_refusal}
use Rattle.pgs_run_input.specs.Input.{is_skipped}
use Rattle.pgs_sessions_machine.specs.declared.event.Event.{Event}
use Rattle.pgs_sessions_machine.specs.declared.event.Reply.{Reply}

-- what an event brings: its reply, and the sessions after it
pub record Stepped (S : Type 0) : Type 0 where
  pub reply : Reply
  pub state : S

-- where a run stands between two lines: how many are numbered so far, whether one was refused, and the sessions
pub record Standing (S : Type 0) : Type 0 where
  pub number : ℕ
  pub refused : Bool
  pub state : S

-- before the first line
abbrev pub first : {S : Type 0} → S → Standing S
first state = record { number = 0; refused = false; state = state }

-- after a line that is no event
abbrev pub after_refusal : {S : Type 0} → Standing S → Standing S
after_refusal s = record s { number = s.number + 1; refused = true }

module _ {S : Type 0} (step : S → Event → Stepped S) where
  -- after an event, and its line
  abbrev pub after_event : Standing S → Event → Standing S
  after_event s event = record {
    number = s.number + 1;
    refused = s.refused || is_refusal (step s.state event).reply;
    state = (step s.state event).state;
  }

  abbrev pub event_line : Standing S → Event → List ℕ
  event_line s event = line_of (s.number + 1) event (step s.state event).reply

  -- after a line, and its line, by the event that it is or the text of its refusal
  abbrev pub after_answer : Standing S → Result Event (List ℕ) → Standing S
  after_answer s (Ok event) = after_event s event
  after_answer s (Err text) = after_refusal s

  abbrev pub answer_line : Standing S → Result Event (List ℕ) → List ℕ
  answer_line s (Ok event) = event_line s event
  answer_line s (Err text) = refused_line (s.number + 1) text

  -- after a line: a blank one is skipped and not numbered
  unfoldable pub after_line : Standing S → List ℕ → Standing S
  after_line s line = if is_skipped line then s else after_answer s (event_answer line)

  -- what a line tells
  unfoldable pub pieces_of_line : Standing S → List ℕ → List (List ℕ)
  pieces_of_line s line = if is_skipped line then [] else answer_line s (event_answer line) ∷ []

  abbrev pub after_lines : Standing S → List (List ℕ) → Standing S
  after_lines s [] = s
  after_lines s (line ∷ lines) = after_lines (after_line s line) lines

  abbrev pub pieces_of_lines : Standing S → List (List ℕ) → List (List ℕ)
  pieces_of_lines s [] = []
  pieces_of_lines s (line ∷ lines) = pieces_of_line s line ++ pieces_of_lines (after_line s line) lines
