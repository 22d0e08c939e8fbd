-- Sessions in brief tell what the machine of sessions tells.
use Rattle.std.proofs.Common.{◌≡◌, ℕ, ◌+◌, Bool, true, false, ◌||◌, List, [], ◌∷◌, ◌++◌, length, nat_le, take, Result, Ok, Err, refl, ap, ◌∙◌}
use Rattle.std.specs.List.{list_any}
use Rattle.pgs_run_sessions.specs.Events.{event_answer}
use Rattle.pgs_run_sessions.specs.Replies.{line_of, is_refusal}
use Rattle.pgs_run_lines.specs.Input.{lines_of}
use Rattle.pgs_run_input.specs.Answers.{schema_answer}
use Rattle.pgs_run_input.specs.Input.{is_separator, is_skipped, schema_part, after_separator}
use Rattle.pgs_run_input.specs.Session.{standard}
use Rattle.pgs_run_sessions.specs.EventLines.{Stepped, Standing, first, after_event, after_answer, answer_line, after_line, pieces_of_line, after_lines, pieces_of_lines}
use Rattle.pgs_run_sessions.specs.State.{brief_sessions, brought}
use Rattle.pgs_run_sessions.specs.Told.{with_end, told_schema, told_lines, told_input, machine_sessions}
use Rattle.pgs_sessions.specs.State.{deciding}
use Rattle.pgs_sessions.specs.Summary.{Summary, summary_of}
use Rattle.pgs_sessions.proofs.Brief.{step_same}
use Rattle.pgs_sessions_machine.specs.declared.event.Event.{Event}
use Rattle.pgs_sessions_machine.specs.Machine.{State}
use Rattle.pgs_syntax.specs.declared.resolved.Resolved.{Resolved}

-- where a run stands, its sessions in brief
abbrev in_brief : Standing State → Standing Summary
in_brief s = record { number = s.number; refused = s.refused; state = summary_of s.state }

abbrev stepped_brief : Stepped State → Stepped Summary
stepped_brief s = record { reply = s.reply; state = summary_of s.state }

module _ (schema : Resolved) where
  step_brief : (state : State) (event : Event) → brief_sessions.step schema (summary_of state) event ≡ stepped_brief (machine_sessions.step schema state event)
  step_brief state event = ap brought (step_same (deciding schema standard) state event)

  after_event_brief : (s : Standing State) (event : Event) →
      after_event (brief_sessions.step schema) (in_brief s) event ≡ in_brief (after_event (machine_sessions.step schema) s event)
  after_event_brief s event = λ i. record {
    number = s.number + 1;
    refused = s.refused || is_refusal (step_brief s.state event i).reply;
    state = (step_brief s.state event i).state;
  }

  after_answer_brief : (s : Standing State) (answer : Result Event (List ℕ)) →
      after_answer (brief_sessions.step schema) (in_brief s) answer ≡ in_brief (after_answer (machine_sessions.step schema) s answer)
  after_answer_brief s (Ok event) = after_event_brief s event
  after_answer_brief s (Err text) = refl

  after_line_brief : (s : Standing State) (line : List ℕ) (blank : Bool) → is_skipped line ≡ blank →
      after_line (brief_sessions.step schema) (in_brief s) line ≡ in_brief (after_line (machine_sessions.step schema) s line)
  unfolding after_line
  after_line_brief s line true e = rw e refl
  after_line_brief s line false e = rw e (after_answer_brief s (event_answer line))

  answer_line_brief : (s : Standing State) (answer : Result Event (List ℕ)) →
      answer_line (brief_sessions.step schema) (in_brief s) answer ≡ answer_line (machine_sessions.step schema) s answer
  answer_line_brief s (Ok event) = ap (λ (b : Stepped Summary). line_of (s.number + 1) event b.reply) (step_brief s.state event)
  answer_line_brief s (Err text) = refl

  pieces_of_line_brief : (s : Standing State) (line : List ℕ) (blank : Bool) → is_skipped line ≡ blank →
      pieces_of_line (brief_sessions.step schema) (in_brief s) line ≡ pieces_of_line (machine_sessions.step schema) s line
  unfolding pieces_of_line
  pieces_of_line_brief s line true e = rw e refl
  pieces_of_line_brief s line false e = rw e (ap (λ (l : List ℕ). l ∷ []) (answer_line_brief s (event_answer line)))

  after_lines_brief : (s : Standing State) (lines : List (List ℕ)) →
      after_lines (brief_sessions.step schema) (in_brief s) lines ≡ in_brief (after_lines (machine_sessions.step schema) s lines)
  after_lines_brief s [] = refl
  after_lines_brief s (line ∷ lines) =
      ap (λ (t : Standing Summary). after_lines (brief_sessions.step schema) t lines) (after_line_brief s line (is_skipped line) refl)
      ∙ after_lines_brief (after_line (machine_sessions.step schema) s line) lines

  pieces_of_lines_brief : (s : Standing State) (lines : List (List ℕ)) →
      pieces_of_lines (brief_sessions.step schema) (in_brief s) lines ≡ pieces_of_lines (machine_sessions.step schema) s lines
  pieces_of_lines_brief s [] = refl
  pieces_of_lines_brief s (line ∷ lines) =
      ap (λ (pieces : List (List ℕ)). pieces ++ pieces_of_lines (brief_sessions.step schema) (after_line (brief_sessions.step schema) (in_brief s) line) lines)
      (pieces_of_line_brief s line (is_skipped line) refl)
      ∙ ap (λ (t : Standing Summary). pieces_of_line (machine_sessions.step schema) s line ++ pieces_of_lines (brief_sessions.step schema) t lines)
      (after_line_brief s line (is_skipped line) refl)
      ∙ ap (λ (pieces : List (List ℕ)). pieces_of_line (machine_sessions.step schema) s line ++ pieces)
      (pieces_of_lines_brief (after_line (machine_sessions.step schema) s line) lines)

schema_brief : (whole : Bool) (schema : Result Resolved (List ℕ)) (lines : List (List ℕ)) →
    told_schema brief_sessions whole schema lines ≡ told_schema machine_sessions whole schema lines
schema_brief whole (Err text) lines = refl
schema_brief whole (Ok schema) lines =
    ap (λ (pieces : List (List ℕ)). with_end whole pieces (after_lines (brief_sessions.step schema) (first brief_sessions.begin) lines).refused)
    (pieces_of_lines_brief schema (first machine_sessions.begin) lines)
    ∙ ap (λ (s : Standing Summary). with_end whole (pieces_of_lines (machine_sessions.step schema) (first machine_sessions.begin) lines) s.refused)
    (after_lines_brief schema (first machine_sessions.begin) lines)

lines_by : (whole : Bool) (lines : List (List ℕ)) (told : Bool) → (whole || list_any is_separator lines) ≡ told →
    told_lines brief_sessions whole lines ≡ told_lines machine_sessions whole lines
lines_by whole lines true e = rw e (schema_brief whole (schema_answer (schema_part lines)) (after_separator lines))
lines_by whole lines false e = rw e refl

lines_brief : (whole : Bool) (lines : List (List ℕ)) → told_lines brief_sessions whole lines ≡ told_lines machine_sessions whole lines
lines_brief whole lines = lines_by whole lines (whole || list_any is_separator lines) refl

input_by : (input : List ℕ) (budget : ℕ) (cut : Bool) → nat_le budget (length input) ≡ cut → told_input brief_sessions input budget ≡ told_input machine_sessions input budget
unfolding told_input
input_by input budget true e = rw e (lines_brief false (lines_of (take budget input)).ended)
input_by input budget false e = rw e (lines_brief true ((lines_of input).ended ++ (lines_of input).rest ∷ []))

-- what is told of an input
pub input_brief : (input : List ℕ) (budget : ℕ) → told_input brief_sessions input budget ≡ told_input machine_sessions input budget
input_brief input budget = input_by input budget (nat_le budget (length input)) refl
