-- The machine of a run tells what `told_sessions` says.
use Rattle.std.proofs.Common.{◌≡◌, ℕ, false, cond, List, [], ◌∷◌, ◌++◌, Result, Ok, Err, refl, sym, ap, subst, ◌∙◌}
use Rattle.std.proofs.lemmas.List.{append-nil}
use Rattle.pgs_run_lines.specs.Machine.{Told, Going, told_by}
use Rattle.pgs_syntax.specs.declared.resolved.Resolved.{Resolved}
use Rattle.pgs_command.specs.declared.status.Status.{Status}
use Rattle.pgs_command.specs.declared.status.Status.TheVariants.{SchemaRefused}
use Rattle.pgs_run_input.specs.Answers.{schema_answer}
use Rattle.pgs_run_input.specs.Input.{is_separator}
use Rattle.pgs_run_input.specs.Part.{with_line}
use Rattle.pgs_run_input.proofs.SchemaFirst as behind
use Rattle.pgs_run_input.proofs.SchemaFirst.{Places, SchemaFirst, told_schema_first}
use Rattle.pgs_run_sessions.specs.EventLines.{Stepped, Standing, first, after_lines, pieces_of_lines}
use Rattle.pgs_run_sessions.specs.InputMachine.{input_machine, input_teller, first_stand, Stand, Schema, Lines, Refused, after_schema, after_end, pieces_at_end, next_of, told_after, line_limit, line_front}
use Rattle.pgs_run_sessions.specs.State.{brief_sessions}
use Rattle.pgs_run_sessions.specs.Told.{status_after, told_schema, told_input, told_sessions}
use Rattle.pgs_run_sessions.proofs.Following.{after_lines-append, pieces_of_lines-append, pieces_of_one}
use Rattle.pgs_run_sessions.proofs.Fronts.{separator_of_front, part_of_line, after_front, pieces_of_front}
use Rattle.pgs_run_sessions.proofs.InBrief.{input_brief}
use Rattle.pgs_sessions.specs.Summary.{Summary}
use Rattle.pgs_sessions_machine.specs.declared.event.Event.{Event}

abbrev begin : Standing Summary
begin = first brief_sessions.begin

abbrev step : Resolved → Summary → Event → Stepped Summary
step schema = brief_sessions.step schema

abbrev places : Places Stand
places = record { part = Schema; begin = λ text schema. Lines schema begin; refused = Refused }

after_judged : (text : List ℕ) (answer : Result Resolved (List ℕ)) → after_schema answer ≡ behind.after_schema places text answer
after_judged text (Ok schema) = refl
after_judged text (Err refusal) = refl

-- these lines behind a schema lead there
abbrev Behind : Resolved → List (List ℕ) → Stand → Type 0
Behind schema lines stand = stand ≡ Lines schema (after_lines (step schema) begin lines)

module _ (schema : Resolved) (lines : List (List ℕ)) (line : List ℕ) (stand : Stand) (is : Behind schema lines stand) where
  leads : Behind schema (lines ++ line ∷ []) (after_end stand (line_front line))
  leads =
      ap (λ s. after_end s (line_front line)) is
      ∙ ap (Lines schema) (after_front (step schema) (after_lines (step schema) begin lines) line ∙ sym (after_lines-append (step schema) begin lines (line ∷ [])))

  tells : (told_schema brief_sessions false (Ok schema) (lines ++ line ∷ [])).pieces ≡ (told_schema brief_sessions false (Ok schema) lines).pieces ++ pieces_at_end stand (line_front line)
  tells =
      let standing = after_lines (step schema) begin lines in
      pieces_of_lines-append (step schema) begin lines (line ∷ [])
      ∙ ap (λ pieces. pieces_of_lines (step schema) begin lines ++ pieces)
      (pieces_of_one (step schema) standing line ∙ sym (pieces_of_front (step schema) standing line) ∙ sym (ap (λ s. pieces_at_end s (line_front line)) is))

laws : SchemaFirst input_teller line_limit [] (told_schema brief_sessions) places Behind
laws = record {
  separator = separator_of_front;
  part_line = part_of_line;
  part_next = λ part. refl;
  part_after = λ part line. ap (λ stand. cond (is_separator line) stand (Schema (with_line part line))) (after_judged part.text (schema_answer part.text));
  part_pieces = λ part line. refl;
  part_told = λ part. refl;
  refused_ends = record { status = SchemaRefused; is = refl; after = λ line. refl; pieces = λ line. refl; told = refl };
  refused_told = λ whole text lines. refl;
  begins = λ text schema. refl;
  none = λ schema. refl;
  cut = λ schema lines. refl;
  next = λ schema lines stand is. subst (λ s. next_of s ≡ Going s) (sym is) refl;
  line = leads;
  pieces = tells;
  end = λ schema lines stand is.
      let pieces = pieces_of_lines (step schema) begin lines in
      ap (λ all. record { pieces = all; status = status_after (after_lines (step schema) begin lines).refused }) (sym (append-nil pieces))
      ∙ ap (λ (end : Told Status). record { pieces = pieces ++ end.pieces; status = end.status }) (sym (ap told_after is));
}

in_brief : (input : List ℕ) (budget : ℕ) → told_by input_machine line_limit first_stand input budget ≡ told_input brief_sessions input budget
unfolding told_input
in_brief input budget = told_schema_first input_teller line_limit [] (told_schema brief_sessions) places Behind laws input budget

-- the machine tells what the machine of sessions tells
pub told_by_input : (input : List ℕ) (budget : ℕ) → told_by input_machine line_limit first_stand input budget ≡ told_sessions input budget
told_by_input input budget = in_brief input budget ∙ input_brief input budget
