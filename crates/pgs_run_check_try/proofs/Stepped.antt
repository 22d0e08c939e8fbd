-- What a line and the end of the input do in a phase, by what is told of a schema text and of a session's line.
use Rattle.std.proofs.Common.{◌≡◌, ◌⊎◌, inl, inr, ℕ, ◌+◌, ◌-◌, ◌<◌, ◌≤◌, ◌^◌, Bool, true, false, cond, List, [], ◌++◌, Result, Ok, Err, OnOk, refl, sym, ap, ap₂, subst, ◌∙◌, arith}
use Rattle.std.specs.Prelude.{MatchBool}
use Rattle.pgs_base.specs.Graph.{Graph}
use Rattle.pgs_run_lines.specs.Machine.{Going, Ended, HasRoomFor}
use Rattle.pgs_syntax.specs.declared.resolved.Resolved.{Resolved}
use Rattle.pgs_violation.specs.declared.violation.Verdict.{Verdict}
use Rattle.pgs_violation.specs.Violations.{verdict}
use Rattle.pgs_command.specs.declared.status.Status.TheVariants.{SchemaRefused}
use Rattle.pgs_run_input.specs.Answers.{schema_answer}
use Rattle.pgs_run_input.specs.Input.{is_separator, is_skipped}
use Rattle.pgs_run_input.specs.Judged.{pieces_behind}
use Rattle.pgs_run_input.specs.Part.{Part, with_line}
use Rattle.pgs_run_input.specs.Session.{Standing, after_answer, after_line as standing_after, answer_to}
use Rattle.pgs_run_check_try.specs.declared.phase.Phase.{Phase}
use Rattle.pgs_run_check_try.specs.declared.phase.Phase.TheVariants.{Schema, Lines, Refused}
use Rattle.pgs_run_check_try.specs.Explaining.{HasRoom, after_end, after_schema, after_text, deciding, next_of, part_pieces, pieces_at_end}
use Rattle.pgs_run_check_try.specs.Rule.{IsRightText, RightIn, RightPart}
use Rattle.pgs_run_check_try.specs.State.{SessionState, TellsLine}
use Rattle.pgs_run_check_try.specs.Told.{Causes}
use Rattle.pgs_run_check_try.specs.Telling.{TellsEnd, TellsLast, TellsPart, TellsText}

-- ---- a line

module _ (part : Part) (line : List ℕ) where
  -- of a schema text that goes on
  pub tells_on : is_separator line ≡ false → TellsEnd (Schema part) line []
  tells_on on = record {
    causes = λ number. [];
    right = subst (λ (separates : Bool). MatchBool separates (IsRightText (λ number. []) part.text) (Unit {0})) (sym on) tt;
    is = sym (ap (λ (separates : Bool). cond separates (pieces_behind [] (schema_answer part.text)) []) on);
  }

  pub part_on : is_separator line ≡ false → Schema (with_line part line) ≡ after_end (Schema part) line
  part_on on = sym (ap (λ (separates : Bool). cond separates (after_text part.text) (Schema (with_line part line))) on)

  -- that ends it
  pub tells_judged : (pieces : List (List ℕ)) → is_separator line ≡ true → TellsText part.text pieces → TellsEnd (Schema part) line pieces
  tells_judged pieces separates told = record {
    causes = told.causes;
    right = subst (λ (is : Bool). MatchBool is (IsRightText told.causes part.text) (Unit {0})) (sym separates) told.right;
    is = told.is ∙ sym (ap (λ (is : Bool). cond is (pieces_behind (told.causes 0) (schema_answer part.text)) []) separates);
  }

  pub part_judged : is_separator line ≡ true → after_text part.text ≡ after_end (Schema part) line
  part_judged separates = sym (ap (λ (is : Bool). cond is (after_text part.text) (Schema (with_line part line))) separates)

pub tells_session : (s : SessionState) (line : List ℕ) (pieces : List (List ℕ)) → TellsLine s line pieces → TellsEnd (Lines s) line pieces
tells_session s line pieces told = record { causes = told.causes; right = told.right; is = told.is }

pub tells_nothing : (line : List ℕ) → TellsEnd Refused line []
tells_nothing line = record { causes = λ number. []; right = tt; is = refl }

-- ---- the end of the input

pub tells_part : (part : Part) (pieces : List (List ℕ)) → TellsText part.text pieces → TellsPart (Schema part) pieces
tells_part part pieces told = record { causes = told.causes; right = told.right; is = told.is }

-- in the other phases it tells nothing
pub tells_no_part : (s : Phase) → ((session : SessionState) × (s ≡ Lines session)) ⊎ (s ≡ Refused) → TellsPart s []
tells_no_part s (inl lines) = subst (λ (phase : Phase). TellsPart phase []) (sym lines.1) (record { causes = λ number. []; right = tt; is = refl })
tells_no_part s (inr refused) = subst (λ (phase : Phase). TellsPart phase []) (sym refused) (record { causes = λ number. []; right = tt; is = refl })

-- ---- a line, and then the end

-- one of the two tells nothing, whatever the causes
module _ (s : Phase) (rest : List ℕ) (lines more : List (List ℕ)) (told : TellsEnd s rest lines) (end : TellsPart (after_end s rest) more) where
  line_alone : ((causes : Causes) → part_pieces causes (after_end s rest) ≡ []) → ((causes : Causes) → RightPart causes (after_end s rest)) → TellsLast s rest (lines ++ more)
  line_alone none right = record {
    causes = told.causes;
    right = told.right;
    part = right told.causes;
    is = ap₂ (λ (xs ys : List (List ℕ)). xs ++ ys) told.is (end.is ∙ none end.causes ∙ sym (none told.causes));
  }

  end_alone : ((causes : Causes) → pieces_at_end causes s rest ≡ []) → ((causes : Causes) → RightIn ⊥ causes s rest) → TellsLast s rest (lines ++ more)
  end_alone none right = record {
    causes = end.causes;
    right = right end.causes;
    part = end.right;
    is = ap₂ (λ (xs ys : List (List ℕ)). xs ++ ys) (told.is ∙ none told.causes ∙ sym (none end.causes)) end.is;
  }

-- behind the judgement of a schema text the end tells nothing
none_behind : (causes : Causes) (text : List ℕ) (answer : Result Resolved (List ℕ)) → part_pieces causes (after_schema text answer) ≡ []
none_behind causes text (Ok schema) = refl
none_behind causes text (Err refusal) = refl

right_behind : (causes : Causes) (text : List ℕ) (answer : Result Resolved (List ℕ)) → RightPart causes (after_schema text answer)
right_behind causes text (Ok schema) = tt
right_behind causes text (Err refusal) = tt

last_part : (part : Part) (rest : List ℕ) (lines more : List (List ℕ)) (separates : Bool) → is_separator rest ≡ separates → TellsEnd (Schema part) rest lines → TellsPart (after_end (Schema part) rest) more → TellsLast (Schema part) rest (lines ++ more)
last_part part rest lines more true is told end =
    let next = part_judged part rest is in
    line_alone (Schema part) rest lines more told end (λ causes. ap (part_pieces causes) (sym next) ∙ none_behind causes part.text (schema_answer part.text))
    (λ causes. subst (RightPart causes) next (right_behind causes part.text (schema_answer part.text)))
last_part part rest lines more false is told end =
    end_alone (Schema part) rest lines more told end (λ causes. ap (λ (separates : Bool). cond separates (pieces_behind (causes 0) (schema_answer part.text)) []) is)
    (λ causes. subst (λ (separates : Bool). MatchBool separates (IsRightText causes part.text) (Unit {0})) (sym is) tt)

pub tells_last : (s : Phase) (rest : List ℕ) (lines more : List (List ℕ)) → TellsEnd s rest lines → TellsPart (after_end s rest) more → TellsLast s rest (lines ++ more)
tells_last (Schema part) rest lines more told end = last_part part rest lines more (is_separator rest) refl told end
tells_last (Lines s) rest lines more told end = line_alone (Lines s) rest lines more told end (λ causes. refl) (λ causes. tt)
tells_last Refused rest lines more told end = line_alone Refused rest lines more told end (λ causes. refl) (λ causes. tt)

-- ---- room for counting lines

most_answer : (s : Standing) (answer : Result Graph (List ℕ)) → (after_answer s answer).number ≤ s.number + 1
most_answer s (Ok g) = omega arith
most_answer s (Err text) = omega arith

most_line : (verdict : Graph → Verdict) (s : Standing) (line : List ℕ) (blank : Bool) → is_skipped line ≡ blank → (standing_after verdict s line).number ≤ s.number + 1
unfolding standing_after
most_line verdict s line true e = rw e (omega arith)
most_line verdict s line false e = rw e (most_answer s (answer_to verdict s.graph line))

room_schema : (lines : ℕ) (text : List ℕ) (answer : Result Resolved (List ℕ)) → lines + 1 < 2 ^ 64 → HasRoom lines (after_schema text answer)
room_schema lines text (Ok schema) room = omega arith
room_schema lines text (Err refusal) room = tt

room_part : (lines : ℕ) (part : Part) (line : List ℕ) (separates : Bool) → is_separator line ≡ separates → lines + 1 < 2 ^ 64 → HasRoom lines (after_end (Schema part) line)
room_part lines part line true is room = rw is (room_schema lines part.text (schema_answer part.text) room)
room_part lines part line false is room = rw is (omega arith)

-- a line counts once at most
room_end : (lines : ℕ) (s : Phase) (line : List ℕ) → HasRoom (lines + 1) s → HasRoom lines (after_end s line)
room_end lines (Schema part) line room = room_part lines part line (is_separator line) refl room
room_end lines (Lines s) line room = let most = most_line (verdict s.schema) s.standing line (is_skipped line) refl in omega (arith, most, room)
room_end lines Refused line room = tt

room_step : (old new : Phase) (line : List ℕ) → new ≡ after_end old line → (lines : ℕ) → HasRoom (lines + 1) old → HasRoom lines new
room_step old new line is lines room = subst (HasRoom lines) (sym is) (room_end lines old line room)

pub room_result : {T E : Type 0} (result : Result T E) (old new : Phase) (line : List ℕ) → new ≡ after_end old line → OnOk result ((lines : ℕ) → HasRoom (lines + 1) old → HasRoom lines new)
room_result (Ok done) old new line is = room_step old new line is
room_result (Err fault) old new line is = tt

-- so a session's number may rise by one
pub room_line : (s : SessionState) → HasRoomFor deciding 1 (Lines s) → s.standing.number < 2 ^ 64 - 1
room_line s room = let has = room.has in let enough = room.enough in omega (arith, has, enough)

-- ---- where the run goes on, and where it ends

pub goes_part : (old new : Phase) (line : List ℕ) (part : Part) → new ≡ after_end old line → new ≡ Schema part → next_of (after_end old line) ≡ Going new
goes_part old new line part is so = ap next_of (sym is ∙ so) ∙ ap (λ (phase : Phase). Going phase) (sym so)

pub goes_lines : (old new : Phase) (line : List ℕ) (s : SessionState) → new ≡ after_end old line → new ≡ Lines s → next_of (after_end old line) ≡ Going new
goes_lines old new line s is so = ap next_of (sym is ∙ so) ∙ ap (λ (phase : Phase). Going phase) (sym so)

pub ends_refused : (old new : Phase) (line : List ℕ) → new ≡ after_end old line → new ≡ Refused → next_of (after_end old line) ≡ Ended SchemaRefused
ends_refused old new line is so = ap next_of (sym is ∙ so)
