-- What a taker does with a line is explained by the causes that it told.
use Rattle.std.proofs.Common.{◌≡◌, inr, ℕ, ◌+◌, ◌<◌, ◌≤◌, Bool, true, false, List, [], ◌∷◌, ◌++◌, map, Result, Ok, Err, refl, sym, ap, subst, ◌∙◌, arith}
use Rattle.std.specs.Prelude.{MatchBool}
use Rattle.std.specs.Result.{IsErrAnd}
use Rattle.std.proofs.lemmas.Result.{err_from_is_err_and}
use Rattle.std.proofs.lemmas.List.{append-nil}
use Rattle.pgs_base.specs.Graph.{Graph}
use Rattle.pgs_run_lines.specs.declared.stop.Stop.{Stop}
use Rattle.pgs_run_lines.specs.declared.stop.Stop.TheVariants as stops
use Rattle.pgs_run_lines.specs.AreasKept.{KeepsAreas, keeps_none}
use Rattle.pgs_run_lines.specs.Ending.{Ends, Shows}
use Rattle.pgs_run_lines.specs.Machine.{Going, Whole, Inside, AtEnd, Told, extent_of, pieces_of_lines}
use Rattle.pgs_run_lines.specs.May.{MayPut}
use Rattle.pgs_run_lines.specs.Pieces.{Shown, ShowsAll, ShowsFirst, shown_of}
use Rattle.pgs_run_lines.proofs.Showing.{shows_none}
use Rattle.pgs_world.specs.Moment.{IsTimed}
use Rattle.pgs_world.specs.World.{View}
use Rattle.pgs_syntax.specs.declared.resolved.Resolved.{Resolved}
use Rattle.pgs_violation.specs.Violations.{verdict}
use Rattle.pgs_answer.specs.Lines.{refused_line, schema_refused_line}
use Rattle.pgs_command.specs.declared.status.Status.{Status}
use Rattle.pgs_run_input.specs.Answers.{schema_answer}
use Rattle.pgs_run_input.specs.Input.{is_separator, is_skipped}
use Rattle.pgs_run_input.specs.Judged.{pieces_behind}
use Rattle.pgs_run_input.specs.Session.{Standing, after_answer, after_line as standing_after, answer_to, pieces_of_line}
use Rattle.pgs_run_refusal.specs.Refused.{IsCause}
use Rattle.pgs_run_check_try.specs.declared.phase.Phase.{Phase}
use Rattle.pgs_run_check_try.specs.declared.phase.Phase.TheVariants.{Schema, Lines, Refused}
use Rattle.pgs_run_check_try.specs.Explaining.{after_end, after_part, after_schema, explaining, next_of, part_pieces, pieces_at_end, status_of}
use Rattle.pgs_run_check_try.specs.Lines.{because_line}
use Rattle.pgs_run_check_try.specs.Right.{AreOrLack, HasRight}
use Rattle.pgs_run_check_try.specs.Rule.{AgreesOn, Explains, IsFault, IsRightSchema, IsRightText, RightBehind, RightFrom, RightIn, RightPart, place_at, place_behind, place_line, place_next, place_of, weaker}
use Rattle.pgs_run_check_try.specs.Telling.{TellsEnd, TellsLast}
use Rattle.pgs_run_check_try.specs.Told.{Causes, with_causes}

-- ---- causes that agree where a line asks for some

number_after : (s : Standing) (answer : Result Graph (List ℕ)) → (after_answer s answer).number ≡ s.number + 1
number_after s (Ok g) = refl
number_after s (Err text) = refl

number_line : (schema : Resolved) (s : Standing) (line : List ℕ) → is_skipped line ≡ false → (standing_after (verdict schema) s line).number ≡ s.number + 1
unfolding standing_after
number_line schema s line kept = rw kept (number_after s (answer_to (verdict schema) s.graph line))

module _ (causes others : Causes) (n : ℕ) where
  abbrev Agrees : ℕ → Type 0
  Agrees from = (k : ℕ) → from ≤ k → k < n → others k ≡ causes k

  -- a schema text
  schema_agrees : (text : List ℕ) (answer : Result Resolved (List ℕ)) → place_of (after_schema text answer) ≤ n → Agrees 0 → pieces_behind (others 0) answer ≡ pieces_behind (causes 0) answer
  schema_agrees text (Ok schema) within agrees = refl
  schema_agrees text (Err refusal) within agrees = ap (λ further. schema_refused_line refusal ∷ further) (agrees 0 (omega arith) (omega (arith, within)))

  right_schema : (text : List ℕ) (answer : Result Resolved (List ℕ)) → place_of (after_schema text answer) ≤ n → Agrees 0 → IsRightSchema causes text answer → IsRightSchema others text answer
  right_schema text (Ok schema) within agrees right = tt
  right_schema text (Err refusal) within agrees right = subst (IsCause text) (sym (agrees 0 (omega arith) (omega (arith, within)))) right

  -- a line of a session
  answer_agrees : (s : Standing) (answer : Result Graph (List ℕ)) → others (s.number + 1) ≡ causes (s.number + 1) → with_causes others s answer ≡ with_causes causes s answer
  answer_agrees s (Ok g) same = refl
  answer_agrees s (Err text) same = ap (λ texts. refused_line (s.number + 1) text ∷ map (because_line (s.number + 1)) texts) same

  asked_line : (schema : Resolved) (s : Standing) (line : List ℕ) → is_skipped line ≡ false → (standing_after (verdict schema) s line).number + 1 ≤ n → Agrees (s.number + 1) → others (s.number + 1) ≡ causes (s.number + 1)
  asked_line schema s line kept within agrees = let e = number_line schema s line kept in agrees (s.number + 1) (omega arith) (omega (arith, e, within))

  line_agrees : (schema : Resolved) (s : Standing) (line : List ℕ) (blank : Bool) → is_skipped line ≡ blank → (standing_after (verdict schema) s line).number + 1 ≤ n → Agrees (s.number + 1)
      → pieces_of_line (with_causes others) (verdict schema) s line ≡ pieces_of_line (with_causes causes) (verdict schema) s line
  unfolding pieces_of_line
  line_agrees schema s line true e within agrees = rw e refl
  line_agrees schema s line false e within agrees = rw e (answer_agrees s (answer_to (verdict schema) s.graph line) (asked_line schema s line e within agrees))

  right_line : (Stopped : Type 0) (text : List ℕ) (schema : Resolved) (s : Standing) (line : List ℕ) → (standing_after (verdict schema) s line).number + 1 ≤ n → Agrees (s.number + 1)
      → HasRight Stopped causes text schema s line → HasRight Stopped others text schema s line
  right_line Stopped text schema s line within agrees right kept =
      subst (λ own. AreOrLack Stopped text schema s.graph line own) (sym (asked_line schema s line kept within agrees)) (right kept)

  -- in a phase
  pieces_agree : (s : Phase) (line : List ℕ) → place_of (after_end s line) ≤ n → Agrees (place_of s) → pieces_at_end others s line ≡ pieces_at_end causes s line
  pieces_agree (Schema part) line within agrees = by (is_separator line) refl
    where
      by : (separates : Bool) → is_separator line ≡ separates → pieces_at_end others (Schema part) line ≡ pieces_at_end causes (Schema part) line
      by true e = rw e (schema_agrees part.text (schema_answer part.text) (subst (λ (p : Phase). place_of p ≤ n) (rw e refl) within) agrees)
      by false e = rw e refl
  pieces_agree (Lines s) line within agrees = line_agrees s.schema s.standing line (is_skipped line) refl within agrees
  pieces_agree Refused line within agrees = refl

  right_agree : (Stopped : Type 0) (s : Phase) (line : List ℕ) → place_of (after_end s line) ≤ n → Agrees (place_of s) → RightIn Stopped causes s line → RightIn Stopped others s line
  right_agree Stopped (Schema part) line within agrees right = by (is_separator line) refl right
    where
      by : (separates : Bool) → is_separator line ≡ separates → MatchBool separates (IsRightText causes part.text) (Unit {0}) → MatchBool (is_separator line) (IsRightText others part.text) (Unit {0})
      by true e own = rw e (right_schema part.text (schema_answer part.text) (subst (λ (p : Phase). place_of p ≤ n) (rw e refl) within) agrees own)
      by false e own = rw e tt
  right_agree Stopped (Lines s) line within agrees right = right_line Stopped s.text s.schema s.standing line within agrees right
  right_agree Stopped Refused line within agrees right = tt

  part_agrees : (s : Phase) → place_of (after_part s) ≤ n → Agrees (place_of s) → part_pieces others s ≡ part_pieces causes s
  part_agrees (Schema part) within agrees = schema_agrees part.text (schema_answer part.text) within agrees
  part_agrees (Lines s) within agrees = refl
  part_agrees Refused within agrees = refl

  right_part : (s : Phase) → place_of (after_part s) ≤ n → Agrees (place_of s) → RightPart causes s → RightPart others s
  right_part (Schema part) within agrees right = right_schema part.text (schema_answer part.text) within agrees right
  right_part (Lines s) within agrees right = tt
  right_part Refused within agrees right = tt

-- ---- a line whose pieces were made

place_within : (phase : Phase) → place_of phase ≤ place_of (after_part phase)
place_within (Schema part) = omega arith
place_within (Lines s) = omega arith
place_within Refused = omega arith

place_grows : (s : Phase) (line : List ℕ) → place_of s ≤ place_of (after_end s line)
place_grows s line = place_line s line

behind_of : (others : Causes) (phase : Phase) → RightPart others phase → RightBehind others (next_of phase)
behind_of others (Schema part) right = right
behind_of others (Lines s) right = tt
behind_of others Refused right = tt

place_last : (phase : Phase) → place_behind (next_of phase) ≡ place_of (after_part phase)
place_last (Schema part) = refl
place_last (Lines s) = refl
place_last Refused = refl

module _ (s : Phase) (line : List ℕ) (old new : View) (areas : KeepsAreas old new) where
  abbrev next : ℕ
  next = place_of (after_end s line)

  module _ (pieces : List (List ℕ)) (tells : TellsEnd s line pieces) where
    -- with causes that agree the pieces are the same, and right
    module _ (others : Causes) (agrees : (k : ℕ) → place_of s ≤ k → k < next → others k ≡ tells.causes k) where
      pieces_are : pieces ≡ pieces_of_lines (explaining others) (Going s) (line ∷ [])
      pieces_are = tells.is ∙ sym (pieces_agree tells.causes others next s line (omega arith) agrees) ∙ sym (append-nil (pieces_at_end others s line))

      right_is : RightFrom ⊥ others (Going s) (line ∷ [])
      right_is = (right_agree tells.causes others next ⊥ s line (omega arith) agrees tells.right, tt)

    asked_on : (others : Causes) → place_at (next_of (after_end s line)) ≡ next → AgreesOn (λ k. (place_of s ≤ k) × (k < place_at (next_of (after_end s line)))) tells.causes others
        → (k : ℕ) → place_of s ≤ k → k < next → others k ≡ tells.causes k
    asked_on others same agrees k from below = agrees k (from, subst (λ n. k < n) (sym same) below)

    pub spoken : ShowsAll (shown_of old) pieces (shown_of new) → Explains s (line ∷ []) Whole old new
    spoken shows = record {
      areas = areas;
      causes = tells.causes;
      explained = λ others agrees.
          let so = asked_on others (place_next (after_end s line)) agrees in
          record { shows = subst (λ ps. ShowsAll (shown_of old) ps (shown_of new)) (pieces_are others so) shows; right = right_is others so };
    }

    -- or their putting stopped, or the line ended the run
    pub spoken_until : (stop : Stop Status) → MayPut stop → Shows (shown_of old) pieces stop (shown_of new) → Explains s (line ∷ []) (Inside stop) old new
    spoken_until stop may shows = record {
      areas = areas;
      causes = tells.causes;
      explained = λ others agrees.
          let so = asked_on others (place_next (after_end s line)) agrees in
          record {
            shows = (may, subst (λ ps. Shows (shown_of old) ps stop (shown_of new)) (pieces_are others so) shows);
            right = weaker (IsFault stop) others (Going s) (line ∷ []) (right_is others so);
          };
    }

    -- which is handed on
    pub spoken_exit : {T : Type 0} (result : Result T (Stop Status)) (stop : Stop Status) → IsErrAnd result (λ given. given ≡ stop) → MayPut stop → Shows (shown_of old) pieces stop (shown_of new) → Explains s (line ∷ []) (extent_of result) old new
    spoken_exit result stop handed may shows = let exit = err_from_is_err_and result handed in rw (exit.1, exit.2) (spoken_until stop may shows)

  -- ---- the end of the input

  abbrev last : ℕ
  last = place_of (after_part (after_end s line))

  module _ (pieces : List (List ℕ)) (tells : TellsLast s line pieces) where
    module _ (others : Causes) (agrees : (k : ℕ) → place_of s ≤ k → k < last → others k ≡ tells.causes k) where
      abbrev end : Told Status
      end = record { pieces = pieces_at_end others s line ++ part_pieces others (after_end s line); status = status_of (after_part (after_end s line)) }

      last_are : pieces ≡ end.pieces
      last_are =
          let within = place_within (after_end s line) in
          let from = place_grows s line in
          tells.is ∙ ap (λ ps. ps ++ part_pieces tells.causes (after_end s line)) (sym (pieces_agree tells.causes others last s line within agrees))
          ∙ ap (λ ps. pieces_at_end others s line ++ ps) (sym (part_agrees tells.causes others last (after_end s line) (omega arith) (λ k at below. agrees k (omega (arith, from, at)) below)))

      last_right : RightIn ⊥ others s line × RightPart others (after_end s line)
      last_right =
          let within = place_within (after_end s line) in
          let from = place_grows s line in (
            right_agree tells.causes others last ⊥ s line within agrees tells.right,
            right_part tells.causes others last (after_end s line) (omega arith) (λ k at below. agrees k (omega (arith, from, at)) below) tells.part,
          )

    pub spoken_last : (stop : Stop Status) → MayPut stop → ((told : Told Status) → told.pieces ≡ pieces → told.status ≡ status_of (after_part (after_end s line)) → Ends (shown_of old) told stop (shown_of new))
        → Explains s [] (AtEnd line stop) old new
    spoken_last stop may ends = record {
      areas = areas;
      causes = tells.causes;
      explained = λ others agrees.
          let so : (k : ℕ) → place_of s ≤ k → k < last → others k ≡ tells.causes k = λ k from below. agrees k (from, subst (λ n. k < n) (sym (place_last (after_end s line))) below) in
          let right = last_right others so in
          record {
            shows = (may, ends (end others so) (sym (last_are others so)) refl);
            right = (weaker (IsFault stop) others (Going s) (line ∷ []) (right.0, tt), behind_of others (after_end s line) right.1);
          };
    }

-- ---- how the putting at the end of the input ended

pub ends_done : (pieces : List (List ℕ)) (status is : Status) (start now : Shown) → ShowsAll start pieces now → status ≡ is
    → (told : Told Status) → told.pieces ≡ pieces → told.status ≡ is → Ends start told (stops.Ended status) now
ends_done pieces status is start now shows same told pieces_are status_is = (subst (λ ps. ShowsAll start ps now) (sym pieces_are) shows, status_is ∙ sym same)

pub ends_stopped : (pieces : List (List ℕ)) (stop : Stop Status) (is : Status) (start now : Shown) → stop ≡ stops.PutFault → Shows start pieces stop now
    → (told : Told Status) → told.pieces ≡ pieces → told.status ≡ is → Ends start told stop now
ends_stopped pieces stop is start now fault shows told pieces_are status_is =
    subst (λ (x : Stop Status). Ends start told x now) (sym fault)
    (subst (λ ps. Shows {E = Status} start ps stops.PutFault now) (sym pieces_are) (subst (λ (x : Stop Status). Shows start pieces x now) fault shows))

pub may_put : (stop : Stop Status) → stop ≡ stops.PutFault → MayPut stop
may_put stop fault = subst MayPut (sym fault) tt

-- ---- a line whose pieces couldn't be made

lacks_schema : (others : Causes) (text : List ℕ) (answer : Result Resolved (List ℕ)) (n : ℕ) → place_of (after_schema text answer) ≤ n → ((k : ℕ) → 0 ≤ k → k < n → others k ≡ []) → IsRightSchema others text answer
lacks_schema others text (Ok schema) n within none = tt
lacks_schema others text (Err refusal) n within none = subst (IsCause text) (sym (none 0 (omega arith) (omega (arith, within)))) tt

abbrev Lacks : Causes → Phase → ℕ → Type 0
Lacks others s n = (k : ℕ) → place_of s ≤ k → k < n → others k ≡ []

lacks_line : (others : Causes) (s : Phase) (line : List ℕ) (n : ℕ) → place_of (after_end s line) ≤ n → Lacks others s n → RightIn (Unit {0}) others s line
lacks_line others (Schema part) line n within none = by (is_separator line) refl
  where
    by : (separates : Bool) → is_separator line ≡ separates → MatchBool (is_separator line) (IsRightText others part.text) (Unit {0})
    by true e = rw e (lacks_schema others part.text (schema_answer part.text) n (subst (λ (p : Phase). place_of p ≤ n) (rw e refl) within) none)
    by false e = rw e tt
lacks_line others (Lines t) line n within none = λ kept. let e = number_line t.schema t.standing line kept in inr (tt, none (t.standing.number + 1) (omega arith) (omega (arith, e, within)))
lacks_line others Refused line n within none = tt

lacks_part : (others : Causes) (s : Phase) (n : ℕ) → place_of (after_part s) ≤ n → Lacks others s n → RightPart others s
lacks_part others (Schema part) n within none = lacks_schema others part.text (schema_answer part.text) n within none
lacks_part others (Lines t) n within none = tt
lacks_part others Refused n within none = tt

nothing_first : (start : Shown) (pieces : List (List ℕ)) → ShowsFirst start pieces start
nothing_first start pieces = record { first = []; later = pieces; parts = refl; shows = shows_none start }

module _ (s : Phase) (line : List ℕ) (view : View) (timed : IsTimed view) where
  pub unspoken : Explains s (line ∷ []) (Inside stops.Memory) view view
  unspoken = record {
    areas = keeps_none view timed;
    causes = λ number. [];
    explained = λ others agrees. record {
      shows = (tt, nothing_first (shown_of view) (pieces_of_lines (explaining others) (Going s) (line ∷ [])));
      right = (
        lacks_line others s line (place_of (after_end s line)) (omega arith) (λ k from below. agrees k (from, subst (λ n. k < n) (sym (place_next (after_end s line))) below)),
        tt,
      );
    };
  }

  -- which is handed on
  pub unspoken_exit : {T : Type 0} (result : Result T (Stop Status)) → IsErrAnd result (λ given. given ≡ stops.Memory) → Explains s (line ∷ []) (extent_of result) view view
  unspoken_exit result handed = let exit = err_from_is_err_and result handed in rw (exit.1, exit.2) unspoken

  pub unspoken_last : Explains s [] (AtEnd line stops.Memory) view view
  unspoken_last = record {
    areas = keeps_none view timed;
    causes = λ number. [];
    explained = λ others agrees.
        let within = place_within (after_end s line) in
        let from = place_grows s line in
        let none : Lacks others s (place_of (after_part (after_end s line))) = λ k at below. agrees k (at, subst (λ n. k < n) (sym (place_last (after_end s line))) below) in
        record {
          shows = (tt, nothing_first (shown_of view) _);
          right = (
            (lacks_line others s line (place_of (after_part (after_end s line))) within none, tt),
            behind_of others (after_end s line) (lacks_part others (after_end s line) (place_of (after_part (after_end s line))) (omega arith) (λ k at below. none k (omega (arith, from, at)) below)),
          );
        };
  }
