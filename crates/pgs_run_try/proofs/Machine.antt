-- The machine of the commands `try` and `validate` tells what `told_judging` says.
use Rattle.std.proofs.Common.{◌≡◌, ℕ, false, cond, List, [], ◌∷◌, ◌++◌, Result, Ok, Err, refl, sym, ap, subst, ◌∙◌}
use Rattle.pgs_run_lines.specs.Machine.{Told, Going, told_by}
use Rattle.pgs_syntax.specs.declared.resolved.Resolved.{Resolved}
use Rattle.pgs_command.specs.declared.status.Status.{Status}
use Rattle.pgs_command.specs.declared.status.Status.TheVariants.{SchemaRefused}
use Rattle.pgs_run_input.specs.Answers.{schema_answer}
use Rattle.pgs_run_input.specs.Input.{text_limit, text_front, is_separator}
use Rattle.pgs_run_input.specs.Part.{with_line}
use Rattle.pgs_run_input.specs.Session.{Standing, after_lines, pieces_of_lines}
use Rattle.pgs_run_input.proofs.Following.{after_lines-append, pieces_of_lines-append, pieces_of_one}
use Rattle.pgs_run_input.proofs.SameFronts.{separator_of_front, after_front, pieces_of_front}
use Rattle.pgs_run_input.proofs.SchemaFirst as behind
use Rattle.pgs_run_input.proofs.SchemaFirst.{Places, SchemaFirst, told_schema_first}
use Rattle.pgs_run_try.specs.declared.judging.Judging.{Judging}
use Rattle.pgs_run_try.specs.declared.phase.Phase.{Phase}
use Rattle.pgs_run_try.specs.declared.phase.Phase.TheVariants.{Schema, Lines, Refused}
use Rattle.pgs_run_try.specs.Judging.{verdict_by, telling_by}
use Rattle.pgs_run_try.specs.Told.{start, told_schema, told_judging}
use Rattle.pgs_run_try.specs.Trying.{trying, try_teller, first_phase, after_schema, after_end, pieces_at_end, next_of, told_after}

module _ (judging : Judging) where
  abbrev lines_at : Resolved → Standing → Phase
  lines_at schema standing = Lines (record { judging = judging; schema = schema; standing = standing })

  abbrev places : Places Phase
  places = record { part = Schema judging; begin = λ text schema. lines_at schema start; refused = Refused }

  after_judged : (text : List ℕ) (answer : Result Resolved (List ℕ)) → after_schema judging answer ≡ behind.after_schema places text answer
  after_judged text (Ok schema) = refl
  after_judged text (Err refusal) = refl

  -- these lines behind a schema lead there
  abbrev Behind : Resolved → List (List ℕ) → Phase → Type 0
  Behind schema lines phase = phase ≡ lines_at schema (after_lines (verdict_by judging schema) start lines)

  module _ (schema : Resolved) (lines : List (List ℕ)) (line : List ℕ) (phase : Phase) (is : Behind schema lines phase) where
    leads : Behind schema (lines ++ line ∷ []) (after_end phase (text_front line))
    leads =
        let verdict = verdict_by judging schema in
        ap (λ p. after_end p (text_front line)) is
        ∙ ap (lines_at schema) (after_front verdict (after_lines verdict start lines) line ∙ sym (after_lines-append verdict start lines (line ∷ [])))

    tells : (told_schema judging false (Ok schema) (lines ++ line ∷ [])).pieces ≡ (told_schema judging false (Ok schema) lines).pieces ++ pieces_at_end phase (text_front line)
    tells =
        let telling = telling_by judging in
        let verdict = verdict_by judging schema in
        let standing = after_lines verdict start lines in
        pieces_of_lines-append telling verdict start lines (line ∷ [])
        ∙ ap (λ pieces. pieces_of_lines telling verdict start lines ++ pieces)
        (pieces_of_one telling verdict standing line ∙ sym (pieces_of_front telling verdict standing line) ∙ sym (ap (λ p. pieces_at_end p (text_front line)) is))

  laws : SchemaFirst try_teller text_limit [] (told_schema judging) places Behind
  laws = record {
    separator = separator_of_front;
    part_line = λ part line. refl;
    part_next = λ part. refl;
    part_after = λ part line. ap (λ phase. cond (is_separator line) phase (Schema judging (with_line part line))) (after_judged part.text (schema_answer part.text));
    part_pieces = λ part line. refl;
    part_told = λ part. refl;
    refused_ends = record { status = SchemaRefused; is = refl; after = λ line. refl; pieces = λ line. refl; told = refl };
    refused_told = λ whole text lines. refl;
    begins = λ text schema. refl;
    none = λ schema. refl;
    cut = λ schema lines. refl;
    next = λ schema lines phase is. subst (λ p. next_of p ≡ Going p) (sym is) refl;
    line = leads;
    pieces = tells;
    end = λ schema lines phase is.
        ap (λ (end : Told Status). record { pieces = pieces_of_lines (telling_by judging) (verdict_by judging schema) start lines ++ end.pieces; status = end.status }) (sym (ap told_after is));
  }

  -- the machine tells what the command does
  pub told_by_judging : (input : List ℕ) (budget : ℕ) → told_by trying text_limit (first_phase judging) input budget ≡ told_judging judging input budget
  unfolding told_judging
  told_by_judging input budget = told_schema_first try_teller text_limit [] (told_schema judging) places Behind laws input budget
