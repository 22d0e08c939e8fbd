-- The machine that tells with causes tells what the definitions on whole lines say.
use Rattle.std.proofs.Common.{◌≡◌, inl, ℕ, Bool, true, false, nat_le, cond, List, [], ◌∷◌, ◌++◌, length, Result, Ok, Err, refl, sym, ap, subst, ◌∙◌}
use Rattle.std.proofs.lemmas.List.{append-nil}
use Rattle.pgs_run_lines.specs.Machine.{Told, Going, told_by, status_at_cut}
use Rattle.pgs_syntax.specs.declared.resolved.Resolved.{Resolved}
use Rattle.pgs_violation.specs.Violations.{verdict}
use Rattle.pgs_command.specs.declared.status.Status.{Status}
use Rattle.pgs_command.specs.declared.status.Status.TheVariants.{SchemaRefused}
use Rattle.pgs_run_input.specs.Answers.{schema_answer}
use Rattle.pgs_run_input.specs.Input.{text_limit, text_front, is_separator}
use Rattle.pgs_run_input.specs.Judged.{pieces_behind}
use Rattle.pgs_run_input.specs.Part.{with_line}
use Rattle.pgs_run_input.specs.Session.{Standing, after_lines, pieces_of_lines}
use Rattle.pgs_run_input.proofs.ByLines as lines
use Rattle.pgs_run_input.proofs.ByLines.{TellsLines}
use Rattle.pgs_run_input.proofs.Following.{after_lines-append, pieces_of_lines-append, pieces_of_one}
use Rattle.pgs_run_input.proofs.SameFronts.{after_front, pieces_of_front, separator_of_front}
use Rattle.pgs_run_input.proofs.SchemaFirst as behind
use Rattle.pgs_run_input.proofs.SchemaFirst.{Places, SchemaFirst, told_schema_first}
use Rattle.pgs_run_check_try.specs.declared.phase.Phase.{Phase}
use Rattle.pgs_run_check_try.specs.declared.phase.Phase.TheVariants.{Schema, Lines, Refused}
use Rattle.pgs_run_check_try.specs.Explaining.{after_end, after_part, after_schema, explainer, explaining, first_phase, next_of, part_pieces, pieces_at_end, status_of}
use Rattle.pgs_run_check_try.specs.Told.{Causes, by_lines, start, status_after, told_check_try, told_from, told_schema, with_causes}

module _ (causes : Causes) where
  abbrev lines_at : (text : List ℕ) → Resolved → Standing → Phase
  lines_at text schema standing = Lines (record { text = text; schema = schema; standing = standing })

  -- ---- lines behind a schema

  module _ (first : Standing) where
    -- these lines lead there
    abbrev Behind : Resolved → List (List ℕ) → Phase → Type 0
    Behind schema lines phase = (text : List ℕ) × (phase ≡ lines_at text schema (after_lines (verdict schema) first lines))

    abbrev told : Resolved → Bool → List (List ℕ) → Told Status
    told schema = told_from causes schema first

    goes : (schema : Resolved) (lines : List (List ℕ)) (phase : Phase) → Behind schema lines phase → next_of phase ≡ Going phase
    goes schema lines phase is = subst (λ p. next_of p ≡ Going p) (sym is.1) refl

    leads : (schema : Resolved) (lines : List (List ℕ)) (line : List ℕ) (phase : Phase) → Behind schema lines phase → Behind schema (lines ++ line ∷ []) (after_end phase (text_front line))
    leads schema lines line phase is = (
      is.0,
      ap (λ p. after_end p (text_front line)) is.1
          ∙ ap (lines_at is.0 schema) (after_front (verdict schema) (after_lines (verdict schema) first lines) line ∙ sym (after_lines-append (verdict schema) first lines (line ∷ []))),
    )

    tells : (schema : Resolved) (lines : List (List ℕ)) (line : List ℕ) (phase : Phase) → Behind schema lines phase
        → (told schema false (lines ++ line ∷ [])).pieces ≡ (told schema false lines).pieces ++ pieces_at_end causes phase (text_front line)
    tells schema lines line phase is =
        let telling = with_causes causes in
        let standing = after_lines (verdict schema) first lines in
        pieces_of_lines-append telling (verdict schema) first lines (line ∷ [])
        ∙ ap (λ pieces. pieces_of_lines telling (verdict schema) first lines ++ pieces)
        (pieces_of_one telling (verdict schema) standing line ∙ sym (pieces_of_front telling (verdict schema) standing line) ∙ sym (ap (λ p. pieces_at_end causes p (text_front line)) is.1))

    ends : (schema : Resolved) (lines : List (List ℕ)) (phase : Phase) → Behind schema lines phase
        → told schema true lines ≡ record { pieces = (told schema false lines).pieces ++ part_pieces causes phase; status = status_of (after_part phase) }
    ends schema lines phase is =
        let pieces = pieces_of_lines (with_causes causes) (verdict schema) first lines in
        ap (λ ps. let t : Told Status = record { pieces = ps; status = status_after (after_lines (verdict schema) first lines).refused } in t) (sym (append-nil pieces))
        ∙ ap (λ (p : Phase). let t : Told Status = record { pieces = pieces ++ part_pieces causes p; status = status_of (after_part p) } in t) (sym is.1)

  -- ---- from a standing on

  abbrev Tells : (text : List ℕ) → Resolved → Standing → Type 0
  Tells text schema first = TellsLines (explainer causes) text_limit (told_from causes schema first) (Behind first schema) (lines_at text schema first)

  tells_from : (text : List ℕ) (schema : Resolved) (first : Standing) → Tells text schema first
  tells_from text schema first = record {
    goes = refl;
    begins = (text, refl);
    none = refl;
    next = λ lines phase is. inl (goes first schema lines phase is);
    line = leads first schema;
    pieces = tells first schema;
    cut = λ lines phase is. sym (ap (status_at_cut (explaining causes)) (goes first schema lines phase is));
    end = ends first schema;
  }

  pub told_by_lines : (text : List ℕ) (schema : Resolved) (first : Standing) (input : List ℕ) (budget : ℕ) → told_by (explaining causes) text_limit (lines_at text schema first) input budget ≡ by_lines (told_from causes schema first) input budget
  told_by_lines text schema first input budget =
      lines.by_lines (explainer causes) text_limit (told_from causes schema first) (Behind first schema) (lines_at text schema first) (tells_from text schema first) input budget (nat_le budget (length input)) refl

  -- ---- behind a schema text

  abbrev places : Places Phase
  places = record { part = Schema; begin = λ text schema. lines_at text schema start; refused = Refused }

  after_judged : (text : List ℕ) (answer : Result Resolved (List ℕ)) → after_schema text answer ≡ behind.after_schema places text answer
  after_judged text (Ok schema) = refl
  after_judged text (Err refusal) = refl

  abbrev told_of : List (List ℕ) → Status → Told Status
  told_of pieces status = record { pieces = pieces; status = status }

  part_told : (text : List ℕ) (answer : Result Resolved (List ℕ)) → told_of (pieces_behind (causes 0) answer) (status_of (after_schema text answer)) ≡ told_schema causes true answer []
  part_told text (Ok schema) = refl
  part_told text (Err refusal) = refl

  laws : SchemaFirst (explainer causes) text_limit (causes 0) (told_schema causes) places (Behind start)
  laws = record {
    separator = separator_of_front;
    part_line = λ part line. refl;
    part_next = λ part. refl;
    part_after = λ part line. ap (λ phase. cond (is_separator line) phase (Schema (with_line part line))) (after_judged part.text (schema_answer part.text));
    part_pieces = λ part line. refl;
    part_told = λ part. part_told part.text (schema_answer part.text);
    refused_ends = record { status = SchemaRefused; is = refl; after = λ line. refl; pieces = λ line. refl; told = refl };
    refused_told = λ whole text lines. refl;
    begins = λ text schema. (text, refl);
    none = λ schema. refl;
    cut = λ schema lines. refl;
    next = goes start;
    line = leads start;
    pieces = tells start;
    end = ends start;
  }

  pub told_by_try : (input : List ℕ) (budget : ℕ) → told_by (explaining causes) text_limit first_phase input budget ≡ told_check_try causes input budget
  unfolding told_check_try
  told_by_try input budget = told_schema_first (explainer causes) text_limit (causes 0) (told_schema causes) places (Behind start) laws input budget
