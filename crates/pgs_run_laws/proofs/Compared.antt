-- A run of `contain` that ended with 0 told no type that isn't contained.
use Rattle.std.proofs.Common.{◌≡◌, inr, ℕ, ◌<◌, ◌^◌, Bool, true, false, nat_le, List, ◌++◌, length, take, is_some, Result, Ok, Err, refl, ap, subst, ◌∙◌, arith}
use Rattle.std.specs.Prelude.{if◌then◌else◌}
use Rattle.std.specs.List.{list_any}
use Rattle.std.proofs.lemmas.Bool.Decides.{nat_tests}
use Rattle.pgs_base.specs.Graph.{Graph, is_graph}
use Rattle.pgs_run_lines.specs.Machine.{Told}
use Rattle.pgs_syntax.specs.declared.resolved.Resolved.{Resolved}
use Rattle.pgs_violation.specs.Violations.{conforms}
use Rattle.pgs_schema_changes.specs.AsksNoMore.{AsksNoMore}
use Rattle.pgs_run_words.specs.declared.command.Command.TheVariants.{Contain}
use Rattle.pgs_world.specs.World.{View}
use Rattle.pgs_command.specs.declared.status.Status.{Status}
use Rattle.pgs_command.specs.declared.status.Status.TheVariants.{Accepted, Refused, SchemaRefused}
use Rattle.pgs_run_input.specs.Answers.{schema_answer}
use Rattle.pgs_run_input.specs.Input.{schema_part, text_front}
use Rattle.pgs_run_contain.specs.declared.ending.Ending.{Ending}
use Rattle.pgs_run_contain.specs.Answers.{Answer}
use Rattle.pgs_run_contain.specs.Behind.{IsRightAt, told_with}
use Rattle.pgs_run_contain.specs.Names.{Names, names_in}
use Rattle.pgs_run_contain.specs.Spec.{contain_behind}
use Rattle.pgs_run_contain.specs.Told.{second_part, status_by, told_cut, told_first, told_second, told_texts, told_whole}
use Rattle.pgs_run_contain.proofs.Containing.{types_contained}
use Rattle.pgs_run_laws.specs.Compared.{IsCompared}
use Rattle.pgs_run_laws.specs.Lines.{all_lines}
use Rattle.pgs_run_laws.specs.Sequence.{Ran}
use Rattle.pgs_run_laws.proofs.AddUp.{promise, shows}

-- ---- the status by the answers

status_none : (some : Bool) → status_by some ≡ Accepted → some ≡ false
status_none true is = absurd (let no : Refused ≡ Accepted = is in cc)
status_none false is = refl

-- ---- what the texts tell

-- by these answers a run that tells so of its texts ended with 0, and they are right
abbrev IsAccepted : List Answer → Told Ending → Type 0
IsAccepted answers texts =
    ((told_with contain_behind answers texts.pieces texts.status).status ≡ Accepted) × IsRightAt contain_behind answers texts.status Accepted

refused_never : {A : Type 0} → SchemaRefused ≡ Accepted → A
refused_never {A} is = absurd (let no : SchemaRefused ≡ Accepted = is in cc)

module _ (law : (old new : Resolved) (g : Graph) → is_graph g ≡ true → AsksNoMore old new → conforms old g ≡ true → conforms new g ≡ true) (input : List ℕ) (answers : List Answer) where
  by_second : (first : Resolved) (names : Names) → schema_answer (schema_part (all_lines input)) ≡ Ok first → (kept : List ℕ) (answer : Result Resolved (List ℕ)) → schema_answer (second_part (all_lines input)) ≡ answer
      → IsAccepted answers (told_second first names kept answer) → IsCompared input
  by_second first names of_first kept (Ok second) of_second accepted =
      let contained = types_contained first second (names ++ names_in kept) answers Accepted tt (status_none (list_any is_some answers) accepted.0) accepted.1 in
      record {
        first = first;
        second = second;
        first_is = of_first;
        second_is = of_second;
        contained = contained;
        kept = λ strict keys g graph fits. law first second g graph (record { types = inr (strict, contained); keys = keys }) fits;
      }
  by_second first names of_first kept (Err refusal) of_second accepted = refused_never accepted.0

  by_first : (kept : List ℕ) (answer : Result Resolved (List ℕ)) → schema_answer (schema_part (all_lines input)) ≡ answer → IsAccepted answers (told_first true kept answer (second_part (all_lines input))) → IsCompared input
  by_first kept (Ok first) of_first accepted =
      by_second first (names_in kept) of_first (text_front (second_part (all_lines input))) (schema_answer (second_part (all_lines input))) refl accepted
  by_first kept (Err refusal) of_first accepted = refused_never accepted.0

-- ---- the run

within : (length_of limit : ℕ) → length_of < limit → nat_le limit length_of ≡ false
within length_of limit below = grind (arith, nat_tests)

told_below : (input : List ℕ) (limit : ℕ) → length input < limit → told_texts input limit ≡ told_first true (text_front (schema_part (all_lines input))) (schema_answer (schema_part (all_lines input))) (second_part (all_lines input))
unfolding told_texts
told_below input limit below = ap (λ (b : Bool). if b then told_cut (take limit input) else told_whole input) (within (length input) limit below)

pub compared : ((old new : Resolved) (g : Graph) → is_graph g ≡ true → AsksNoMore old new → conforms old g ≡ true → conforms new g ≡ true)
    → (input : List ℕ) (lost : ℕ) (old new : View) → length input < 2 ^ 40 → (ran : Ran Contain input lost old new) → ran.status ≡ Accepted → IsCompared input
compared law input lost old new below ran accepted =
    let run = promise Contain input lost old new ran in
    let answers : List Answer = run.choice in
    let texts = told_texts input (2 ^ 40) in
    let status : (told_with contain_behind answers texts.pieces texts.status).status ≡ Accepted = (shows Contain input lost old new ran (λ asks. absurd asks)).1 ∙ accepted in
    let right = subst (λ (s : Status). IsRightAt contain_behind answers texts.status s) accepted (run.right input (ran.source refl)) in
    by_first law input answers (text_front (schema_part (all_lines input))) (schema_answer (schema_part (all_lines input))) refl
    (subst (IsAccepted answers) (told_below input (2 ^ 40) below) (status, right))
