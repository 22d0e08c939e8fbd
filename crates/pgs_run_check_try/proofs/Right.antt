-- The causes of the lines of an input are right, by what is known of those that were taken.
use Rattle.std.proofs.Common.{◌≡◌, inl, inr, ⊎_elim, ℕ, ◌+◌, ◌<◌, ◌≤◌, Bool, true, false, not, nat_le, nat_lt, List, [], ◌∷◌, ◌++◌, length, map, Result, Ok, Err, refl, sym, ap, subst, ◌∙◌, append_assoc, arith}
use Rattle.std.specs.Prelude.{MatchBool}
use Rattle.std.specs.List.{join_with_byte}
use Rattle.std.proofs.lemmas.Bool.Decides.{nat_tests}
use Rattle.std.proofs.lemmas.List.{append-nil}
use Rattle.pgs_graph.specs.declared.operation.Txn.{Txn}
use Rattle.pgs_base.specs.Graph.{Graph}
use Rattle.pgs_run_lines.specs.Input.{is_blank}
use Rattle.pgs_run_lines.specs.Machine.{RunState, Going, Ended, after_line, after_lines}
use Rattle.pgs_run_lines.proofs.Fronts.{front_whole, same_of_front}
use Rattle.pgs_syntax.specs.declared.resolved.Resolved.{Resolved}
use Rattle.pgs_violation.specs.Violations.{verdict}
use Rattle.pgs_answer.specs.Refusals.{line_too_long_text}
use Rattle.pgs_command.specs.declared.status.Status.{Status}
use Rattle.pgs_run_input.specs.Answers.{schema_answer, txn_answer}
use Rattle.pgs_run_input.specs.Input.{after_separator, is_separator, is_skipped, schema_part, text_front, text_limit}
use Rattle.pgs_run_input.specs.Part.{Part, has_none, no_part, with_line}
use Rattle.pgs_run_input.specs.Session.{Standing, after_line as standing_after}
use Rattle.pgs_run_input.proofs.Joining.{begun_more, has_some, text_of_more}
use Rattle.pgs_run_input.proofs.SameFronts.{after_front, schema_of_front, separator_of_front, whole_text}
use Rattle.pgs_run_input.proofs.Separating.{HasNo, after-append, after-first, after-none, before-append, before-first, before-none, none_more, one_first}
use Rattle.pgs_run_lines.proofs.Fronts.{front_none}
use Rattle.pgs_run_check_try.specs.declared.phase.Phase.{Phase}
use Rattle.pgs_run_check_try.specs.declared.phase.Phase.TheVariants.{Schema, Lines, Refused}
use Rattle.pgs_run_refusal.specs.Refused.{IsCause}
use Rattle.pgs_run_refusal.proofs.Fronts.{cause_of_front}
use Rattle.pgs_run_check_try.specs.Causes.{AreLineCauses, AreReadCauses, AreTxnCauses, HasReadCause}
use Rattle.pgs_run_check_try.specs.Explaining.{after_end, after_schema, after_text, deciding, first_phase, next_of}
use Rattle.pgs_run_check_try.specs.Right.{AreRight, AreRightBehind, AreRightOf, HasRight}
use Rattle.pgs_run_check_try.specs.Rule.{IsRightSchema, IsRightText, RightAt, RightBehind, RightFrom, place_at, place_on}
use Rattle.pgs_run_check_try.specs.Told.{Causes, start}

-- ---- a line and its front have the same causes

is_long : (n : ℕ) → text_limit < n → (nat_lt text_limit n ≡ true) × (nat_le n text_limit ≡ false)
is_long n long = (grind (arith, nat_tests), grind (arith, nat_tests))

long_blank : (line : List ℕ) → text_limit < length line → is_skipped line ≡ false
unfolding is_blank
long_blank line long = rw (is_long (length line) long).1 refl

skipped_front : (line : List ℕ) → is_skipped (text_front line) ≡ is_skipped line
skipped_front line = same_of_front text_limit is_skipped false line long_blank

long_txn : (line : List ℕ) → text_limit < length line → txn_answer line ≡ Err line_too_long_text
unfolding txn_answer
long_txn line long = rw (is_long (length line) long).0 refl

answer_front : (line : List ℕ) → txn_answer (text_front line) ≡ txn_answer line
answer_front line = same_of_front text_limit txn_answer (Err line_too_long_text) line long_txn

-- whether they are too long
long_front : (line : List ℕ) → nat_lt text_limit (length (text_front line)) ≡ nat_lt text_limit (length line)
long_front line = same_of_front text_limit (λ (l : List ℕ). nat_lt text_limit (length l)) true line (λ l long. (is_long (length l) long).0)

read_by : (line : List ℕ) (causes : List (List ℕ)) (long : Bool) → nat_lt text_limit (length line) ≡ long → AreReadCauses (text_front line) causes → AreReadCauses line causes
read_by line causes true e are =
    let f : nat_lt text_limit (length (text_front line)) ≡ true = long_front line ∙ e in
    let none : causes ≡ [] = subst (λ long. MatchBool long (causes ≡ []) (HasReadCause (text_front line) causes)) f are in
    subst (λ long. MatchBool long (causes ≡ []) (HasReadCause line causes)) (sym e) none
read_by line causes false e are =
    subst (λ l. AreReadCauses l causes) (front_whole text_limit line (grind (arith, nat_tests))) are

txn_front : (text : List ℕ) (schema : Resolved) (g : Graph) (line : List ℕ) (answer : Result Txn (List ℕ)) (causes : List (List ℕ)) → AreTxnCauses text schema g (text_front line) answer causes → AreTxnCauses text schema g line answer causes
txn_front text schema g line (Ok txn) causes are = are
txn_front text schema g line (Err refusal) causes are = read_by line causes (nat_lt text_limit (length line)) refl are

module _ (Stopped : Type 0) (causes : Causes) where
  causes_front : (text : List ℕ) (schema : Resolved) (g : Graph) (line : List ℕ) (own : List (List ℕ)) → AreLineCauses text schema g (text_front line) own → AreLineCauses text schema g line own
  unfolding AreLineCauses
  causes_front text schema g line own are =
      txn_front text schema g line (txn_answer line) own (subst (λ (answer : Result Txn (List ℕ)). AreTxnCauses text schema g (text_front line) answer own) (answer_front line) are)

  right_front : (text : List ℕ) (schema : Resolved) (s : Standing) (line : List ℕ) → HasRight Stopped causes text schema s (text_front line) → HasRight Stopped causes text schema s line
  right_front text schema s line right kept =
      ⊎_elim (λ are. inl (causes_front text schema s.graph line (causes (s.number + 1)) are)) (λ none. inr none) (right (skipped_front line ∙ kept))

  -- ---- lines behind a schema

  abbrev lines_at : (text : List ℕ) → Resolved → Standing → RunState Phase Status
  lines_at text schema s = Going (Lines (record { text = text; schema = schema; standing = s }))

  pub lines_right : (text : List ℕ) (schema : Resolved) (s : Standing) (lines : List (List ℕ)) → RightFrom Stopped causes (lines_at text schema s) (map text_front lines) → AreRight Stopped causes text schema s lines
  lines_right text schema s [] right = tt
  lines_right text schema s (line ∷ lines) right =
      let same : standing_after (verdict schema) s (text_front line) ≡ standing_after (verdict schema) s line = after_front (verdict schema) s line in (
        right_front text schema s line right.0,
        lines_right text schema (standing_after (verdict schema) s line) lines
            (subst (λ (next : Standing). RightFrom Stopped causes (lines_at text schema next) (map text_front lines)) same right.1),
      )

  -- ---- lines of a schema text, of which the machine has the front, and behind it

  judged_right : (text : List ℕ) (answer : Result Resolved (List ℕ)) (lines : List (List ℕ)) → schema_answer text ≡ answer → IsRightSchema causes (text_front text) answer
      → RightFrom Stopped causes (next_of (after_schema (text_front text) answer)) (map text_front lines) → AreRightBehind Stopped causes text answer lines
  judged_right text (Ok schema) lines is own right =
      lines_right text schema start lines (subst (λ t. RightFrom Stopped causes (lines_at t schema start) (map text_front lines)) (whole_text text schema is) right)
  judged_right text (Err refusal) lines is own right = cause_of_front text (causes 0) own

  behind_right : (text : List ℕ) (part : Part) (lines : List (List ℕ)) → part.text ≡ text_front text → IsRightText causes part.text
      → RightFrom Stopped causes (next_of (after_text part.text)) (map text_front lines) → AreRightBehind Stopped causes text (schema_answer text) lines
  behind_right text part lines front own right =
      let answer : schema_answer part.text ≡ schema_answer text = ap schema_answer front ∙ schema_of_front text in
      let own_text : IsRightSchema causes (text_front text) (schema_answer text) =
      subst (λ (found : Result Resolved (List ℕ)). IsRightSchema causes (text_front text) found) answer (subst (λ t. IsRightSchema causes t (schema_answer part.text)) front own) in
      let behind : RightFrom Stopped causes (next_of (after_schema (text_front text) (schema_answer text))) (map text_front lines) =
      subst (λ (found : Result Resolved (List ℕ)). RightFrom Stopped causes (next_of (after_schema (text_front text) found)) (map text_front lines)) answer
      (subst (λ t. RightFrom Stopped causes (next_of (after_schema t (schema_answer part.text))) (map text_front lines)) front right) in
      judged_right text (schema_answer text) lines refl own_text behind

  -- the whole text came
  text_right : (seen : List (List ℕ)) (part : Part) → HasNo seen → part.text ≡ text_front (join_with_byte 10 seen) → IsRightText causes part.text → AreRightOf Stopped causes seen
  text_right seen part none text own =
      let same : schema_part seen ≡ join_with_byte 10 seen = ap (join_with_byte 10) (before-none seen none) in
      subst (λ lines. AreRightBehind Stopped causes (schema_part seen) (schema_answer (schema_part seen)) lines) (sym (after-none seen none))
      (behind_right (schema_part seen) part [] (text ∙ ap text_front (sym same)) own tt)

  -- a separator came
  separated_right : (seen more : List (List ℕ)) (line : List ℕ) (part : Part) → HasNo seen → part.text ≡ text_front (join_with_byte 10 seen) → is_separator line ≡ true
      → IsRightText causes part.text → RightFrom Stopped causes (next_of (after_text part.text)) (map text_front more) → AreRightOf Stopped causes (seen ++ line ∷ more)
  separated_right seen more line part none text is own right =
      let one = one_first seen line none is in
      let all : seen ++ line ∷ more ≡ (seen ++ line ∷ []) ++ more = sym (append_assoc seen (line ∷ []) more) in
      let same : schema_part ((seen ++ line ∷ []) ++ more) ≡ join_with_byte 10 seen =
      ap (join_with_byte 10) (before-append (seen ++ line ∷ []) more one ∙ before-first seen line is none) in
      let after : after_separator ((seen ++ line ∷ []) ++ more) ≡ more = after-append (seen ++ line ∷ []) more one ∙ ap (λ ls. ls ++ more) (after-first seen line is none) in
      let whole = schema_part ((seen ++ line ∷ []) ++ more) in
      subst (AreRightOf Stopped causes) (sym all)
      (subst (λ lines. AreRightBehind Stopped causes whole (schema_answer whole) lines) (sym after)
      (behind_right whole part more (text ∙ ap text_front (sym same)) own right))

  abbrev pub Rightly : RunState Phase Status → List (List ℕ) → Type 0
  Rightly at lines = RightFrom Stopped causes at lines × RightBehind causes (after_lines deciding at lines)

  pub part_right : (more seen : List (List ℕ)) (part : Part) → HasNo seen → part.text ≡ text_front (join_with_byte 10 seen) → part.begun ≡ not (has_none seen)
      → Rightly (Going (Schema part)) (map text_front more) → AreRightOf Stopped causes (seen ++ more)
  part_right [] seen part none text begun right = subst (AreRightOf Stopped causes) (sym (append-nil seen)) (text_right seen part none text right.1)
  part_right (line ∷ more) seen part none text begun right =
      by_line (is_separator line) refl
      (λ next_none next_text next_begun next_right. part_right more (seen ++ line ∷ []) (with_line part (text_front line)) next_none next_text next_begun next_right)
    where
      front_is : is_separator (text_front line) ≡ is_separator line
      front_is = separator_of_front line

      by_line : (separates : Bool) → is_separator line ≡ separates
          → (HasNo (seen ++ line ∷ []) → (with_line part (text_front line)).text ≡ text_front (join_with_byte 10 (seen ++ line ∷ [])) → (with_line part (text_front line)).begun ≡ not (has_none (seen ++ line ∷ []))
          → Rightly (Going (Schema (with_line part (text_front line)))) (map text_front more) → AreRightOf Stopped causes ((seen ++ line ∷ []) ++ more))
          → AreRightOf Stopped causes (seen ++ line ∷ more)
      by_line true is on =
          let e : is_separator (text_front line) ≡ true = front_is ∙ is in
          let own : IsRightText causes part.text = subst (λ separates. MatchBool separates (IsRightText causes part.text) (Unit {0})) e right.0.0 in
          let leads : after_end (Schema part) (text_front line) ≡ after_text part.text = rw e refl in
          separated_right seen more line part none text is own (subst (λ (p : Phase). RightFrom Stopped causes (next_of p) (map text_front more)) leads right.0.1)
      by_line false is on =
          let e : is_separator (text_front line) ≡ false = front_is ∙ is in
          let leads : after_end (Schema part) (text_front line) ≡ Schema (with_line part (text_front line)) = rw e refl in
          subst (AreRightOf Stopped causes) (append_assoc seen (line ∷ []) more)
          (on (none_more seen line none is) (text_of_more part seen line text begun) (begun_more part (text_front line) part.begun refl ∙ ap not (sym (has_some seen line)))
          (subst (λ (p : Phase). Rightly (next_of p) (map text_front more)) leads (right.0.1, right.1)))

  pub text_lines_right : (lines : List (List ℕ)) → Rightly (Going first_phase) (map text_front lines) → AreRightOf Stopped causes lines
  text_lines_right lines right = part_right lines [] no_part refl (sym (front_none text_limit)) refl right

  -- ---- lines that weren't taken

  abbrev pub LacksFrom : ℕ → Type 0
  LacksFrom place = (k : ℕ) → place ≤ k → causes k ≡ []

  schema_lacks : (text : List ℕ) (answer : Result Resolved (List ℕ)) → causes 0 ≡ [] → IsRightSchema causes text answer
  schema_lacks text (Ok schema) none = tt
  schema_lacks text (Err refusal) none = subst (IsCause text) (sym none) tt

  at_lacks : (at : RunState Phase Status) (line : List ℕ) → Stopped → LacksFrom (place_at at) → RightAt Stopped causes at line
  at_lacks (Going (Schema part)) line stopped none = by (is_separator line)
    where
      by : (separates : Bool) → MatchBool separates (IsRightText causes part.text) (Unit {0})
      by true = schema_lacks part.text (schema_answer part.text) (none 0 (omega arith))
      by false = tt
  at_lacks (Going (Lines s)) line stopped none = λ kept. inr (stopped, none (s.standing.number + 1) (omega arith))
  at_lacks (Going Refused) line stopped none = tt
  at_lacks (Ended status) line stopped none = tt

  lacks_on : (at : RunState Phase Status) (line : List ℕ) → LacksFrom (place_at at) → LacksFrom (place_at (after_line deciding at line))
  lacks_on at line none k from = none k (let on = place_on at (line ∷ []) in omega (arith, on, from))

  -- where the run was stopped none of them has causes
  pub lines_lack : (at : RunState Phase Status) (more : List (List ℕ)) → Stopped → LacksFrom (place_at at) → RightFrom Stopped causes at more
  lines_lack at [] stopped none = tt
  lines_lack at (line ∷ more) stopped none = (at_lacks at line stopped none, lines_lack (after_line deciding at line) more stopped (lacks_on at line none))

  -- and nothing is asked where it ended
  pub lines_ended : (status : Status) (more : List (List ℕ)) → RightFrom Stopped causes (Ended status) more
  lines_ended status [] = tt
  lines_ended status (line ∷ more) = (tt, lines_ended status more)

  behind_lacks : (at : RunState Phase Status) → LacksFrom (place_at at) → RightBehind causes at
  behind_lacks (Going (Schema part)) none = schema_lacks part.text (schema_answer part.text) (none 0 (omega arith))
  behind_lacks (Going (Lines s)) none = tt
  behind_lacks (Going Refused) none = tt
  behind_lacks (Ended status) none = tt

  -- a schema part that wasn't ended
  pub part_lacks : (at : RunState Phase Status) (more : List (List ℕ)) → LacksFrom (place_at at) → RightBehind causes (after_lines deciding at more)
  part_lacks at [] none = behind_lacks at none
  part_lacks at (line ∷ more) none = part_lacks (after_line deciding at line) more (lacks_on at line none)
