-- A line or a text and its front say the same, since what is too long is refused.
use Rattle.std.proofs.Common.{◌≡◌, ℕ, ◌<◌, Bool, true, false, ◌==◌, nat_le, nat_lt, List, length, Ok, Err, codes, refl, sym, ap, ◌∙◌, arith}
use Rattle.std.specs.Cmp.Lexicographic.{unequal}
use Rattle.std.specs.List.{join_with_byte}
use Rattle.std.proofs.lemmas.Bool.Decides.{nat_tests}
use Rattle.pgs_base.specs.Graph.{Graph}
use Rattle.pgs_run_lines.specs.Input.{is_blank}
use Rattle.pgs_run_lines.proofs.Fronts.{front_whole, same_of_front}
use Rattle.pgs_parser.specs.Text.{found}
use Rattle.pgs_resolve.specs.SchemaOf.{schema_of}
use Rattle.pgs_syntax.specs.declared.resolved.Resolved.{Resolved}
use Rattle.pgs_violation.specs.declared.violation.Verdict.{Verdict}
use Rattle.pgs_answer.specs.Refusals.{too_long_text, line_too_long_text}
use Rattle.pgs_run_input.specs.Answers.{schema_answer, txn_answer}
use Rattle.pgs_run_input.specs.Input.{text_limit, text_front, is_separator, is_skipped}
use Rattle.pgs_run_input.specs.Part.{Part}
use Rattle.pgs_run_input.specs.Session.{Standing, Telling, answer_to, after_refusal, after_line, pieces_of_line}

is_long : (n : ℕ) → text_limit < n → (nat_lt text_limit n ≡ true) × (nat_le n text_limit ≡ false)
is_long n long = (grind (arith, nat_tests), grind (arith, nat_tests))

long_separator : (line : List ℕ) → text_limit < length line → is_separator line ≡ false
unfolding is_separator
long_separator line long =
    rw (unequal ◌==◌ line (codes "---") (λ e. omega arith), unequal ◌==◌ line (codes "---\r") (λ e. omega arith)) refl

pub separator_of_front : (line : List ℕ) → is_separator (text_front line) ≡ is_separator line
separator_of_front line = same_of_front text_limit is_separator false line long_separator

long_schema : (text : List ℕ) → text_limit < length text → schema_answer text ≡ Err too_long_text
unfolding schema_answer schema_of found
long_schema text long = rw (is_long (length text) long).1 refl

pub schema_of_front : (text : List ℕ) → schema_answer (text_front text) ≡ schema_answer text
schema_of_front text = same_of_front text_limit schema_answer (Err too_long_text) text long_schema

-- the schema that a part has so far
pub schema_so_far : (part : Part) (lines : List (List ℕ)) → part.text ≡ text_front (join_with_byte 10 lines) → schema_answer (join_with_byte 10 lines) ≡ schema_answer part.text
schema_so_far part lines text = sym (schema_of_front (join_with_byte 10 lines)) ∙ ap schema_answer (sym text)

whole_within : (text : List ℕ) (schema : Resolved) (long : Bool) → nat_lt text_limit (length text) ≡ long → schema_answer text ≡ Ok schema → text_front text ≡ text
whole_within text schema false e is = front_whole text_limit text (grind (arith, nat_tests))
whole_within text schema true e is =
    let h : text_limit < length text = grind (arith, nat_tests) in
    let no : Ok schema ≡ Err too_long_text = sym is ∙ long_schema text h in cc

-- a text whose front is a schema is no longer than its front
pub whole_text : (text : List ℕ) (schema : Resolved) → schema_answer text ≡ Ok schema → text_front text ≡ text
whole_text text schema is = whole_within text schema (nat_lt text_limit (length text)) refl is

long_blank : (line : List ℕ) → text_limit < length line → is_skipped line ≡ false
unfolding is_blank
long_blank line long = rw (is_long (length line) long).1 refl

long_txn : (line : List ℕ) → text_limit < length line → txn_answer line ≡ Err line_too_long_text
unfolding txn_answer
long_txn line long = rw (is_long (length line) long).0 refl

long_after : (verdict : Graph → Verdict) (s : Standing) (line : List ℕ) → text_limit < length line → after_line verdict s line ≡ after_refusal s
unfolding after_line answer_to
long_after verdict s line long = rw (long_blank line long, long_txn line long) refl

pub after_front : (verdict : Graph → Verdict) (s : Standing) (line : List ℕ) → after_line verdict s (text_front line) ≡ after_line verdict s line
after_front verdict s line = same_of_front text_limit (after_line verdict s) (after_refusal s) line (long_after verdict s)

long_pieces : (telling : Telling) (verdict : Graph → Verdict) (s : Standing) (line : List ℕ) → text_limit < length line → pieces_of_line telling verdict s line ≡ telling s (Err line_too_long_text)
unfolding pieces_of_line answer_to
long_pieces telling verdict s line long = rw (long_blank line long, long_txn line long) refl

pub pieces_of_front : (telling : Telling) (verdict : Graph → Verdict) (s : Standing) (line : List ℕ) → pieces_of_line telling verdict s (text_front line) ≡ pieces_of_line telling verdict s line
pieces_of_front telling verdict s line =
    same_of_front text_limit (pieces_of_line telling verdict s) (telling s (Err line_too_long_text)) line (long_pieces telling verdict s)
