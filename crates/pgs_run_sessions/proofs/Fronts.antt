-- A line and as much of it as is kept say the same, since what is too long is refused.
use Rattle.std.proofs.Common.{◌≡◌, ℕ, ◌+◌, ◌-◌, ◌<◌, ◌≤◌, Bool, true, false, ◌==◌, nat_le, nat_lt, List, [], ◌∷◌, ◌++◌, length, take, drop, Err, codes, refl, sym, ap, ◌∙◌, arith}
use Rattle.std.specs.Cmp.Lexicographic.{unequal, pointwise}
use Rattle.std.proofs.lemmas.Bool.Decides.{nat_tests}
use Rattle.std.proofs.lemmas.List.{take-take, length-take}
use Rattle.pgs_answer.specs.Lines.{refused_line}
use Rattle.pgs_answer.specs.Refusals.{line_too_long_text}
use Rattle.pgs_run_sessions.specs.Events.{event_answer}
use Rattle.pgs_run_sessions.specs.LineWords.{without_return}
use Rattle.pgs_run_lines.specs.Input.{front_of, is_blank}
use Rattle.pgs_run_lines.proofs.Fronts.{same_of_front, front_right}
use Rattle.pgs_run_input.specs.Input.{text_limit, text_front, is_separator, is_skipped}
use Rattle.pgs_run_input.specs.Part.{Part, with_line}
use Rattle.pgs_run_sessions.specs.EventLines.{Stepped, Standing, after_refusal, after_line, pieces_of_line}
use Rattle.pgs_run_sessions.specs.InputMachine.{line_limit, line_front}
use Rattle.pgs_sessions_machine.specs.declared.event.Event.{Event}

-- ---- of the schema part

long_separator : (line : List ℕ) → line_limit < length line → is_separator line ≡ false
unfolding is_separator
long_separator line long =
    rw (unequal ◌==◌ line (codes "---") (λ e. omega arith), unequal ◌==◌ line (codes "---\r") (λ e. omega arith)) refl

pub separator_of_front : (line : List ℕ) → is_separator (line_front line) ≡ is_separator line
separator_of_front line = same_of_front line_limit is_separator false line long_separator

-- of a line more than of a text is kept
text_of_line : (line : List ℕ) → text_front (line_front line) ≡ text_front line
unfolding front_of
text_of_line line = take-take (text_limit + 1) (line_limit + 1) line (omega arith)

part_of_front : (part : Part) (line : List ℕ) (begun : Bool) → part.begun ≡ begun → with_line part (text_front line) ≡ with_line part line
unfolding with_line
part_of_front part line true e = rw e (ap (λ (t : List ℕ). record { text = t; begun = true }) (front_right text_limit (text_front (part.text ++ 10 ∷ [])) line))
part_of_front part line false e = rw e (ap (λ (t : List ℕ). record { text = t; begun = true }) (front_right text_limit part.text line))

pub part_of_line : (part : Part) (line : List ℕ) → with_line part (line_front line) ≡ with_line part (text_front line)
part_of_line part line =
    sym (part_of_front part (line_front line) part.begun refl) ∙ ap (with_line part) (text_of_line line)

-- ---- of event lines

is_long : (n : ℕ) → line_limit < n → nat_le n text_limit ≡ false
is_long n long = grind (arith, nat_tests)

long_blank : (line : List ℕ) → line_limit < length line → is_skipped line ≡ false
unfolding is_blank
long_blank line long = rw (is_long (length line) long) refl

stripped_length : (line : List ℕ) (ends : Bool) → pointwise ◌==◌ (drop (length line - 1) line) (codes "\r") ≡ ends → length line ≤ length (without_return line) + 1
unfolding without_return
stripped_length line true e = rw e (let h = length-take (length line - 1) line in omega (arith, h))
stripped_length line false e = rw e (omega arith)

long_without : (line : List ℕ) → line_limit < length line → nat_lt text_limit (length (without_return line)) ≡ true
long_without line long =
    let h = stripped_length line (pointwise ◌==◌ (drop (length line - 1) line) (codes "\r")) refl in
    let over : text_limit < length (without_return line) = omega (arith, h, long) in grind (arith, nat_tests, over)

long_event : (line : List ℕ) → line_limit < length line → event_answer line ≡ Err line_too_long_text
unfolding event_answer
long_event line long = rw (long_without line long) refl

module _ {S : Type 0} (step : S → Event → Stepped S) (s : Standing S) where
  long_after : (line : List ℕ) → line_limit < length line → after_line step s line ≡ after_refusal s
  unfolding after_line
  long_after line long = rw (long_blank line long, long_event line long) refl

  pub after_front : (line : List ℕ) → after_line step s (line_front line) ≡ after_line step s line
  after_front line = same_of_front line_limit (after_line step s) (after_refusal s) line long_after

  long_pieces : (line : List ℕ) → line_limit < length line → pieces_of_line step s line ≡ refused_line (s.number + 1) line_too_long_text ∷ []
  unfolding pieces_of_line
  long_pieces line long = rw (long_blank line long, long_event line long) refl

  pub pieces_of_front : (line : List ℕ) → pieces_of_line step s (line_front line) ≡ pieces_of_line step s line
  pieces_of_front line =
      same_of_front line_limit (pieces_of_line step s) (refused_line (s.number + 1) line_too_long_text ∷ []) line long_pieces
