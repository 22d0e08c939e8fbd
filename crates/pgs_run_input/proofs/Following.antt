-- What lines tell one after another.
use Rattle.std.proofs.Common.{◌≡◌, ℕ, suc, ◌≤◌, Bool, true, false, List, [], ◌∷◌, ◌++◌, Result, Ok, Err, refl, sym, ap, ◌∙◌, append_assoc, arith}
use Rattle.std.proofs.lemmas.List.{append-nil}
use Rattle.pgs_base.specs.Graph.{Graph}
use Rattle.pgs_violation.specs.declared.violation.Verdict.{Verdict}
use Rattle.pgs_run_input.specs.Input.{is_skipped}
use Rattle.pgs_run_input.specs.Session.{Standing, Telling, answer_to, after_answer, after_line, after_lines, pieces_of_line, pieces_of_lines}

pub after_lines-append : (verdict : Graph → Verdict) (s : Standing) (xs ys : List (List ℕ)) → after_lines verdict s (xs ++ ys) ≡ after_lines verdict (after_lines verdict s xs) ys
after_lines-append verdict s [] ys = refl
after_lines-append verdict s (x ∷ xs) ys = after_lines-append verdict (after_line verdict s x) xs ys

pub pieces_of_lines-append : (telling : Telling) (verdict : Graph → Verdict) (s : Standing) (xs ys : List (List ℕ)) → pieces_of_lines telling verdict s (xs ++ ys) ≡ pieces_of_lines telling verdict s xs ++ pieces_of_lines telling verdict (after_lines verdict s xs) ys
pieces_of_lines-append telling verdict s [] ys = refl
pieces_of_lines-append telling verdict s (x ∷ xs) ys =
    ap (λ pieces. pieces_of_line telling verdict s x ++ pieces) (pieces_of_lines-append telling verdict (after_line verdict s x) xs ys)
    ∙ sym (append_assoc (pieces_of_line telling verdict s x) (pieces_of_lines telling verdict (after_line verdict s x) xs) _)

-- one line more
pub pieces_of_one : (telling : Telling) (verdict : Graph → Verdict) (s : Standing) (x : List ℕ) → pieces_of_lines telling verdict s (x ∷ []) ≡ pieces_of_line telling verdict s x
pieces_of_one telling verdict s x = append-nil (pieces_of_line telling verdict s x)

pub record IsCounted (n : ℕ) (s : Standing) : Type 0 where
  pub lines : s.number ≤ n
  pub commits : s.commits ≤ n

counted_answer : (n : ℕ) (s : Standing) (answer : Result Graph (List ℕ)) → IsCounted n s → IsCounted (suc n) (after_answer s answer)
counted_answer n s (Ok g) c = record { lines = let h = c.lines in omega arith; commits = let h = c.commits in omega arith }
counted_answer n s (Err text) c = record { lines = let h = c.lines in omega arith; commits = let h = c.commits in omega arith }

-- a line counts once at most
pub counted_line : (n : ℕ) (verdict : Graph → Verdict) (s : Standing) (line : List ℕ) (blank : Bool) → is_skipped line ≡ blank → IsCounted n s → IsCounted (suc n) (after_line verdict s line)
unfolding after_line
counted_line n verdict s line true e c = rw e (record { lines = let h = c.lines in omega arith; commits = let h = c.commits in omega arith })
counted_line n verdict s line false e c = rw e (counted_answer n s (answer_to verdict s.graph line) c)
