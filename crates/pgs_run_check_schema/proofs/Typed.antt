-- Types that are answered one after another, each with its line.
use Rattle.std.proofs.Common.{◌≡◌, ℕ, List, [], ◌∷◌, ◌++◌, Some, None, MatchOption, refl, sym, ap, subst, ◌∙◌, append_assoc}
use Rattle.std.proofs.lemmas.List.{append-nil}
use Rattle.std.proofs.lemmas.List.Elements.{filter_map-append}
use Rattle.pgs_syntax.specs.declared.resolved.Resolved.{Resolved}
use Rattle.pgs_syntax.specs.declared.resolved.TypeNo.{TypeNo}
use Rattle.pgs_standing.specs.Example.{IsNever, IsExample}
use Rattle.pgs_advice_lines.specs.declared.line.Line.{Line}
use Rattle.pgs_run_contain.specs.Answers.{Answer, Listed, listed_name, listed_at, listed}
use Rattle.pgs_run_check_schema.specs.Examples.{example_line, example_lines, AreExamples, HasTypes}

module _ (resolved : Resolved) where
  right_on : (xs ys : List Listed) (answers more : List Answer) → AreExamples resolved xs answers → AreExamples resolved ys more → AreExamples resolved (xs ++ ys) (answers ++ more)
  right_on [] ys [] more p q = q
  right_on [] ys (answer ∷ answers) more p q = absurd p
  right_on (x ∷ xs) ys [] more p q = absurd p
  right_on (x ∷ xs) ys (answer ∷ answers) more p q = (p.0, right_on xs ys answers more p.1 q)

  lines_on : (xs ys : List Listed) (answers more : List Answer) → AreExamples resolved xs answers → example_lines (xs ++ ys) (answers ++ more) ≡ example_lines xs answers ++ example_lines ys more
  lines_on [] ys [] more p = refl
  lines_on [] ys (answer ∷ answers) more p = absurd p
  lines_on (x ∷ xs) ys [] more p = absurd p
  lines_on (x ∷ xs) ys (answer ∷ answers) more p = ap (λ (lines : List Line). example_line x.1 answer ∷ lines) (lines_on xs ys answers more p.1)

  lines_none : (types : List Listed) → example_lines types [] ≡ []
  lines_none [] = refl
  lines_none (type ∷ types) = refl

  listed_on : (xs ys : List TypeNo) → listed resolved (xs ++ ys) ≡ listed resolved xs ++ listed resolved ys
  listed_on xs ys = filter_map-append (listed_at resolved) xs ys

  pub has_none : (lines : List Line) → HasTypes resolved [] lines lines
  has_none lines = record { answers = []; right = tt; is = sym (append-nil lines) }

  pub has_on : (xs ys : List TypeNo) (old mid new : List Line) → HasTypes resolved xs old mid → HasTypes resolved ys mid new → HasTypes resolved (xs ++ ys) old new
  has_on xs ys old mid new p q = record {
    answers = p.answers ++ q.answers;
    right = subst (λ types. AreExamples resolved types (p.answers ++ q.answers)) (sym (listed_on xs ys)) (right_on (listed resolved xs) (listed resolved ys) p.answers q.answers p.right q.right);
    is = q.is ∙ ap (λ (lines : List Line). lines ++ example_lines (listed resolved ys) q.answers) p.is
        ∙ append_assoc old (example_lines (listed resolved xs) p.answers) (example_lines (listed resolved ys) q.answers)
        ∙ ap (λ (lines : List Line). old ++ lines)
        (sym (ap (λ types. example_lines types (p.answers ++ q.answers)) (listed_on xs ys) ∙ lines_on (listed resolved xs) (listed resolved ys) p.answers q.answers p.right));
  }

  -- ---- one type

  listed_none : (number : TypeNo) → listed_name resolved number ≡ None → listed resolved (number ∷ []) ≡ []
  listed_none number is = rw is refl

  listed_one : (number : TypeNo) (name : List ℕ) → listed_name resolved number ≡ Some name → listed resolved (number ∷ []) ≡ (number, name) ∷ []
  listed_one number name is = rw is refl

  -- it is abstract, or isn't there
  pub has_skipped : (number : TypeNo) (lines : List Line) → listed_name resolved number ≡ None → HasTypes resolved (number ∷ []) lines lines
  has_skipped number lines is = record {
    answers = [];
    right = subst (λ types. AreExamples resolved types []) (sym (listed_none number is)) tt;
    is = sym (ap (λ (own : List Line). lines ++ own) (lines_none (listed resolved (number ∷ []))) ∙ append-nil lines);
  }

  -- it was answered, and its line put
  pub has_one : (number : TypeNo) (name : List ℕ) (answer : Answer) (old new : List Line) → listed_name resolved number ≡ Some name → MatchOption answer (IsNever resolved number) (IsExample resolved number)
      → new ≡ old ++ example_line name answer ∷ [] → HasTypes resolved (number ∷ []) old new
  has_one number name answer old new is right put = record {
    answers = answer ∷ [];
    right = subst (λ types. AreExamples resolved types (answer ∷ [])) (sym (listed_one number name is)) (right, tt);
    is = put ∙ ap (λ types. old ++ example_lines types (answer ∷ [])) (sym (listed_one number name is));
  }
