-- Types that are answered one after another, each with its line.
use Rattle.std.proofs.Common.{◌≡◌, ℕ, ◌+◌, Bool, false, ◌||◌, List, [], ◌∷◌, ◌++◌, take, drop, Some, None, is_some, MatchOption, Result, refl, sym, ap, subst, ◌∙◌, append_assoc}
use Rattle.std.specs.Prelude.{IfSome}
use Rattle.std.specs.List.{list_any}
use Rattle.std.specs.Result.{IsErrAnd}
use Rattle.std.proofs.Math.Bool.{or-false}
use Rattle.std.proofs.lemmas.List.{take-append-drop}
use Rattle.std.proofs.lemmas.List.Elements.{filter_map-append}
use Rattle.std.proofs.lemmas.List.Folds.{list_any-append}
use Rattle.std.proofs.lemmas.Result.{err_from_is_err_and}
use Rattle.pgs_run_lines.specs.declared.stop.Stop.{Stop}
use Rattle.pgs_run_lines.specs.declared.stop.Stop.TheVariants as stops
use Rattle.pgs_run_lines.specs.Puts.{PutsAll, PutsUntil}
use Rattle.pgs_run_lines.proofs.Together.{puts_none, puts_on, stops_first, stops_on}
use Rattle.pgs_syntax.specs.declared.resolved.Resolved.{Resolved}
use Rattle.pgs_syntax.specs.declared.resolved.TypeNo.{TypeNo}
use Rattle.pgs_world.specs.Moment.{IsTimed}
use Rattle.pgs_world.specs.World.{View}
use Rattle.pgs_command.specs.declared.status.Status.{Status}
use Rattle.pgs_run_contain.specs.Answers.{Answer, Listed, listed_name, listed_at, listed, answer_line, answer_lines, IsRightAnswer, AreRight}
use Rattle.pgs_contain.specs.Contained.{IsContained, IsOutside}
use Rattle.pgs_contain.specs.Strange.{IsStrange}
use Rattle.pgs_run_contain.specs.Names.{Names}
use Rattle.pgs_run_contain.specs.Running.{TellsAll, TellsSome, Tells}

module _ (first second : Resolved) (names : Names) where
  -- right answers to some types, and to more
  pub right_on : (xs ys : List Listed) (answers more : List Answer) → AreRight first second names xs answers → AreRight first second names ys more → AreRight first second names (xs ++ ys) (answers ++ more)
  right_on [] ys [] more p q = q
  right_on [] ys (answer ∷ answers) more p q = absurd p
  right_on (x ∷ xs) ys [] more p q = absurd p
  right_on (x ∷ xs) ys (answer ∷ answers) more p q = (p.0, right_on xs ys answers more p.1 q)

  pub lines_none : (types : List Listed) → answer_lines types [] ≡ []
  lines_none [] = refl
  lines_none (type ∷ types) = refl

  pub lines_on : (xs ys : List Listed) (answers more : List Answer) → AreRight first second names xs answers → answer_lines (xs ++ ys) (answers ++ more) ≡ answer_lines xs answers ++ answer_lines ys more
  lines_on [] ys [] more p = refl
  lines_on [] ys (answer ∷ answers) more p = absurd p
  lines_on (x ∷ xs) ys [] more p = absurd p
  lines_on (x ∷ xs) ys (answer ∷ answers) more p = ap (λ lines. answer_line x.1 answer ∷ lines) (lines_on xs ys answers more p.1)

  -- the lines of the first types alone
  pub lines_first : (xs ys : List Listed) (answers : List Answer) → AreRight first second names xs answers → answer_lines (xs ++ ys) answers ≡ answer_lines xs answers
  lines_first [] ys [] p = lines_none ys
  lines_first [] ys (answer ∷ answers) p = absurd p
  lines_first (x ∷ xs) ys [] p = absurd p
  lines_first (x ∷ xs) ys (answer ∷ answers) p = ap (λ lines. answer_line x.1 answer ∷ lines) (lines_first xs ys answers p.1)

  listed_on : (xs ys : List TypeNo) → listed first (xs ++ ys) ≡ listed first xs ++ listed first ys
  listed_on xs ys = filter_map-append (listed_at first) xs ys

  -- ---- types one after another

  pub tells_none : (view : View) → IsTimed view → TellsAll first second names [] false view view
  tells_none view timed = record { answers = []; right = tt; is = refl; puts = puts_none view timed }

  tells_on : (xs ys : List TypeNo) (some more : Bool) (old mid new : View) → TellsAll first second names xs some old mid → TellsAll first second names ys more mid new → TellsAll first second names (xs ++ ys) (some || more) old new
  tells_on xs ys some more old mid new p q = record {
    answers = p.answers ++ q.answers;
    right = subst (λ types. AreRight first second names types (p.answers ++ q.answers)) (sym (listed_on xs ys)) (right_on (listed first xs) (listed first ys) p.answers q.answers p.right q.right);
    is = ap (λ b. b || more) p.is ∙ ap (λ b. list_any is_some p.answers || b) q.is ∙ sym (list_any-append is_some p.answers q.answers);
    puts =
        subst (λ lines. PutsAll old lines new)
        (sym (ap (λ types. answer_lines types (p.answers ++ q.answers)) (listed_on xs ys) ∙ lines_on (listed first xs) (listed first ys) p.answers q.answers p.right))
        (puts_on p.puts q.puts);
  }

  tells_stop : (xs ys later : List TypeNo) (some : Bool) (stop : Stop Status) (old mid new : View) → TellsAll first second names xs some old mid → TellsSome first second names ys stop mid new → TellsSome first second names ((xs ++ ys) ++ later) stop old new
  tells_stop xs ys later some stop old mid new p q = record {
    answers = p.answers ++ q.answers;
    answered = listed first xs ++ q.answered;
    later = q.later ++ listed first later;
    parts =
        listed_on (xs ++ ys) later ∙ ap (λ types. types ++ listed first later) (listed_on xs ys ∙ ap (λ types. listed first xs ++ types) q.parts ∙ sym (append_assoc (listed first xs) q.answered q.later))
        ∙ append_assoc (listed first xs ++ q.answered) q.later (listed first later);
    right = right_on (listed first xs) q.answered p.answers q.answers p.right q.right;
    puts =
        subst (λ lines. PutsUntil old lines stop new) (sym (lines_on (listed first xs) q.answered p.answers q.answers p.right)) (stops_on p.puts q.puts);
  }

  -- one more type of a loop
  module _ (numbers : List TypeNo) (place : ℕ) (number : TypeNo) (more : take (place + 1) numbers ≡ take place numbers ++ number ∷ []) where
    pub number_on : (some one : Bool) (old mid new : View) → TellsAll first second names (take place numbers) some old mid → TellsAll first second names (number ∷ []) one mid new → TellsAll first second names (take (place + 1) numbers) (some || one) old new
    number_on some one old mid new p q =
        subst (λ (xs : List TypeNo). TellsAll first second names xs (some || one) old new) (sym more) (tells_on (take place numbers) (number ∷ []) some one old mid new p q)

    pub number_stop : (some : Bool) (stop : Stop Status) (old mid new : View) → TellsAll first second names (take place numbers) some old mid → TellsSome first second names (number ∷ []) stop mid new → TellsSome first second names numbers stop old new
    number_stop some stop old mid new p q =
        subst (λ (xs : List TypeNo). TellsSome first second names xs stop old new)
        (ap (λ xs. xs ++ drop (place + 1) numbers) (sym more) ∙ take-append-drop (place + 1) numbers)
        (tells_stop (take place numbers) (number ∷ []) (drop (place + 1) numbers) some stop old mid new p q)

  -- what a call says that hands the stop on
  pub handed : (numbers : List TypeNo) (stop : Stop Status) (old new : View) (result : Result Bool (Stop Status)) → IsErrAnd result (λ given. given ≡ stop) → TellsSome first second names numbers stop old new → Tells first second names numbers result old new
  handed numbers stop old new result is p = let exit = err_from_is_err_and result is in rw (exit.1, exit.2) p

  -- ---- one type

  listed_none : (number : TypeNo) → listed_name first number ≡ None → listed first (number ∷ []) ≡ []
  listed_none number is = rw is refl

  listed_one : (number : TypeNo) (name : List ℕ) → listed_name first number ≡ Some name → listed first (number ∷ []) ≡ (number, name) ∷ []
  listed_one number name is = rw is refl

  -- it is abstract, or isn't there
  pub skipped : (number : TypeNo) (view : View) → IsTimed view → listed_name first number ≡ None → TellsAll first second names (number ∷ []) false view view
  skipped number view timed is = record {
    answers = [];
    right = subst (λ types. AreRight first second names types []) (sym (listed_none number is)) tt;
    is = refl;
    puts = subst (λ types. PutsAll view (answer_lines types []) view) (sym (listed_none number is)) (puts_none view timed);
  }

  -- an answer that says both is right
  pub right_answer : (number : TypeNo) (answer : Answer) → MatchOption answer (IsContained first number second) (IsOutside first number second) → IfSome answer (IsStrange names first number second) →
      IsRightAnswer first second names number answer
  right_answer number None is strange = is
  right_answer number (Some outside) is strange = (is, strange)

  -- it was answered, and its line put
  pub answered_all : (number : TypeNo) (name : List ℕ) (answer : Answer) (some : Bool) (old new : View) → listed_name first number ≡ Some name →
      IsRightAnswer first second names number answer → some ≡ is_some answer → PutsAll old (answer_line name answer ∷ []) new → TellsAll first second names (number ∷ []) some old new
  answered_all number name answer some old new is right so puts = record {
    answers = answer ∷ [];
    right = subst (λ types. AreRight first second names types (answer ∷ [])) (sym (listed_one number name is)) (right, tt);
    is = so ∙ sym (or-false (is_some answer));
    puts = subst (λ types. PutsAll old (answer_lines types (answer ∷ [])) new) (sym (listed_one number name is)) puts;
  }

  pub answered_some : (number : TypeNo) (name : List ℕ) (answer : Answer) (stop : Stop Status) (old new : View) → listed_name first number ≡ Some name →
      IsRightAnswer first second names number answer → PutsUntil old (answer_line name answer ∷ []) stop new → TellsSome first second names (number ∷ []) stop old new
  answered_some number name answer stop old new is right puts = record {
    answers = answer ∷ [];
    answered = (number, name) ∷ [];
    later = [];
    parts = listed_one number name is;
    right = (right, tt);
    puts = puts;
  }

  -- there was no memory for its answer
  pub unanswered : (numbers : List TypeNo) (view : View) → IsTimed view → TellsSome first second names numbers stops.Memory view view
  unanswered numbers view timed = record {
    answers = [];
    answered = [];
    later = listed first numbers;
    parts = refl;
    right = tt;
    puts = stops_first view timed [];
  }
