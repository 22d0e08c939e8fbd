-- What follows two schemas: the lines of the types, and those behind them.
use Rattle.std.proofs.Common.{◌≡◌, ℕ, inl, inr, Bool, true, false, not, List, [], ◌++◌, Option, Some, None, Ok, Err, refl, sym, ap, subst, ◌∙◌, true≢false}
use Rattle.std.specs.Prelude.{if◌then◌else◌}
use Rattle.std.proofs.lemmas.List.{append-nil}
use Rattle.pgs_run_lines.specs.declared.stop.Stop.{Stop}
use Rattle.pgs_run_lines.specs.declared.stop.Stop.TheVariants as stops
use Rattle.pgs_run_lines.specs.Puts.{PutsAll, PutsUntil}
use Rattle.pgs_run_lines.proofs.Together.{puts_on, stops_on, stops_in}
use Rattle.pgs_syntax.specs.declared.resolved.Resolved.{Resolved}
use Rattle.pgs_world.specs.World.{View}
use Rattle.pgs_command.specs.declared.status.Status.{Status}
use Rattle.pgs_command.specs.Ending.{status_at}
use Rattle.pgs_command.proofs.OwnEnds.{IsDone}
use Rattle.pgs_schema_changes.specs.Safe.{is_safe}
use Rattle.pgs_run_contain.specs.Answers.{Answer, listed, answer_lines, AreRight}
use Rattle.pgs_run_contain.specs.Behind.{FollowsBoth}
use Rattle.pgs_run_contain.specs.Names.{Names}
use Rattle.pgs_run_contain.specs.Running.{HasAllLines, Answered, TellsSome}
use Rattle.pgs_run_contain.proofs.Answered.{lines_first}
use Rattle.pgs_run_contain.proofs.Behind.{Rules}
use Rattle.pgs_run_check_evolve.specs.Lines.{lines_behind}
use Rattle.pgs_run_check_evolve.specs.Spec.{evolve_behind}
use Rattle.pgs_run_check_evolve.specs.Telling.{TellsBehind, TellsOld}
use Rattle.pgs_run_check_evolve.specs.Told.{chosen_answers, type_lines, all_contained, status_by, AreRightly, told_changes}

done_by : (safe : Bool) → IsDone (status_by safe)
done_by true = inl refl
done_by false = inr (inl refl)

done : (choice : Option (List Answer)) (old new : Resolved) → IsDone (told_changes choice old new).status
done None old new = inl refl
done (Some answers) old new = done_by (is_safe old new (all_contained answers))

pub rules : Rules evolve_behind
rules = record {
  none_told = λ old new. refl;
  none_right = λ old new names status undone. undone;
  none_cause = refl;
  none_is_cause = λ text. tt;
  done = λ chosen. done chosen.answers;
}

module _ (old new : Resolved) (names : Names) where
  lines_strict : (answers : List Answer) → new.guard.strict ≡ true → answer_lines (listed old old.guard.types) answers ≡ type_lines old new answers
  lines_strict answers strict = ap (λ (b : Bool). if b then answer_lines (listed old old.guard.types) answers else []) (sym strict)

  lines_loose : (answers : List Answer) → new.guard.strict ≡ false → [] ≡ type_lines old new answers
  lines_loose answers loose = ap (λ (b : Bool). if b then answer_lines (listed old old.guard.types) answers else []) (sym loose)

  -- the types were told of, and what is behind them was put
  behind : (answers : List Answer) (contained : Bool) (before mid : View) (stop : Stop Status) (after : View) → PutsAll before (type_lines old new answers) mid
      → ((status : Status) → AreRightly (Some answers) old new names status) → contained ≡ all_contained answers → TellsBehind old new contained mid stop after → FollowsBoth evolve_behind old new names before stop after
  behind answers contained before mid (stops.Ended status) after front right same tells =
      let puts = puts_on front (subst (λ (b : Bool). PutsAll mid (lines_behind old new b) after) same tells.1) in
      record {
        choice = chosen_answers answers;
        right = right status;
        ends = (puts.shows, sym (tells.0 ∙ ap (λ (b : Bool). status_by (is_safe old new b)) same));
        may = tt;
        cause = puts.faults;
        areas = puts.areas;
      }
  behind answers contained before mid stops.ReadFault after front right same tells = absurd tells
  behind answers contained before mid stops.DiskFault after front right same tells = absurd tells
  behind answers contained before mid stops.PutFault after front right same tells =
      let puts = stops_on front (subst (λ (b : Bool). PutsUntil {E = Status} mid (lines_behind old new b) stops.PutFault after) same tells) in
      record { choice = chosen_answers answers; right = right (status_at stops.PutFault); ends = puts.shows; may = tt; cause = puts.cause; areas = puts.areas }
  behind answers contained before mid stops.Memory after front right same tells =
      let puts = stops_on front (subst (λ (b : Bool). PutsUntil {E = Status} mid (lines_behind old new b) stops.Memory after) same tells) in
      record { choice = chosen_answers answers; right = right (status_at stops.Memory); ends = puts.shows; may = tt; cause = puts.cause; areas = puts.areas }

  -- all types were answered
  all_answered : (answers : List Answer) (status : Status) → AreRight old new names (listed old old.guard.types) answers → Answered old new names (listed old old.guard.types) answers status
  all_answered answers status right = record { answered = listed old old.guard.types; later = []; parts = sym (append-nil (listed old old.guard.types)); right = right; whole = λ all. refl }

  pub followed : (strict : Bool) → new.guard.strict ≡ strict → (outside : Bool) (before mid : View) (stop : Stop Status) (after : View) → TellsOld strict old new names (Ok outside) before mid
      → TellsBehind old new (not outside) mid stop after → FollowsBoth evolve_behind old new names before stop after
  followed true is outside before mid stop after told tells =
      behind told.answers (not outside) before mid stop after (subst (λ (ls : List (List ℕ)). PutsAll before ls mid) (lines_strict told.answers is) told.puts)
      (λ status strict. all_answered told.answers status told.right) (ap not told.is) tells
  followed false is outside before mid stop after told tells =
      behind [] (not outside) before mid stop after (subst (λ (ls : List (List ℕ)). PutsAll before ls mid) (lines_loose [] is) told.1)
      (λ status strict. absurd (true≢false (sym strict ∙ is))) (let none : outside ≡ false = cc in ap not none) tells

  -- the put of the line of a type stopped, or there was no memory for its answer
  types_stop : new.guard.strict ≡ true → (stop : Stop Status) (before after : View) → TellsSome old new names old.guard.types stop before after → FollowsBoth evolve_behind old new names before stop after
  types_stop strict stop before after told = by stop told.puts
    where
      puts_types : (so : Stop Status) → PutsUntil before (answer_lines told.answered told.answers) so after → PutsUntil before (type_lines old new told.answers ++ lines_behind old new (all_contained told.answers)) so after
      puts_types so puts =
          stops_in (lines_behind old new (all_contained told.answers))
          (subst (λ (ls : List (List ℕ)). PutsUntil before ls so after)
          (sym (ap (λ ts. answer_lines ts told.answers) told.parts ∙ lines_first old new names told.answered told.later told.answers told.right) ∙ lines_strict told.answers strict) puts)

      some : (status : Status) → (HasAllLines status → ⊥) → AreRightly (Some told.answers) old new names status
      some status undone = λ asked. record { answered = told.answered; later = told.later; parts = told.parts; right = told.right; whole = λ all. absurd (undone all) }

      by : (so : Stop Status) → PutsUntil before (answer_lines told.answered told.answers) so after → FollowsBoth evolve_behind old new names before so after
      by (stops.Ended status) puts = absurd puts.only
      by stops.ReadFault puts = absurd puts.only
      by stops.DiskFault puts = absurd puts.only
      by stops.PutFault puts =
          let all = puts_types stops.PutFault puts in
          record { choice = chosen_answers told.answers; right = some (status_at stops.PutFault) (λ done. done); ends = all.shows; may = tt; cause = all.cause; areas = all.areas }
      by stops.Memory puts =
          let all = puts_types stops.Memory puts in
          record { choice = chosen_answers told.answers; right = some (status_at stops.Memory) (λ done. done); ends = all.shows; may = tt; cause = all.cause; areas = all.areas }

  pub stopped : (strict : Bool) → new.guard.strict ≡ strict → (stop : Stop Status) (before after : View) → TellsOld strict old new names (Err stop) before after → FollowsBoth evolve_behind old new names before stop after
  stopped true is stop before after told = types_stop is stop before after told
  stopped false is stop before after told = absurd (let no : Err stop ≡ Ok false = told.0 in cc)
