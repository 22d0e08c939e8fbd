-- What follows two schemas in a run of `contain`: the lines of the types of the first guard.
use Rattle.std.proofs.Common.{◌≡◌, inl, inr, ℕ, Bool, true, false, List, [], Result, Ok, Err, is_some, refl, sym, ap, subst, ◌∙◌}
use Rattle.std.specs.List.{list_any}
use Rattle.std.proofs.lemmas.List.{append-nil}
use Rattle.pgs_run_lines.specs.declared.stop.Stop.{Stop}
use Rattle.pgs_run_lines.specs.declared.stop.Stop.TheVariants as stops
use Rattle.pgs_run_lines.specs.Ending as lines
use Rattle.pgs_run_lines.specs.Ending.{Shows}
use Rattle.pgs_run_lines.specs.Machine.{Told}
use Rattle.pgs_run_lines.specs.May.{MayPut}
use Rattle.pgs_run_lines.specs.Pieces.{Shown, ShowsAll, shown_of}
use Rattle.pgs_run_lines.proofs.Showing.{shows_none}
use Rattle.pgs_syntax.specs.declared.resolved.Resolved.{Resolved}
use Rattle.pgs_world.specs.World.{View}
use Rattle.pgs_command.specs.declared.status.Status.{Status}
use Rattle.pgs_command.specs.declared.status.Status.TheVariants.{SchemaRefused}
use Rattle.pgs_command.specs.Ending.{status_at}
use Rattle.pgs_command.proofs.OwnEnds.{IsDone}
use Rattle.pgs_run_contain.specs.declared.ending.Ending.{Ending}
use Rattle.pgs_run_contain.specs.declared.ending.Ending.TheVariants as endings
use Rattle.pgs_run_contain.specs.Answers.{listed, answer_lines}
use Rattle.pgs_run_contain.specs.Behind.{FollowsBoth, FollowsEnding, FollowsTexts}
use Rattle.pgs_run_contain.specs.Names.{Names}
use Rattle.pgs_run_contain.specs.Running.{HasAllLines, TellsSome, Tells, stop_by, PutsNothing, Follows}
use Rattle.pgs_run_contain.specs.Spec.{contain_behind}
use Rattle.pgs_run_contain.specs.Told.{status_by}
use Rattle.pgs_run_contain.proofs.Answered.{lines_none, lines_first}
use Rattle.pgs_run_contain.proofs.Behind.{Rules}

done_by : (some : Bool) → IsDone (status_by some)
done_by true = inr (inl refl)
done_by false = inl refl

pub rules : Rules contain_behind
rules = record {
  none_told = λ first second. lines_none first second [] (listed first first.guard.types);
  none_right = λ first second names status undone. record { answered = []; later = listed first first.guard.types; parts = refl; right = tt; whole = λ done. absurd (undone done) };
  none_cause = refl;
  none_is_cause = λ kept. tt;
  done = λ answers first second. done_by (list_any is_some answers);
}

-- the put of a line stopped, or there was no memory for one
some_told : (first second : Resolved) (names : Names) (stop : Stop Status) (old new : View) → (told : TellsSome first second names first.guard.types stop old new) → (HasAllLines (status_at stop) → ⊥)
    → ((all : Told Status) → Shows (shown_of old) all.pieces stop (shown_of new) → lines.Ends (shown_of old) all stop (shown_of new))
    → MayPut stop → FollowsBoth contain_behind first second names old stop new
some_told first second names stop old new told undone ends may =
    let types = listed first first.guard.types in
    let same : answer_lines types told.answers ≡ answer_lines told.answered told.answers =
    ap (λ ts. answer_lines ts told.answers) told.parts ∙ lines_first first second names told.answered told.later told.answers told.right in
    record {
      choice = told.answers;
      right = record { answered = told.answered; later = told.later; parts = told.parts; right = told.right; whole = λ done. absurd (undone done) };
      ends =
          ends (record { pieces = answer_lines types told.answers; status = status_by (list_any is_some told.answers) })
          (subst (λ ps. Shows (shown_of old) ps stop (shown_of new)) (sym same) told.puts.shows);
      may = may;
      cause = told.puts.cause;
      areas = told.puts.areas;
    }

types_told : (first second : Resolved) (names : Names) (told : Result Bool (Stop Status)) (old new : View) → Tells first second names first.guard.types told old new → FollowsBoth contain_behind first second names old (stop_by told) new
types_told first second names (Ok some) old new tells =
    let types = listed first first.guard.types in
    record {
      choice = tells.answers;
      right = record { answered = types; later = []; parts = sym (append-nil types); right = tells.right; whole = λ done. refl };
      ends = (tells.puts.shows, ap status_by (sym tells.is));
      may = tt;
      cause = tells.puts.faults;
      areas = tells.puts.areas;
    }
types_told first second names (Err (stops.Ended status)) old new tells = absurd tells.puts.only
types_told first second names (Err stops.ReadFault) old new tells = absurd tells.puts.only
types_told first second names (Err stops.DiskFault) old new tells = absurd tells.puts.only
types_told first second names (Err stops.PutFault) old new tells = some_told first second names stops.PutFault old new tells (λ done. done) (λ all shows. shows) tt
types_told first second names (Err stops.Memory) old new tells = some_told first second names stops.Memory old new tells (λ done. done) (λ all shows. shows) tt

-- behind a text that is refused nothing was put
refused_alone : (kept : List ℕ) (old : View) (stop : Stop Status) (new : View) → PutsNothing (stops.Ended SchemaRefused) old stop new → FollowsEnding contain_behind (endings.Refused kept) old stop new
refused_alone kept old stop new none =
    subst (λ (s : Stop Status). FollowsEnding contain_behind (endings.Refused kept) old s new) (sym none.is)
    (record {
      choice = [];
      right = tt;
      ends = (subst (λ (s : Shown). ShowsAll (shown_of old) [] s) (sym none.shown) (shows_none (shown_of old)), refl);
      may = tt;
      cause = none.faults;
      areas = none.areas;
    })

pub followed : (texts : Stop Ending) (old : View) (stop : Stop Status) (new : View) → Follows texts old stop new → FollowsTexts contain_behind texts old stop new
followed (stops.Ended (endings.Fit first second names)) old stop new follows =
    subst (λ s. FollowsBoth contain_behind first second names old s new) (sym follows.is) (types_told first second names follows.told old new follows.tells)
followed (stops.Ended (endings.Refused kept)) old stop new follows = refused_alone kept old stop new follows
followed (stops.Ended endings.Cut) old stop new follows = follows
followed stops.ReadFault old stop new follows = follows
followed stops.DiskFault old stop new follows = follows
followed stops.PutFault old stop new follows = follows
followed stops.Memory old stop new follows = follows
