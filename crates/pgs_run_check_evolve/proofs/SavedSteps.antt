-- What a step changes for a saved store, from what it changes between the two schemas.
use Rattle.std.proofs.Common.{◌≡◌, ◌⊎◌, inl, inr, ⊎_elim, ℕ, Bool, true, false, List, [], ◌∷◌, ◌++◌, map, Option, Some, None, Result, Ok, Err, is_some, refl, sym, ap, subst, ◌∙◌, true≢false}
use Rattle.std.specs.Prelude.{if◌then◌else◌}
use Rattle.std.proofs.lemmas.List.{append-nil}
use Rattle.pgs_base.specs.Graph.{Graph, is_graph}
use Rattle.pgs_answer.specs.Lines.{schema_refused_line, store_refused_line}
use Rattle.pgs_answer.specs.Refusals.{old_format_text}
use Rattle.pgs_run_lines.specs.declared.stop.Stop.{Stop}
use Rattle.pgs_run_lines.specs.declared.stop.Stop.TheVariants as stops
use Rattle.pgs_run_lines.specs.Ending.{Ends, faults_of}
use Rattle.pgs_run_lines.specs.Machine.{Told}
use Rattle.pgs_run_lines.specs.May.{MayPut}
use Rattle.pgs_run_lines.specs.Pieces.{ShowsAll, ShowsFirst, ShowsTorn, shown_of}
use Rattle.pgs_run_lines.specs.Puts.{PutsAll, PutsUntil}
use Rattle.pgs_run_lines.proofs.Showing.{first_of_more, torn_of_more}
use Rattle.pgs_run_lines.proofs.Together.{puts_on, stops_on}
use Rattle.pgs_syntax.specs.declared.resolved.Resolved.{Resolved}
use Rattle.pgs_violation.specs.declared.violation.Violation.{Violation}
use Rattle.pgs_violation.specs.Violations.{conforms, violations}
use Rattle.pgs_world.specs.World.{View}
use Rattle.pgs_command.specs.declared.status.Status.{Status}
use Rattle.pgs_command.specs.declared.status.Status.TheVariants.{Accepted, Refused}
use Rattle.pgs_command.specs.Ending.{status_at}
use Rattle.pgs_schema_changes.specs.Safe.{is_safe}
use Rattle.pgs_run_input.specs.Text.{AnswersText}
use Rattle.pgs_run_try.specs.Told.{listed_line}
use Rattle.pgs_run_contain.specs.Answers.{Answer}
use Rattle.pgs_run_contain.specs.Behind.{FollowsBoth}
use Rattle.pgs_run_contain.specs.Names.{Names}
use Rattle.pgs_run_contain.specs.Running.{HasAllLines}
use Rattle.pgs_run_store.specs.Refusing.{SavedStore}
use Rattle.pgs_run_store.specs.Spec.{PutsTold}
use Rattle.pgs_run_store.proofs.Reading.{all_told, until_told}
use Rattle.pgs_run_check_evolve.specs.Spec.{evolve_behind}
use Rattle.pgs_run_check_evolve.specs.Stored.{violation_lines, told_stored, stored_behind}
use Rattle.pgs_run_check_evolve.specs.Telling.{TellsListed}
use Rattle.pgs_run_check_evolve.specs.Told.{chosen_answers, all_contained, status_by, told_changes, AreRightly}
use Rattle.pgs_run_check_evolve.proofs.Safe.{kept_by, safe_status}

unsafe_status : (safe : Bool) → status_by safe ≡ Refused → safe ≡ false
unsafe_status true is = absurd (let no : Accepted ≡ Refused = is in cc)
unsafe_status false is = refl

-- a status by whether something holds is one of two
of_two : (b : Bool) → (status_by b ≡ Accepted) ⊎ (status_by b ≡ Refused)
of_two true = inl refl
of_two false = inr refl

module _ (old new : Resolved) (names : Names) (graph : Graph) where
  abbrev pieces_of : List Answer → List (List ℕ)
  pieces_of answers = (told_changes (Some answers) old new).pieces

  -- the lines of a step that is safe, and those of one that isn't
  safe_lines : (answers : List Answer) → is_safe old new (all_contained answers) ≡ true → pieces_of answers ≡ (told_stored graph (Some answers) old new).pieces
  safe_lines answers safe =
      sym (append-nil (pieces_of answers)) ∙ ap (λ (b : Bool). pieces_of answers ++ violation_lines b new graph) (sym safe)

  unsafe_lines : (answers : List Answer) → is_safe old new (all_contained answers) ≡ false → pieces_of answers ++ map listed_line (violations new graph) ≡ (told_stored graph (Some answers) old new).pieces
  unsafe_lines answers unsafe = ap (λ (b : Bool). pieces_of answers ++ violation_lines b new graph) (sym unsafe)

  -- right answers that were given to all types are right with each status
  right_again : (answers : List Answer) (status : Status) → AreRightly (Some answers) old new names Refused → AreRightly (Some answers) old new names status
  right_again answers status right = λ strict.
      let all = right strict in
      record { answered = all.answered; later = all.later; parts = all.parts; right = all.right; whole = λ lines. all.whole tt }

  module _ (before after : View) where
    -- the step is safe
    safe_by : is_graph graph ≡ true → conforms old graph ≡ true → (choice : Option (List Answer)) → AreRightly choice old new names Accepted
        → Ends (shown_of before) (told_changes choice old new) (stops.Ended Accepted) (shown_of after)
        → (ShowsAll (shown_of before) (told_stored graph choice old new).pieces (shown_of after)) × ((told_stored graph choice old new).status ≡ Accepted)
    safe_by is_one fits None right ends = absurd (right tt)
    safe_by is_one fits (Some answers) right ends =
        let safe = safe_status (is_safe old new (all_contained answers)) ends.1 in (
          subst (λ (ls : List (List ℕ)). ShowsAll (shown_of before) ls (shown_of after)) (safe_lines answers safe) ends.0,
          ap status_by (kept_by old new names (Some answers) Accepted tt right ends.1 graph is_one fits),
        )

    torn_by : (choice : Option (List Answer)) → ShowsTorn (shown_of before) (told_changes choice old new).pieces (shown_of after) → ShowsTorn (shown_of before) (told_stored graph choice old new).pieces (shown_of after)
    torn_by None shows = shows
    torn_by (Some answers) shows = torn_of_more (shown_of before) (shown_of after) (pieces_of answers) (violation_lines (is_safe old new (all_contained answers)) new graph) shows

    first_by : (choice : Option (List Answer)) → ShowsFirst (shown_of before) (told_changes choice old new).pieces (shown_of after) → ShowsFirst (shown_of before) (told_stored graph choice old new).pieces (shown_of after)
    first_by None shows = shows
    first_by (Some answers) shows = first_of_more (shown_of before) (shown_of after) (pieces_of answers) (violation_lines (is_safe old new (all_contained answers)) new graph) shows

    -- the status that was told behind the texts
    told_two : (choice : Option (List Answer)) (status : Status) → (told_changes choice old new).status ≡ status → (status ≡ Accepted) ⊎ (status ≡ Refused)
    told_two None status is = inl (sym is)
    told_two (Some answers) status is =
        ⊎_elim (λ so. inl (sym is ∙ so)) (λ so. inr (sym is ∙ so)) (of_two (is_safe old new (all_contained answers)))

    ended_safe : is_graph graph ≡ true → conforms old graph ≡ true → FollowsBoth evolve_behind old new names before (stops.Ended Accepted) after → FollowsBoth (stored_behind graph) old new names before (stops.Ended Accepted) after
    ended_safe is_one fits p = record {
      choice = p.choice;
      right = p.right;
      ends = safe_by is_one fits p.choice.answers p.right p.ends;
      may = tt;
      cause = p.cause;
      areas = p.areas;
    }

    -- the telling of the step stopped otherwise than with a step that isn't safe
    pub stored_same : is_graph graph ≡ true → conforms old graph ≡ true → (stop : Stop Status) → (stop ≡ stops.Ended Refused → ⊥) → FollowsBoth evolve_behind old new names before stop after
        → FollowsBoth (stored_behind graph) old new names before stop after
    stored_same is_one fits (stops.Ended status) other p =
        ⊎_elim
        (λ (accepted : status ≡ Accepted). subst (λ (s : Status). FollowsBoth (stored_behind graph) old new names before (stops.Ended s) after) (sym accepted)
        (ended_safe is_one fits (subst (λ (s : Status). FollowsBoth evolve_behind old new names before (stops.Ended s) after) accepted p)))
        (λ (refused : status ≡ Refused). absurd (other (ap stops.Ended refused))) (told_two p.choice.answers status p.ends.1)
    stored_same is_one fits stops.ReadFault other p = absurd p.may
    stored_same is_one fits stops.DiskFault other p = absurd p.may
    stored_same is_one fits stops.PutFault other p =
        record { choice = p.choice; right = p.right; ends = torn_by p.choice.answers p.ends; may = tt; cause = p.cause; areas = p.areas }
    stored_same is_one fits stops.Memory other p =
        record { choice = p.choice; right = p.right; ends = first_by p.choice.answers p.ends; may = tt; cause = p.cause; areas = p.areas }

  -- the step isn't safe, and what the graph has against the new schema was listed
  module _ (before mid after : View) where
    listed_by : (stop : Stop Status) → (answers : List Answer) → AreRightly (Some answers) old new names Refused → PutsAll before (pieces_of answers) mid → is_safe old new (all_contained answers) ≡ false
        → TellsListed (violations new graph) mid stop after → FollowsBoth (stored_behind graph) old new names before stop after
    listed_by (stops.Ended status) answers right front unsafe tells =
        let puts = puts_on front tells.1 in
        record {
          choice = chosen_answers answers;
          right = right_again answers status right;
          ends = (subst (λ (ls : List (List ℕ)). ShowsAll (shown_of before) ls (shown_of after)) (unsafe_lines answers unsafe) puts.shows, sym tells.0);
          may = tt;
          cause = puts.faults;
          areas = puts.areas;
        }
    listed_by stops.ReadFault answers right front unsafe tells = absurd tells
    listed_by stops.DiskFault answers right front unsafe tells = absurd tells
    listed_by stops.PutFault answers right front unsafe tells =
        let puts = stops_on front tells in
        record {
          choice = chosen_answers answers;
          right = right_again answers (status_at stops.PutFault) right;
          ends = subst (λ (ls : List (List ℕ)). ShowsTorn (shown_of before) ls (shown_of after)) (unsafe_lines answers unsafe) puts.shows;
          may = tt;
          cause = puts.cause;
          areas = puts.areas;
        }
    listed_by stops.Memory answers right front unsafe tells =
        let puts = stops_on front tells in
        record {
          choice = chosen_answers answers;
          right = right_again answers (status_at stops.Memory) right;
          ends = subst (λ (ls : List (List ℕ)). ShowsFirst (shown_of before) ls (shown_of after)) (unsafe_lines answers unsafe) puts.shows;
          may = tt;
          cause = puts.cause;
          areas = puts.areas;
        }

    pub stored_listed : (stop : Stop Status) → FollowsBoth evolve_behind old new names before (stops.Ended Refused) mid → TellsListed (violations new graph) mid stop after → FollowsBoth (stored_behind graph) old new names before stop after
    stored_listed stop p tells = by p.choice.answers p.right p.ends
      where
        by : (choice : Option (List Answer)) → AreRightly choice old new names Refused → Ends (shown_of before) (told_changes choice old new) (stops.Ended Refused) (shown_of mid) → FollowsBoth (stored_behind graph) old new names before stop after
        by None right ends = absurd (right tt)
        by (Some answers) right ends =
            listed_by stop answers right (record { shows = ends.0; faults = p.cause; areas = p.areas }) (unsafe_status (is_safe old new (all_contained answers)) ends.1) tells

  -- ---- the status

  stored_two : (choice : Option (List Answer)) (status : Status) → (told_stored graph choice old new).status ≡ status → (status ≡ Accepted) ⊎ (status ≡ Refused)
  stored_two None status is = inl (sym is)
  stored_two (Some answers) status is = ⊎_elim (λ so. inl (sym is ∙ so)) (λ so. inr (sym is ∙ so)) (of_two (conforms new graph))

  pub stored_told : (before : View) (stop : Stop Status) (after : View) → (p : FollowsBoth (stored_behind graph) old new names before stop after) → PutsTold (told_stored graph p.choice.answers old new) before (status_at stop) after
  stored_told before (stops.Ended status) after p =
      all_told (told_stored graph p.choice.answers old new) before after status (stored_two p.choice.answers status p.ends.1) p.ends.1 (record { shows = p.ends.0; faults = p.cause; areas = p.areas })
  stored_told before stops.ReadFault after p = absurd p.may
  stored_told before stops.DiskFault after p = absurd p.may
  stored_told before stops.PutFault after p =
      until_told stops.PutFault (status_at stops.PutFault) (told_stored graph p.choice.answers old new) before after refl (record { only = tt; shows = p.ends; cause = p.cause; areas = p.areas })
  stored_told before stops.Memory after p =
      until_told stops.Memory (status_at stops.Memory) (told_stored graph p.choice.answers old new) before after refl (record { only = tt; shows = p.ends; cause = p.cause; areas = p.areas })

-- what was put is an answer to a text
pub answers_told : (told : Told Status) (old new : View) (status : Status) → PutsTold told old status new → AnswersText told old new status
answers_told told old new status puts = record { ends = puts.ends; may_end = puts.answer; cause = λ reads count. puts.cause reads true count }
