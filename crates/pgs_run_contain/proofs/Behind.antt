-- What is promised of a run of a command over two schema texts: once its choice is known it ends as a machine does that ends by itself.
use Rattle.std.proofs.Common.{◌≡◌, inl, inr, ℕ, ◌-◌, true, false, List, [], ◌++◌, length, Option, Some, Result, Ok, Err, refl, sym, ap, subst, ◌∙◌}
use Rattle.std.proofs.lemmas.List.{append-nil}
use Rattle.pgs_run_lines.specs.declared.stop.Stop.{Stop}
use Rattle.pgs_run_lines.specs.declared.stop.Stop.TheVariants as stops
use Rattle.pgs_run_lines.specs.AreasKept.{KeepsAreas, keeps_on}
use Rattle.pgs_run_lines.specs.Calls.{is_of_source, is_of_world}
use Rattle.pgs_run_lines.specs.Ending as lines
use Rattle.pgs_run_lines.specs.Ending.{Faults, HasCause, Shows, faults_of}
use Rattle.pgs_run_lines.specs.Machine.{Machine, RunState, Told, Going, Ended, told_by}
use Rattle.pgs_run_lines.specs.May.{MayCome, MayPut}
use Rattle.pgs_run_lines.specs.Pieces.{Shown, ShowsAll, ShowsFirst, ShowsTorn, shown_of}
use Rattle.pgs_run_lines.specs.Run as over
use Rattle.pgs_run_lines.specs.Run.{EndsBy}
use Rattle.pgs_run_lines.specs.Telling.{telling}
use Rattle.pgs_run_lines.proofs.Causes.{cause_on, world_cause, world_same}
use Rattle.pgs_run_lines.proofs.Showing.{ends_on}
use Rattle.pgs_syntax.specs.declared.resolved.Resolved.{Resolved}
use Rattle.pgs_world.specs.World.{View}
use Rattle.pgs_command.specs.declared.status.Status.{Status}
use Rattle.pgs_command.specs.declared.status.Status.TheVariants.{SchemaRefused, InputTooLong}
use Rattle.pgs_command.specs.Calls.{fails_read, fails_world}
use Rattle.pgs_command.specs.Ending.{status_at}
use Rattle.pgs_command.specs.Promise.{Promise}
use Rattle.pgs_command.specs.Run.{EndsAs}
use Rattle.pgs_command.specs.Setting.{SourceState, Setting, faults_in}
use Rattle.pgs_command.proofs.Images.{images_areas, settled_images}
use Rattle.pgs_command.proofs.OwnEnds.{IsDone, EndsAlone, ends_alone, read_alone, cause_alone, full_alone, fails_alone}
use Rattle.pgs_command.proofs.OwnPromise.{own_command}
use Rattle.pgs_command.proofs.Promising.{promise_reading}
use Rattle.pgs_run_input.specs.Answers.{schema_answer}
use Rattle.pgs_run_input.specs.Input.{text_limit, text_front}
use Rattle.pgs_run_contain.specs.declared.ending.Ending.{Ending}
use Rattle.pgs_run_contain.specs.declared.ending.Ending.TheVariants as endings
use Rattle.pgs_run_contain.specs.declared.phase.Phase.{Phase}
use Rattle.pgs_run_contain.specs.declared.phase.Phase.TheVariants as phases
use Rattle.pgs_run_contain.specs.Behind.{Behind, told_at, told_with, told_compared, IsRightAt, compared_spec, FollowsEnding, FollowsTexts, Reading}
use Rattle.pgs_run_contain.specs.Comparing.{comparing, first_phase, next_of, after_end, pieces_at_end, told_after}
use Rattle.pgs_run_contain.specs.Names.{Names, names_in}
use Rattle.pgs_run_contain.specs.Running.{HasAllLines, PutsNothing}
use Rattle.pgs_run_contain.specs.Told.{told_first, told_second, told_texts}
use Rattle.pgs_run_contain.proofs.Machine.{told_by_texts}

-- what makes a command's run end as it is to
pub record Rules (behind : Behind) : Type 0 where
  pub none_told : (first second : Resolved) → (behind.told behind.none first second).pieces ≡ []
  pub none_right : (first second : Resolved) (names : Names) (status : Status) → (HasAllLines status → ⊥) → behind.IsRight behind.none first second names status
  pub none_cause : behind.cause behind.none ≡ []
  pub none_is_cause : (kept : List ℕ) → behind.IsCause behind.none kept
  pub done : (choice : behind.Choice) (first second : Resolved) → IsDone (behind.told choice first second).status

module _ (behind : Behind) (rules : Rules behind) where
  -- a run that stopped before both schemas were told of
  none_right_at : (ending : Ending) (status : Status) → (HasAllLines status → ⊥) → IsRightAt behind behind.none ending status
  none_right_at (endings.Fit first second names) status undone = rules.none_right first second names status undone
  none_right_at (endings.Refused kept) status undone = rules.none_is_cause kept
  none_right_at endings.Cut status undone = tt

  -- no more is told then than the texts do
  behind_none : (pieces : List (List ℕ)) (ending : Ending) → (told_with behind behind.none pieces ending).pieces ≡ pieces
  behind_none pieces (endings.Fit first second names) =
      ap (λ more. pieces ++ more) (rules.none_told first second) ∙ append-nil pieces
  behind_none pieces (endings.Refused kept) = ap (λ more. pieces ++ more) rules.none_cause ∙ append-nil pieces
  behind_none pieces endings.Cut = append-nil pieces

  abbrev told_of : List (List ℕ) → Status → Told Status
  told_of pieces status = record { pieces = pieces; status = status }

  -- ---- the machine

  abbrev status_behind : behind.Choice → Ending → Status
  status_behind choice ending = (told_at behind choice ending).status

  abbrev standing_behind : behind.Choice → RunState Phase Ending → RunState Phase Status
  standing_behind choice (Going phase) = Going phase
  standing_behind choice (Ended ending) = Ended (status_behind choice ending)

  -- it ends where the reading of the texts does, with the status by this choice; what follows two schemas is told elsewhere
  abbrev pub comparing_with : behind.Choice → Machine Status
  comparing_with choice = telling (record {
    State = Phase;
    after = after_end;
    pieces = pieces_at_end;
    next = λ phase. standing_behind choice (next_of phase);
    told = λ phase. record { pieces = (told_after phase).pieces; status = status_behind choice (told_after phase).status };
    cut = InputTooLong;
    HasRoom = λ lines phase. Unit {0};
  })

  module _ (choice : behind.Choice) where
    line_status : (phase : Phase) (status : Status) → standing_behind choice (next_of phase) ≡ Ended status → status ≡ SchemaRefused
    line_status (phases.First part) status is = cc
    line_status (phases.Second first names part) status is = cc
    line_status (phases.Refused kept) status is = cc

    done_second : (first : Resolved) (names : Names) (kept : List ℕ) (answer : Result Resolved (List ℕ)) → IsDone (status_behind choice (told_second first names kept answer).status)
    done_second first names kept (Ok second) = rules.done choice first second
    done_second first names kept (Err refusal) = inr (inr refl)

    done_first : (kept : List ℕ) (answer : Result Resolved (List ℕ)) → IsDone (status_behind choice (told_first true kept answer []).status)
    done_first kept (Ok first) = done_second first (names_in kept) (text_front []) (schema_answer [])
    done_first kept (Err refusal) = inr (inr refl)

    done_after : (phase : Phase) → IsDone (status_behind choice (told_after phase).status)
    done_after (phases.First part) = done_first part.text (schema_answer part.text)
    done_after (phases.Second first names part) = done_second first names part.text (schema_answer part.text)
    done_after (phases.Refused kept) = inr (inr refl)

    pub alone : EndsAlone (comparing_with choice)
    alone = record {
      line = λ phase line status is. line_status (after_end phase line) status is;
      rest = λ phase rest. done_after (after_end phase rest);
      cut = λ phase. refl;
      no_area = λ may. may;
    }

    by_texts : (budget : ℕ) (before left : Option (List ℕ)) (ending : Ending) → EndsBy comparing budget before left (stops.Ended ending) → EndsBy (comparing_with choice) budget before left (stops.Ended (status_behind choice ending))
    by_texts budget before left ending (inl line) = inl (record { state = line.state; line = line.line; is = ap (standing_behind choice) line.is })
    by_texts budget before left ending (inr (inl end)) = inr (inl (record { state = end.state; rest = end.rest; is = ap (status_behind choice) end.is; at_end = end.at_end }))
    by_texts budget before left ending (inr (inr cut)) = inr (inr (record { state = cut.state; is = ap (status_behind choice) cut.is; bytes = cut.bytes; taken = cut.taken; full = cut.full }))

  -- there is a right choice by which the run stopped so behind the texts
  pub record Choosing (budget : ℕ) (old : Setting) (source : SourceState) (texts : Stop Ending) (stop : Stop Status) (new : View) : Type 0 where
    pub choice : behind.Choice
    pub right : (input : List ℕ) → old.source.left ≡ Some input → IsRightAt behind choice (told_texts input budget).status (status_at stop)
    pub ends : (input : List ℕ) → old.source.left ≡ Some input → over.EndsAs (told_compared behind choice input) (shown_of old.view) input budget source.left stop (shown_of new)
    pub by : EndsBy (comparing_with choice) budget old.source.left source.left stop
    pub may : MayCome (comparing_with choice) stop
    pub cause : HasCause (faults_in old) (faults_of source.faults new) stop
    pub areas : KeepsAreas old.view new
    pub reads : is_of_source stop ≡ is_of_source texts

  module _ (budget : ℕ) (old : Setting) (source : SourceState) (mid : View) where
    -- behind everything but two schemas
    still : (texts : Stop Ending) (stop : Stop Status) → Reading budget old source mid texts → (HasAllLines (status_at stop) → ⊥)
        → ((input : List ℕ) → old.source.left ≡ Some input → lines.Ends (shown_of old.view) (told_compared behind behind.none input budget) stop (shown_of mid))
        → (stop ≡ stops.ReadFault → texts ≡ stops.ReadFault) → EndsBy (comparing_with behind.none) budget old.source.left source.left stop → MayCome (comparing_with behind.none) stop
        → HasCause (faults_in old) (faults_of source.faults mid) stop → is_of_source stop ≡ is_of_source texts → Choosing budget old source texts stop mid
    still texts stop read undone shown fault by may cause reads = record {
      choice = behind.none;
      right = λ input is. none_right_at (told_texts input budget).status (status_at stop) undone;
      ends = λ input is. record {
        shown = shown input is;
        read_fault = λ rest rest_is at.
            let told = told_texts input (length input - length rest) in
            subst (λ ps. ShowsAll (shown_of old.view) ps (shown_of mid)) (sym (behind_none told.pieces told.status)) ((read.ends input is).read_fault rest rest_is (fault at));
        within = (read.ends input is).within;
      };
      by = by;
      may = may;
      cause = cause;
      areas = read.areas;
      reads = reads;
    }

    cut_shown : Reading budget old source mid (stops.Ended endings.Cut) → (input : List ℕ) → old.source.left ≡ Some input
        → lines.Ends (shown_of old.view) (told_compared behind behind.none input budget) (stops.Ended InputTooLong) (shown_of mid)
    cut_shown read input is =
        let ends = (read.ends input is).shown in
        let pieces = (told_texts input budget).pieces in
        let told : told_compared behind behind.none input budget ≡ record { pieces = pieces; status = InputTooLong } =
        ap (told_with behind behind.none pieces) ends.1 ∙ ap (λ (ps : List (List ℕ)). told_of ps InputTooLong) (append-nil pieces) in
        subst (λ (t : Told Status). lines.Ends (shown_of old.view) t (stops.Ended InputTooLong) (shown_of mid)) (sym told) (ends.0, refl)

    none_told : (input : List ℕ) → (told_compared behind behind.none input budget).pieces ≡ (told_texts input budget).pieces
    none_told input = behind_none (told_texts input budget).pieces (told_texts input budget).status

    -- behind two schemas, or behind a text that is refused, with what follows
    judged : (ending : Ending) (stop : Stop Status) (new : View) → FollowsEnding behind ending mid stop new → Reading budget old source mid (stops.Ended ending)
        → Choosing budget old source (stops.Ended ending) stop new
    judged ending stop new follows read = record {
      choice = follows.choice;
      right = λ input is. subst (λ (e : Ending). IsRightAt behind follows.choice e (status_at stop)) (sym (read.ends input is).shown.1) follows.right;
      ends = λ input is.
          let texts = read.ends input is in
          let pieces = (told_texts input budget).pieces in
          record {
            shown = subst (λ (e : Ending). lines.Ends (shown_of old.view) (told_with behind follows.choice pieces e) stop (shown_of new)) (sym texts.shown.1)
                (ends_on stop (shown_of old.view) (shown_of mid) (shown_of new) pieces (told_at behind follows.choice ending) texts.shown.0 follows.ends);
            read_fault = λ rest rest_is fault. absurd (unread stop follows.may fault);
            within = texts.within;
          };
      by = by_told stop (told_at behind follows.choice ending) (shown_of mid) (shown_of new) follows.ends
          (by_texts follows.choice budget old.source.left source.left ending read.by);
      may = may_stop stop follows.may;
      cause = cause_on (faults_in old) (faults_of source.faults mid) (faults_of source.faults new) stop read.cause (world_cause source.faults mid new stop follows.cause);
      areas = keeps_on old.view mid new read.areas follows.areas;
      reads = not_of_source stop follows.may;
    }
      where
        unread : (so : Stop Status) → MayPut so → so ≡ stops.ReadFault → ⊥
        unread (stops.Ended status) may is = cc
        unread stops.ReadFault may is = may
        unread stops.DiskFault may is = may
        unread stops.PutFault may is = cc
        unread stops.Memory may is = cc

        not_of_source : (so : Stop Status) → MayPut so → is_of_source so ≡ false
        not_of_source (stops.Ended status) may = refl
        not_of_source stops.ReadFault may = absurd may
        not_of_source stops.DiskFault may = absurd may
        not_of_source stops.PutFault may = refl
        not_of_source stops.Memory may = refl

        may_stop : (so : Stop Status) → MayPut so → MayCome (comparing_with follows.choice) so
        may_stop (stops.Ended status) may = tt
        may_stop stops.ReadFault may = absurd may
        may_stop stops.DiskFault may = absurd may
        may_stop stops.PutFault may = tt
        may_stop stops.Memory may = tt

        by_told : (so : Stop Status) (told : Told Status) (start now : Shown) → lines.Ends start told so now
            → EndsBy (comparing_with follows.choice) budget old.source.left source.left (stops.Ended told.status) → EndsBy (comparing_with follows.choice) budget old.source.left source.left so
        by_told (stops.Ended status) told start now ends by =
            subst (λ (s : Status). EndsBy (comparing_with follows.choice) budget old.source.left source.left (stops.Ended s)) ends.1 by
        by_told stops.ReadFault told start now ends by = tt
        by_told stops.DiskFault told start now ends by = tt
        by_told stops.PutFault told start now ends by = tt
        by_told stops.Memory told start now ends by = tt

    kept : (texts : Stop Ending) (so stop : Stop Status) (new : View) → PutsNothing so mid stop new → Choosing budget old source texts so mid → Choosing budget old source texts stop new
    kept texts so stop new none ran = subst (λ s. Choosing budget old source texts s new) (sym none.is) (record {
      choice = ran.choice;
      right = ran.right;
      ends = λ input is. subst (λ (now : Shown). over.EndsAs (told_compared behind ran.choice input) (shown_of old.view) input budget source.left so now) (sym none.shown) (ran.ends input is);
      by = ran.by;
      may = ran.may;
      cause = subst (λ (now : Faults). HasCause (faults_in old) now so) (sym (world_same source.faults source.faults mid new refl none.faults)) ran.cause;
      areas = keeps_on old.view mid new ran.areas none.areas;
      reads = ran.reads;
    })

    -- behind all texts
    choosing : (texts : Stop Ending) (stop : Stop Status) (new : View) → Reading budget old source mid texts → FollowsTexts behind texts mid stop new → Choosing budget old source texts stop new
    choosing (stops.Ended (endings.Fit first second names)) stop new read follows = judged (endings.Fit first second names) stop new follows read
    choosing (stops.Ended (endings.Refused text)) stop new read follows = judged (endings.Refused text) stop new follows read
    choosing (stops.Ended endings.Cut) stop new read follows =
        kept (stops.Ended endings.Cut) (stops.Ended InputTooLong) stop new follows
        (still (stops.Ended endings.Cut) (stops.Ended InputTooLong) read (λ done. done) (cut_shown read) (λ fault. cc)
        (by_texts behind.none budget old.source.left source.left endings.Cut read.by) tt read.cause refl)
    choosing stops.ReadFault stop new read follows =
        kept stops.ReadFault stops.ReadFault stop new follows
        (still stops.ReadFault stops.ReadFault read (λ done. done) (λ input is. subst (λ ps. ShowsFirst (shown_of old.view) ps (shown_of mid)) (sym (none_told input)) (read.ends input is).shown) (λ fault. refl) tt tt read.cause refl)
    choosing stops.DiskFault stop new read follows = absurd read.may
    choosing stops.PutFault stop new read follows =
        kept stops.PutFault stops.PutFault stop new follows
        (still stops.PutFault stops.PutFault read (λ done. done) (λ input is. subst (λ ps. ShowsTorn (shown_of old.view) ps (shown_of mid)) (sym (none_told input)) (read.ends input is).shown) (λ fault. cc) tt tt read.cause refl)
    choosing stops.Memory stop new read follows =
        kept stops.Memory stops.Memory stop new follows
        (still stops.Memory stops.Memory read (λ done. done) (λ input is. subst (λ ps. ShowsFirst (shown_of old.view) ps (shown_of mid)) (sym (none_told input)) (read.ends input is).shown) (λ fault. cc) tt tt read.cause refl)

  promised_by : (budget : ℕ) (old : Setting) (source : SourceState) (texts : Stop Ending) (stop : Stop Status) (status : Status) (new : View) → status ≡ status_at stop → Choosing budget old source texts stop new
      → Promise (compared_spec behind) budget old (record { source = source; view = new; places = old.places }) status
  promised_by budget old source texts stop status new same ran =
      let before = old.source.left in
      let left = source.left in
      let m = comparing_with ran.choice in
      let own = alone ran.choice in
      let ended : (input : List ℕ) → before ≡ Some input → EndsAs (told_compared behind ran.choice input) (shown_of old.view) input budget left status (shown_of new) =
      λ input is. ends_alone m own budget before left (told_compared behind ran.choice input) (told_compared behind ran.choice input) (λ n. refl) (shown_of old.view) (shown_of new) input stop status is same ran.by (ran.ends input is) in
      promise_reading (compared_spec behind) budget old (record { source = source; view = new; places = old.places }) status refl (record {
        choice = ran.choice;
        right = λ input is. subst (λ s. IsRightAt behind ran.choice (told_texts input budget).status s) (sym same) (ran.right input is);
        ends = λ input knows is. ended input is;
        takes = λ input rest is rest_is. record { within = (ended input is).within rest rest_is; too_long = (ended input is).too_long rest rest_is };
        full = full_alone m own budget before left stop status same ran.by;
        in_vain = λ vain. absurd vain;
        read_to_end = read_alone m own budget before left stop status same ran.by;
        may_end = own_command m own budget before left stop status same ran.by;
        cause = cause_alone m own budget before left (faults_in old) (faults_of source.faults new) stop status same ran.by ran.may ran.cause;
        leaves = ran.areas;
        settles = λ settled no. settled_images old.view new settled (images_areas old.view new ran.areas);
        feeds = refl;
      })

  -- the status says that a call failed exactly where one stopped the run
  fails_by : (budget : ℕ) (old : Setting) (source : SourceState) (texts : Stop Ending) (stop : Stop Status) (status : Status) (new : View) → status ≡ status_at stop → Choosing budget old source texts stop new
      → (fails_read status ≡ is_of_source texts) × (fails_world status ≡ is_of_world stop)
  fails_by budget old source texts stop status new same ran =
      let so = fails_alone (comparing_with ran.choice) (alone ran.choice) budget old.source.left source.left stop status same ran.by in
      (so.0 ∙ ran.reads, so.1)

  pub promised : (budget : ℕ) (old : Setting) (source : SourceState) (mid : View) (texts : Stop Ending) (stop : Stop Status) (status : Status) (new : View) → Reading budget old source mid texts
      → FollowsTexts behind texts mid stop new → status ≡ status_at stop → Promise (compared_spec behind) budget old (record { source = source; view = new; places = old.places }) status
  promised budget old source mid texts stop status new read follows same =
      promised_by budget old source texts stop status new same (choosing budget old source mid texts stop new read follows)

  -- the status says that a call failed exactly where one stopped the run
  pub fails : (budget : ℕ) (old : Setting) (source : SourceState) (mid : View) (texts : Stop Ending) (stop : Stop Status) (status : Status) (new : View) → Reading budget old source mid texts
      → FollowsTexts behind texts mid stop new → status ≡ status_at stop → (fails_read status ≡ is_of_source texts) × (fails_world status ≡ is_of_world stop)
  fails budget old source mid texts stop status new read follows same =
      fails_by budget old source texts stop status new same (choosing budget old source mid texts stop new read follows)

-- what run_lines says of the reading
pub reading : (budget : ℕ) (old : Setting) (source : SourceState) (mid : View) (phase : Phase) (texts : Stop Ending) → phase ≡ first_phase
    → ((input : List ℕ) → old.source.left ≡ Some input → over.EndsAs (told_by comparing text_limit phase input) (shown_of old.view) input budget source.left texts (shown_of mid))
    → EndsBy comparing budget old.source.left source.left texts → MayCome comparing texts → HasCause (faults_in old) (faults_of source.faults mid) texts → KeepsAreas old.view mid
    → Reading budget old source mid texts
reading budget old source mid phase texts first ends by may cause areas = record {
  ends = λ input is. record {
    shown = subst (λ (t : Told Ending). lines.Ends (shown_of old.view) t texts (shown_of mid)) (tells input budget) (ends input is).shown;
    read_fault = λ rest rest_is fault. subst (λ (t : Told Ending). ShowsAll (shown_of old.view) t.pieces (shown_of mid)) (tells input (length input - length rest)) ((ends input is).read_fault rest rest_is fault);
    within = (ends input is).within;
  };
  by = by;
  may = may;
  cause = cause;
  areas = areas;
}
  where
    tells : (input : List ℕ) (n : ℕ) → told_by comparing text_limit phase input n ≡ told_texts input n
    tells input n = ap (λ p. told_by comparing text_limit p input n) first ∙ told_by_texts input n
