-- The status of a run on an opened store, by how its run over lines ended and by what was put last.
use Rattle.std.proofs.Common.{◌≡◌, inl, inr, ⊎_elim, ℕ, ◌+◌, ◌-◌, ◌≤◌, Bool, true, false, List, [], ◌∷◌, ◌++◌, length, Option, Some, None, refl, sym, ap, subst, ◌∙◌, arith}
use Rattle.std.proofs.lemmas.List.{append-nil}
use Rattle.pgs_run_lines.specs.declared.stop.Stop.{Stop}
use Rattle.pgs_run_lines.specs.declared.stop.Stop.TheVariants as stops
use Rattle.pgs_run_lines.specs.Calls.{is_of_source, is_of_world}
use Rattle.pgs_run_lines.specs.Ending as lines
use Rattle.pgs_run_lines.specs.Ending.{Faults, HasCause as HasStopCause, PutsRose, faults_of}
use Rattle.pgs_run_lines.specs.Machine.{Told, Going, Ended}
use Rattle.pgs_run_lines.specs.Pieces.{Shown, ShowsAll, ShowsFirst, ShowsTorn, pieces_in, shown_of}
use Rattle.pgs_run_lines.specs.Run as over
use Rattle.pgs_run_lines.specs.Run.{EndsBy}
use Rattle.pgs_run_lines.proofs.Causes.{world_same}
use Rattle.pgs_run_lines.proofs.RunEnds.{taken_length}
use Rattle.pgs_run_lines.proofs.Showing.{shows_on, torn_on, all_first, first_of_more, torn_of_more}
use Rattle.pgs_world.specs.Source.{IsAtEnd, Takes}
use Rattle.pgs_world.specs.World.{View}
use Rattle.pgs_command.specs.declared.status.Status.{Status}
use Rattle.pgs_command.specs.declared.status.Status.TheVariants.{Accepted, Refused, DiskFault, ReadFault, PutFault, Memory, InputTooLong}
use Rattle.pgs_command.specs.Answers.{IsOfCommand}
use Rattle.pgs_command.specs.Calls.{fails_read, fails_world}
use Rattle.pgs_command.specs.Ending.{Ends, status_at}
use Rattle.pgs_command.specs.Run.{EndsAs, HasCause, IsRead, TakesWithin}
use Rattle.pgs_command.proofs.OwnEnds.{full_taken}
use Rattle.pgs_run_store.specs.Opening.{IsRefusal}
use Rattle.pgs_run_store.proofs.Shown.{same_faults, shown_quiet}
use Rattle.pgs_run_apply.specs.Applying.{applying}
use Rattle.pgs_run_apply.specs.Ending.{EndsRun, StaysStill}
use Rattle.pgs_run_apply.specs.Outcome.{outcome_of}
use Rattle.pgs_run_apply.specs.State.{ApplyState, status_after}
use Rattle.pgs_run_apply.specs.Told.{last_piece, with_last}

-- ---- how a run may end

never_ended : (s : ApplyState) (status : Status) → Going s ≡ Ended status → ⊥
never_ended s status is = cc

by_refused : (P : Status → Type 0) → P Accepted → P Refused → (refused : Bool) → P (status_after refused)
by_refused P accepted refused true = refused
by_refused P accepted refused false = accepted

-- what holds of each way in which the run over lines may end
pub by_stop : (P : Stop Status → Type 0) (budget : ℕ) (before left : Option (List ℕ)) → (IsAtEnd left → P (stops.Ended Accepted)) → (IsAtEnd left → P (stops.Ended Refused))
    → ((bytes : List ℕ) → Takes before left bytes → length bytes ≡ budget → P (stops.Ended InputTooLong)) → P stops.ReadFault → P stops.DiskFault → P stops.PutFault → P stops.Memory
    → (stop : Stop Status) → EndsBy applying budget before left stop → P stop
by_stop P budget before left accepted refused cut read area put memory (stops.Ended status) (inl line) = absurd (never_ended (outcome_of line.state line.line).state status line.is)
by_stop P budget before left accepted refused cut read area put memory (stops.Ended status) (inr (inl end)) =
    subst (λ (s : Status). P (stops.Ended s)) end.is (by_refused (λ (s : Status). P (stops.Ended s)) (accepted end.at_end) (refused end.at_end) (outcome_of end.state end.rest).state.refused)
by_stop P budget before left accepted refused cut read area put memory (stops.Ended status) (inr (inr at)) = subst (λ (s : Status). P (stops.Ended s)) at.is (cut at.bytes at.taken at.full)
by_stop P budget before left accepted refused cut read area put memory stops.ReadFault by = read
by_stop P budget before left accepted refused cut read area put memory stops.DiskFault by = area
by_stop P budget before left accepted refused cut read area put memory stops.PutFault by = put
by_stop P budget before left accepted refused cut read area put memory stops.Memory by = memory

-- what holds of each way in which a last piece is put, or isn't
pub by_last : (P : Status → Type 0) (last : Option (List ℕ)) (status result : Status) (old new : View)
    → (last ≡ None → StaysStill old new → P status) → ((piece : List ℕ) → last ≡ Some piece → StaysStill old new → P Memory)
    → ((piece : List ℕ) → last ≡ Some piece → ShowsAll (shown_of old) (piece ∷ []) (shown_of new) → faults_of 0 new ≡ faults_of 0 old → P status)
    → ((piece : List ℕ) → last ≡ Some piece → ShowsTorn (shown_of old) (piece ∷ []) (shown_of new) → PutsRose (faults_of 0 old) (faults_of 0 new) → P PutFault)
    → EndsRun last status old result new → P result
by_last P None status result old new none unmade whole torn ends = subst P (sym ends.0) (none refl ends.1)
by_last P (Some piece) status result old new none unmade whole torn (inl memory) = subst P (sym memory.0) (unmade piece refl memory.1)
by_last P (Some piece) status result old new none unmade whole torn (inr put) =
    ⊎_elim (λ all. subst P (sym all.0) (whole piece refl all.1 all.2)) (λ some. subst P (sym some.0) (torn piece refl some.1 some.2)) put.ends

-- a world to which nothing was done shows the same, and counts the same faults
pub still_shown : (old new : View) → StaysStill old new → shown_of new ≡ shown_of old
still_shown old new still = shown_quiet old new still.quiet still.no_put

still_faults : (reads : ℕ) (old new : View) → StaysStill old new → faults_of reads new ≡ faults_of reads old
still_faults reads old new still = same_faults reads old new still.area_faults still.no_put.put_faults

-- the status says that a call failed exactly where one stopped the run over lines
pub stop_fails : (budget : ℕ) (before left : Option (List ℕ)) (stop : Stop Status) → EndsBy applying budget before left stop → (fails_read (status_at stop) ≡ is_of_source stop) × (fails_world (status_at stop) ≡ is_of_world stop)
stop_fails budget before left stop by =
    by_stop (λ (x : Stop Status). (fails_read (status_at x) ≡ is_of_source x) × (fails_world (status_at x) ≡ is_of_world x)) budget before left
    (λ end. (refl, refl)) (λ end. (refl, refl)) (λ bytes taken full. (refl, refl)) (refl, refl) (refl, refl) (refl, refl) (refl, refl) stop by

less : (n m : ℕ) → n - m ≤ n
less n m = omega arith

-- ---- the run

module _ (budget : ℕ) (before left : Option (List ℕ)) (lost : ℕ) (stop : Stop Status) (old new : View) (result : Status) (by : EndsBy applying budget before left stop) where
  abbrev EndsLast : Stop Status → Type 0
  EndsLast x = EndsRun (last_piece (status_at x) lost) (status_at x) old result new

  module _ (last : EndsRun (last_piece (status_at stop) lost) (status_at stop) old result new) where
    -- the answer is the status of the stop, or comes of the last piece
    by_status : (P : Status → Type 0) → P (status_at stop) → P Memory → P PutFault → P result
    by_status P same memory put =
        by_last P (last_piece (status_at stop) lost) (status_at stop) result old new (λ none still. same) (λ piece is still. memory) (λ piece is shows faults. same) (λ piece is shows rose. put) last

    pub may_end : IsOfCommand result
    may_end = by_status IsOfCommand (by_stop (λ (x : Stop Status). IsOfCommand (status_at x)) budget before left (λ end. tt) (λ end. tt) (λ bytes taken full. tt) tt tt tt tt stop by) tt tt

    pub unrefused : IsRefusal result → ⊥
    unrefused =
        by_status (λ (s : Status). IsRefusal s → ⊥)
        (by_stop (λ (x : Stop Status). IsRefusal (status_at x) → ⊥) budget before left (λ end no. no) (λ end no. no) (λ bytes taken full no. no) (λ no. no) (λ no. no) (λ no. no) (λ no. no) stop by)
        (λ no. no) (λ no. no)

    pub is_read : IsRead left result
    is_read = by_status (IsRead left) (by_stop (λ (x : Stop Status). IsRead left (status_at x)) budget before left (λ end. end) (λ end. end) (λ bytes taken full. tt) tt tt tt tt stop by) tt tt

    -- the budget was taken
    abbrev IsFull : Type 0
    IsFull = (bytes : List ℕ) × Takes before left bytes × (length bytes ≡ budget)

    long : result ≡ InputTooLong → IsFull
    long =
        by_status (λ (s : Status). s ≡ InputTooLong → IsFull)
        (by_stop (λ (x : Stop Status). status_at x ≡ InputTooLong → IsFull) budget before left (λ end is. cc) (λ end is. cc) (λ bytes taken full is. (bytes, taken, full)) (λ is. cc) (λ is. cc) (λ is. cc) (λ is. cc) stop by)
        (λ is. cc) (λ is. cc)

    pub is_full : result ≡ InputTooLong → (input : List ℕ) → before ≡ Some input → budget ≤ length input
    is_full is input told = let full = long is in full_taken budget input full.0 before left told full.1 full.2

    long_length : (input rest : List ℕ) → before ≡ Some input → left ≡ Some rest → result ≡ InputTooLong → length input ≡ budget + length rest
    long_length input rest told left_is is = let full = long is in taken_length input rest full.0 before left told full.1 left_is ∙ ap (λ n. n + length rest) full.2

    unread : result ≡ ReadFault → stop ≡ stops.ReadFault
    unread =
        by_status (λ (s : Status). s ≡ ReadFault → stop ≡ stops.ReadFault)
        (by_stop (λ (x : Stop Status). status_at x ≡ ReadFault → x ≡ stops.ReadFault) budget before left (λ end is. cc) (λ end is. cc) (λ bytes taken full is. cc) (λ is. refl) (λ is. cc) (λ is. cc) (λ is. cc) stop by)
        (λ is. cc) (λ is. cc)

  -- ---- what is shown

  module _ (start : Shown) (told : Told Status) where
    abbrev ended : Told Status
    ended = with_last lost told

    -- nothing is told last
    none_last : (status : Status) (now : Shown) → last_piece status lost ≡ None → told.status ≡ status → ShowsAll start told.pieces now → ShowsAll start ended.pieces now
    none_last status now none same shows =
        subst (λ (last : Option (List ℕ)). ShowsAll start (told.pieces ++ pieces_in last) now) (sym (ap (λ (s : Status). last_piece s lost) same ∙ none))
        (subst (λ (pieces : List (List ℕ)). ShowsAll start pieces now) (sym (append-nil told.pieces)) shows)

    still_ends : (status : Status) → (result ≡ status) × StaysStill old new → Ends start ended status (shown_of old) → Ends start ended result (shown_of new)
    still_ends status last ends =
        subst (λ (s : Status). Ends start ended s (shown_of new)) (sym last.0) (subst (λ (now : Shown). Ends start ended status now) (sym (still_shown old new last.1)) ends)

    -- behind a whole input
    done_ends : (status : Status) → (ShowsAll start ended.pieces (shown_of new) → told.status ≡ status → Ends start ended status (shown_of new))
        → ShowsAll start told.pieces (shown_of old) × (told.status ≡ status) → EndsRun (last_piece status lost) status old result new → Ends start ended result (shown_of new)
    done_ends status made ends =
        by_last (λ (s : Status). Ends start ended s (shown_of new)) (last_piece status lost) status result old new
        (λ none still. made (subst (λ (now : Shown). ShowsAll start ended.pieces now) (sym (still_shown old new still)) (none_last status (shown_of old) none ends.1 ends.0)) ends.1)
        (λ piece is still. subst (λ (now : Shown). ShowsFirst start ended.pieces now) (sym (still_shown old new still)) (all_first start (shown_of old) told.pieces (pieces_in (last_piece told.status lost)) ends.0))
        (λ piece is shows faults.
        made
        (subst (λ (last : Option (List ℕ)). ShowsAll start (told.pieces ++ pieces_in last) (shown_of new)) (sym (ap (λ (s : Status). last_piece s lost) ends.1 ∙ is)) (shows_on start (shown_of old) (shown_of new) told.pieces (piece ∷ []) ends.0 shows)) ends.1)
        (λ piece is shows rose.
        subst (λ (last : Option (List ℕ)). ShowsTorn start (told.pieces ++ pieces_in last) (shown_of new)) (sym (ap (λ (s : Status). last_piece s lost) ends.1 ∙ is)) (torn_on start (shown_of old) (shown_of new) told.pieces (piece ∷ []) ends.0 shows))

    ended_shown : lines.Ends start told stop (shown_of old) → EndsLast stop → Ends start ended result (shown_of new)
    ended_shown =
        let more = pieces_in (last_piece told.status lost) in
        let first = first_of_more start (shown_of old) told.pieces more in
        by_stop (λ (x : Stop Status). lines.Ends start told x (shown_of old) → EndsLast x → Ends start ended result (shown_of new)) budget before left
        (λ end. done_ends Accepted (λ shows is. (shows, is))) (λ end. done_ends Refused (λ shows is. (shows, is)))
        (λ bytes taken full ends last. still_ends InputTooLong last (none_last InputTooLong (shown_of old) refl ends.1 ends.0, ends.1))
        (λ ends last. still_ends ReadFault last (first ends)) (λ ends last. still_ends DiskFault last (first ends))
        (λ ends last. still_ends PutFault last (torn_of_more start (shown_of old) told.pieces more ends)) (λ ends last. still_ends Memory last (first ends)) stop by

  -- of what the machine tells, and what is told of its lines and with the last piece, by the number of bytes; where no more are read than there are, no end is told of lines
  pub ends_last : (last : EndsRun (last_piece (status_at stop) lost) (status_at stop) old result new) (start : Shown) (input : List ℕ) (tell so all : ℕ → Told Status) → before ≡ Some input
      → ((n : ℕ) → tell n ≡ so n) → ((n : ℕ) → all n ≡ with_last lost (so n)) → ((n : ℕ) → n ≤ length input → (so n).status ≡ InputTooLong) → over.EndsAs tell start input budget left stop (shown_of old)
      → EndsAs all start input budget left result (shown_of new)
  ends_last last start input tell so all told is_so is_all cut ends = record {
    shown = subst (λ (t : Told Status). Ends start t result (shown_of new)) (sym (is_all budget))
        (ended_shown start (so budget) (subst (λ (t : Told Status). lines.Ends start t stop (shown_of old)) (is_so budget) ends.shown) last);
    read_fault = λ rest left_is fault.
        let n = length input - length rest in
        let is = unread last fault in
        let still = subst EndsLast is last in
        let shows = subst (λ (t : Told Status). ShowsAll start t.pieces (shown_of old)) (is_so n) (ends.read_fault rest left_is is) in
        subst (λ (t : Told Status). ShowsAll start t.pieces (shown_of new)) (sym (is_all n))
        (subst (λ (now : Shown). ShowsAll start (with_last lost (so n)).pieces now) (sym (still_shown old new still.1))
        (none_last start (so n) InputTooLong (shown_of old) refl (cut n (less (length input) (length rest))) shows));
    within = ends.within;
    too_long = λ rest left_is is. long_length last input rest told left_is is;
  }

  pub takes_last : (last : EndsRun (last_piece (status_at stop) lost) (status_at stop) old result new) (input rest : List ℕ) → before ≡ Some input → left ≡ Some rest → length input ≤ budget + length rest → TakesWithin input budget rest result
  takes_last last input rest told left_is within = record { within = within; too_long = λ is. long_length last input rest told left_is is }

  -- ---- the cause

  module _ (start : Faults) (reads : ℕ) where
    abbrev Causes : Status → Type 0
    Causes status = HasCause true true start (faults_of reads new) status

    still_cause : (status : Status) → (result ≡ status) × StaysStill old new → HasCause true true start (faults_of reads old) status → Causes result
    still_cause status last cause =
        subst Causes (sym last.0) (subst (λ (f : Faults). HasCause true true start f status) (sym (still_faults reads old new last.1)) cause)

    done_cause : (status : Status) → (faults_of reads new ≡ start → Causes status) → faults_of reads old ≡ start → EndsRun (last_piece status lost) status old result new → Causes result
    done_cause status made same =
        by_last Causes (last_piece status lost) status result old new (λ none still. made (still_faults reads old new still ∙ same)) (λ piece is still. still_faults reads old new still ∙ same)
        (λ piece is shows faults. made (world_same reads reads old new refl faults ∙ same))
        (λ piece is shows rose. subst (λ (f : Faults). PutsRose f (faults_of reads new)) same (rose.0, refl, rose.2))

    pub ended_cause : HasStopCause start (faults_of reads old) stop → EndsLast stop → Causes result
    ended_cause =
        by_stop (λ (x : Stop Status). HasStopCause start (faults_of reads old) x → EndsLast x → Causes result) budget before left
        (λ end. done_cause Accepted (λ same. same)) (λ end. done_cause Refused (λ same. same)) (λ bytes taken full same last. still_cause InputTooLong last (refl, same))
        (λ cause last. still_cause ReadFault last (refl, cause)) (λ cause last. still_cause DiskFault last (refl, cause)) (λ cause last. still_cause PutFault last cause)
        (λ cause last. still_cause Memory last cause) stop by
