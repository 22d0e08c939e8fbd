-- The status of a run, by how its run over lines ended: of a machine that ends by itself at a refused schema, at the end of its input
-- and at the end of its budget alone, and touches no area.
use Rattle.std.proofs.Common.{◌≡◌, ◌⊎◌, inl, inr, ℕ, ◌+◌, ◌-◌, ◌≤◌, List, length, Option, Some, None, false, true, refl, sym, ap, subst, ◌∙◌, arith}
use Rattle.pgs_run_lines.specs.declared.stop.Stop.{Stop}
use Rattle.pgs_run_lines.specs.declared.stop.Stop.TheVariants as stops
use Rattle.pgs_run_lines.specs.Calls.{is_of_source, is_of_world}
use Rattle.pgs_run_lines.specs.Ending as lines
use Rattle.pgs_run_lines.specs.Ending.{Faults, HasCause as HasStopCause}
use Rattle.pgs_run_lines.specs.Machine.{Machine, Told, Ended}
use Rattle.pgs_run_lines.specs.May.{MayCome}
use Rattle.pgs_run_lines.specs.Pieces.{Shown, ShowsAll}
use Rattle.pgs_run_lines.specs.Run as over
use Rattle.pgs_run_lines.specs.Run.{EndsBy, EndsAtLine, EndsAtEnd, EndsAtCut}
use Rattle.pgs_run_lines.proofs.RunEnds.{taken_length}
use Rattle.pgs_world.specs.Source.{Takes, IsAtEnd}
use Rattle.pgs_command.specs.declared.status.Status.{Status}
use Rattle.pgs_command.specs.declared.status.Status.TheVariants.{Accepted, Refused, BadWords, SchemaRefused, StoreRefused, DiskFault, ReadFault, PutFault, Memory, InputTooLong}
use Rattle.pgs_command.specs.Calls.{fails_read, fails_world}
use Rattle.pgs_command.specs.Ending.{Ends, status_at}
use Rattle.pgs_command.specs.Run.{HasCause, IsRead, EndsAs}

-- the statuses after an input that was read to its end
abbrev pub IsDone : Status → Type 0
IsDone status = (status ≡ Accepted) ⊎ ((status ≡ Refused) ⊎ (status ≡ SchemaRefused))

pub not_done : (status : Status) → IsDone status → status ≡ InputTooLong → ⊥
not_done status (inl is) cut = cc
not_done status (inr (inl is)) cut = cc
not_done status (inr (inr is)) cut = cc

-- as many bytes as the budget were taken
pub full_taken : (budget : ℕ) (input bytes : List ℕ) (before left : Option (List ℕ)) → before ≡ Some input → Takes before left bytes → length bytes ≡ budget → budget ≤ length input
full_taken budget input bytes before None is taken full = cc
full_taken budget input bytes before (Some rest) is taken full =
    let n = taken_length input rest bytes before (Some rest) is taken refl in omega (full, arith)

-- where the machine ends by itself
pub record EndsAlone (m : Machine Status) : Type 0 where
  pub line : (s : m.State) (line : List ℕ) (status : Status) → (m.line s line).next ≡ Ended status → status ≡ SchemaRefused
  pub rest : (s : m.State) (rest : List ℕ) → IsDone (m.rest s rest).status
  pub cut : (s : m.State) → m.cut s ≡ InputTooLong
  pub no_area : m.MayStop stops.DiskFault → ⊥

own_shown : (start now : Shown) (told : Told Status) (status so : Status) → status ≡ so → Ends start told so now → Ends start told status now
own_shown start now told status so is ends = subst (λ s. Ends start told s now) (sym is) ends

done_shown : (start now : Shown) (told : Told Status) (status : Status) → IsDone status → ShowsAll start told.pieces now × (told.status ≡ status) → Ends start told status now
done_shown start now told status (inl is) ends = own_shown start now told status Accepted is (ends.0, ends.1 ∙ is)
done_shown start now told status (inr (inl is)) ends = own_shown start now told status Refused is (ends.0, ends.1 ∙ is)
done_shown start now told status (inr (inr is)) ends = own_shown start now told status SchemaRefused is (ends.0, ends.1 ∙ is)

-- an input that was read to its end
pub read_any : (left : Option (List ℕ)) (status : Status) → IsAtEnd left → IsRead left status
read_any left Accepted end = end
read_any left Refused end = end
read_any left BadWords end = tt
read_any left SchemaRefused end = tt
read_any left StoreRefused end = tt
read_any left DiskFault end = tt
read_any left ReadFault end = tt
read_any left PutFault end = tt
read_any left Memory end = tt
read_any left InputTooLong end = tt

module _ (m : Machine Status) (alone : EndsAlone m) (budget : ℕ) (before left : Option (List ℕ)) where
  -- an end of the machine's own: a refused schema, the end of the input, or the end of the budget
  abbrev IsOwn : Status → Type 0
  IsOwn status = (status ≡ SchemaRefused) ⊎ ((IsDone status × IsAtEnd left) ⊎ ((status ≡ InputTooLong) × EndsAtCut m budget before left status))

  own_of : (status : Status) → EndsAtLine m status ⊎ (EndsAtEnd m left status ⊎ EndsAtCut m budget before left status) → IsOwn status
  own_of status (inl line) = inl (alone.line line.state line.line status line.is)
  own_of status (inr (inl end)) = inr (inl (subst IsDone end.is (alone.rest end.state end.rest), end.at_end))
  own_of status (inr (inr cut)) = inr (inr (sym cut.is ∙ alone.cut cut.state, cut))

  -- ---- what is shown

  ended_shown : (start now : Shown) (told : Told Status) (status : Status) → IsOwn status → ShowsAll start told.pieces now × (told.status ≡ status) → Ends start told status now
  ended_shown start now told status (inl is) ends = own_shown start now told status SchemaRefused is (ends.0, ends.1 ∙ is)
  ended_shown start now told status (inr (inl done)) ends = done_shown start now told status done.0 ends
  ended_shown start now told status (inr (inr cut)) ends = own_shown start now told status InputTooLong cut.0 (ends.0, ends.1 ∙ cut.0)

  shown_at : (start now : Shown) (told : Told Status) (stop : Stop Status) → EndsBy m budget before left stop → lines.Ends start told stop now → Ends start told (status_at stop) now
  shown_at start now told (stops.Ended status) by ends = ended_shown start now told status (own_of status by) ends
  shown_at start now told stops.ReadFault by ends = ends
  shown_at start now told stops.DiskFault by ends = ends
  shown_at start now told stops.PutFault by ends = ends
  shown_at start now told stops.Memory by ends = ends

  -- ---- when the budget is spent

  cut_length : (input rest : List ℕ) (status : Status) → before ≡ Some input → left ≡ Some rest → IsOwn status → status ≡ InputTooLong → length input ≡ budget + length rest
  cut_length input rest status is left_is (inl refused) cut = let no : SchemaRefused ≡ InputTooLong = sym refused ∙ cut in cc
  cut_length input rest status is left_is (inr (inl done)) cut = absurd (not_done status done.0 cut)
  cut_length input rest status is left_is (inr (inr own)) cut =
      taken_length input rest own.1.bytes before left is own.1.taken left_is ∙ ap (λ n. n + length rest) own.1.full

  too_long_at : (input rest : List ℕ) (stop : Stop Status) → before ≡ Some input → left ≡ Some rest → EndsBy m budget before left stop → status_at stop ≡ InputTooLong → length input ≡ budget + length rest
  too_long_at input rest (stops.Ended status) is left_is by cut = cut_length input rest status is left_is (own_of status by) cut
  too_long_at input rest stops.ReadFault is left_is by cut = cc
  too_long_at input rest stops.DiskFault is left_is by cut = cc
  too_long_at input rest stops.PutFault is left_is by cut = cc
  too_long_at input rest stops.Memory is left_is by cut = cc

  full_own : (input : List ℕ) (status : Status) → before ≡ Some input → IsOwn status → status ≡ InputTooLong → budget ≤ length input
  full_own input status is (inl refused) cut = let no : SchemaRefused ≡ InputTooLong = sym refused ∙ cut in cc
  full_own input status is (inr (inl done)) cut = absurd (not_done status done.0 cut)
  full_own input status is (inr (inr own)) cut = full_taken budget input own.1.bytes before left is own.1.taken own.1.full

  full_at : (input : List ℕ) (stop : Stop Status) → before ≡ Some input → EndsBy m budget before left stop → status_at stop ≡ InputTooLong → budget ≤ length input
  full_at input (stops.Ended status) is by cut = full_own input status is (own_of status by) cut
  full_at input stops.ReadFault is by cut = cc
  full_at input stops.DiskFault is by cut = cc
  full_at input stops.PutFault is by cut = cc
  full_at input stops.Memory is by cut = cc

  -- an input that is too long has as many bytes as the budget
  pub full_alone : (stop : Stop Status) (status : Status) → status ≡ status_at stop → EndsBy m budget before left stop → status ≡ InputTooLong → (input : List ℕ) → before ≡ Some input → budget ≤ length input
  full_alone stop status same by cut input is = full_at input stop is by (sym same ∙ cut)

  own_fault : (status : Status) → IsOwn status → status ≡ ReadFault → ⊥
  own_fault status (inl is) fault = cc
  own_fault status (inr (inl (inl is, end))) fault = cc
  own_fault status (inr (inl (inr (inl is), end))) fault = cc
  own_fault status (inr (inl (inr (inr is), end))) fault = cc
  own_fault status (inr (inr (is, cut))) fault = cc

  fault_at : (stop : Stop Status) → EndsBy m budget before left stop → status_at stop ≡ ReadFault → stop ≡ stops.ReadFault
  fault_at (stops.Ended status) by fault = absurd (own_fault status (own_of status by) fault)
  fault_at stops.ReadFault by fault = refl
  fault_at stops.DiskFault by fault = cc
  fault_at stops.PutFault by fault = cc
  fault_at stops.Memory by fault = cc

  -- ---- the run, of which `tell` is what the machine tells, and `told` the same in other words

  pub ends_alone : (tell told : ℕ → Told Status) → ((n : ℕ) → tell n ≡ told n) → (start now : Shown) (input : List ℕ) (stop : Stop Status) (status : Status) → before ≡ Some input → status ≡ status_at stop
      → EndsBy m budget before left stop → over.EndsAs tell start input budget left stop now → EndsAs told start input budget left status now
  ends_alone tell told tells start now input stop status is same by ends = record {
    shown = subst (λ s. Ends start (told budget) s now) (sym same) (shown_at start now (told budget) stop by (subst (λ (t : Told Status). lines.Ends start t stop now) (tells budget) ends.shown));
    read_fault = λ rest left_is fault. subst (λ (t : Told Status). ShowsAll start t.pieces now) (tells (length input - length rest)) (ends.read_fault rest left_is (fault_at stop by (sym same ∙ fault)));
    within = ends.within;
    too_long = λ rest left_is cut. too_long_at input rest stop is left_is by (sym same ∙ cut);
  }

  own_read : (status : Status) → IsOwn status → IsRead left status
  own_read status (inl is) = subst (IsRead left) (sym is) tt
  own_read status (inr (inl done)) = read_any left status done.1
  own_read status (inr (inr cut)) = subst (IsRead left) (sym cut.0) tt

  read_at : (stop : Stop Status) → EndsBy m budget before left stop → IsRead left (status_at stop)
  read_at (stops.Ended status) by = own_read status (own_of status by)
  read_at stops.ReadFault by = tt
  read_at stops.DiskFault by = tt
  read_at stops.PutFault by = tt
  read_at stops.Memory by = tt

  pub read_alone : (stop : Stop Status) (status : Status) → status ≡ status_at stop → EndsBy m budget before left stop → IsRead left status
  read_alone stop status same by = subst (IsRead left) (sym same) (read_at stop by)

  own_cause : (old new : Faults) (status : Status) → IsOwn status → new ≡ old → HasCause true false old new status
  own_cause old new status (inl is) same = subst (HasCause true false old new) (sym is) same
  own_cause old new status (inr (inl (inl is, end))) same = subst (HasCause true false old new) (sym is) same
  own_cause old new status (inr (inl (inr (inl is), end))) same = subst (HasCause true false old new) (sym is) same
  own_cause old new status (inr (inl (inr (inr is), end))) same = subst (HasCause true false old new) (sym is) same
  own_cause old new status (inr (inr (is, cut))) same = subst (HasCause true false old new) (sym is) (refl, same)

  cause_at : (old new : Faults) (stop : Stop Status) → EndsBy m budget before left stop → MayCome m stop → HasStopCause old new stop → HasCause true false old new (status_at stop)
  cause_at old new (stops.Ended status) by may cause = own_cause old new status (own_of status by) cause
  cause_at old new stops.ReadFault by may cause = (refl, cause)
  cause_at old new stops.DiskFault by may cause = absurd (alone.no_area may)
  cause_at old new stops.PutFault by may cause = cause
  cause_at old new stops.Memory by may cause = cause

  pub cause_alone : (old new : Faults) (stop : Stop Status) (status : Status) → status ≡ status_at stop → EndsBy m budget before left stop → MayCome m stop → HasStopCause old new stop → HasCause true false old new status
  cause_alone old new stop status same by may cause = subst (HasCause true false old new) (sym same) (cause_at old new stop by may cause)

  -- ---- which calls failed

  own_fails : (status : Status) → IsOwn status → (fails_read status ≡ false) × (fails_world status ≡ false)
  own_fails status (inl is) = (ap fails_read is, ap fails_world is)
  own_fails status (inr (inl (inl is, end))) = (ap fails_read is, ap fails_world is)
  own_fails status (inr (inl (inr (inl is), end))) = (ap fails_read is, ap fails_world is)
  own_fails status (inr (inl (inr (inr is), end))) = (ap fails_read is, ap fails_world is)
  own_fails status (inr (inr (is, cut))) = (ap fails_read is, ap fails_world is)

  -- the status says that a call failed exactly where one stopped the run over lines
  pub fails_alone : (stop : Stop Status) (status : Status) → status ≡ status_at stop → EndsBy m budget before left stop → (fails_read status ≡ is_of_source stop) × (fails_world status ≡ is_of_world stop)
  fails_alone (stops.Ended own) status same by = let none = own_fails own (own_of own by) in (ap fails_read same ∙ none.0, ap fails_world same ∙ none.1)
  fails_alone stops.ReadFault status same by = (ap fails_read same, ap fails_world same)
  fails_alone stops.DiskFault status same by = (ap fails_read same, ap fails_world same)
  fails_alone stops.PutFault status same by = (ap fails_read same, ap fails_world same)
  fails_alone stops.Memory status same by = (ap fails_read same, ap fails_world same)
