-- How a command ends that puts a reply, or a line for which there may be no memory.
use Rattle.std.proofs.Common.{◌≡◌, ℕ, Bool, true, List, [], ◌∷◌, inl, inr, refl, sym, subst}
use Rattle.pgs_run_lines.specs.Ending.{Faults, faults_of}
use Rattle.pgs_run_lines.specs.Machine.{Told}
use Rattle.pgs_run_lines.specs.Pieces.{Shown, shown_of, ShowsAll, ShowsTorn}
use Rattle.pgs_run_lines.specs.Replies.{EndsLast, EndsReply}
use Rattle.pgs_run_lines.proofs.Causes.{world_same}
use Rattle.pgs_command.specs.declared.status.Status.{Status}
use Rattle.pgs_command.specs.declared.status.Status.TheVariants.{Accepted, Refused, BadWords, SchemaRefused, StoreRefused, DiskFault, ReadFault, PutFault, Memory, InputTooLong}
use Rattle.pgs_command.specs.Ending.{Ends}
use Rattle.pgs_command.specs.Run.{HasCause}
use Rattle.pgs_world.specs.World.{View}

-- a status that a command answers by itself, without a fault; a store is refused only where it uses the areas
abbrev pub IsOwn : Bool → Status → Type 0
IsOwn uses_areas Accepted = Unit {0}
IsOwn uses_areas Refused = Unit {0}
IsOwn uses_areas SchemaRefused = Unit {0}
IsOwn uses_areas StoreRefused = uses_areas ≡ true
IsOwn uses_areas status = ⊥

own_ends : (uses_areas : Bool) (start now : Shown) (told : Told Status) (status : Status) → IsOwn uses_areas status → ShowsAll start told.pieces now → told.status ≡ status → Ends start told status now
own_ends uses_areas start now told Accepted own shows is = (shows, is)
own_ends uses_areas start now told Refused own shows is = (shows, is)
own_ends uses_areas start now told SchemaRefused own shows is = (shows, is)
own_ends uses_areas start now told StoreRefused own shows is = (shows, is)
own_ends uses_areas start now told InputTooLong own shows is = absurd own
own_ends uses_areas start now told BadWords own shows is = absurd own
own_ends uses_areas start now told DiskFault own shows is = absurd own
own_ends uses_areas start now told ReadFault own shows is = absurd own
own_ends uses_areas start now told PutFault own shows is = absurd own
own_ends uses_areas start now told Memory own shows is = absurd own

own_cause : (reads uses_areas : Bool) (before now : Faults) (status : Status) → IsOwn uses_areas status → now ≡ before → HasCause reads uses_areas before now status
own_cause reads uses_areas before now Accepted own same = same
own_cause reads uses_areas before now Refused own same = same
own_cause reads uses_areas before now SchemaRefused own same = same
own_cause reads uses_areas before now StoreRefused own same = (own, same)
own_cause reads uses_areas before now InputTooLong own same = absurd own
own_cause reads uses_areas before now BadWords own same = absurd own
own_cause reads uses_areas before now DiskFault own same = absurd own
own_cause reads uses_areas before now ReadFault own same = absurd own
own_cause reads uses_areas before now PutFault own same = absurd own
own_cause reads uses_areas before now Memory own same = absurd own

-- its line and its status are what is told
pub reply_ends : (uses_areas : Bool) (told : Told Status) (line : List ℕ) (status answer : Status) (old new : View) → IsOwn uses_areas status → told.pieces ≡ line ∷ [] → told.status ≡ status
    → EndsReply line status PutFault old answer new → Ends (shown_of old) told answer (shown_of new)
reply_ends uses_areas told line status answer old new own pieces is (inl whole) =
    subst (λ (s : Status). Ends (shown_of old) told s (shown_of new)) (sym whole.0)
    (own_ends uses_areas (shown_of old) (shown_of new) told status own (subst (λ (ps : List (List ℕ)). ShowsAll (shown_of old) ps (shown_of new)) (sym pieces) whole.1) is)
reply_ends uses_areas told line status answer old new own pieces is (inr torn) =
    subst (λ (s : Status). Ends (shown_of old) told s (shown_of new)) (sym torn.0)
    (subst (λ (ps : List (List ℕ)). ShowsTorn (shown_of old) ps (shown_of new)) (sym pieces) torn.1)

-- no count rose but that of the put that failed
pub reply_cause : (reads uses_areas : Bool) (count : ℕ) (line : List ℕ) (status answer : Status) (old new : View) → IsOwn uses_areas status → EndsReply line status PutFault old answer new
    → HasCause reads uses_areas (faults_of count old) (faults_of count new) answer
reply_cause reads uses_areas count line status answer old new own (inl whole) =
    subst (HasCause reads uses_areas (faults_of count old) (faults_of count new)) (sym whole.0)
    (own_cause reads uses_areas (faults_of count old) (faults_of count new) status own (world_same count count old new refl whole.2))
reply_cause reads uses_areas count line status answer old new own (inr torn) =
    subst (HasCause reads uses_areas (faults_of count old) (faults_of count new)) (sym torn.0) (torn.2.0, refl, torn.2.2)

-- ---- a line for which there may have been no memory

pub last_ends : (uses_areas : Bool) (told : Told Status) (line : List ℕ) (status answer : Status) (old new : View) → IsOwn uses_areas status → told.pieces ≡ line ∷ [] → told.status ≡ status
    → EndsLast line status PutFault Memory old answer new → Ends (shown_of old) told answer (shown_of new)
last_ends uses_areas told line status answer old new own pieces is (inl put) = reply_ends uses_areas told line status answer old new own pieces is put
last_ends uses_areas told line status answer old new own pieces is (inr unmade) =
    subst (λ (s : Status). Ends (shown_of old) told s (shown_of new)) (sym unmade.0) (record { first = []; later = told.pieces; parts = refl; shows = unmade.1 })

pub last_cause : (reads uses_areas : Bool) (count : ℕ) (line : List ℕ) (status answer : Status) (old new : View) → IsOwn uses_areas status → EndsLast line status PutFault Memory old answer new
    → HasCause reads uses_areas (faults_of count old) (faults_of count new) answer
last_cause reads uses_areas count line status answer old new own (inl put) = reply_cause reads uses_areas count line status answer old new own put
last_cause reads uses_areas count line status answer old new own (inr unmade) =
    subst (HasCause reads uses_areas (faults_of count old) (faults_of count new)) (sym unmade.0) (world_same count count old new refl unmade.2)

-- what is so of each answer that there may be is so of the one that there was
pub by_last : (P : Status → Type 0) (line : List ℕ) (status answer : Status) (old new : View) → P status → P PutFault → P Memory → EndsLast line status PutFault Memory old answer new → P answer
by_last P line status answer old new put torn unmade (inl (inl whole)) = subst P (sym whole.0) put
by_last P line status answer old new put torn unmade (inl (inr fault)) = subst P (sym fault.0) torn
by_last P line status answer old new put torn unmade (inr none) = subst P (sym none.0) unmade
