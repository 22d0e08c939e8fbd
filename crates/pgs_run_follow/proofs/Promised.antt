-- The promise of a run that follows, by how its run over lines ended.
use Rattle.std.proofs.Common.{◌≡◌, ◌⊎◌, inl, inr, ℕ, Bool, true, false, List, [], ◌∷◌, is_some, Option, Some, refl, sym, ap, subst}
use Rattle.std.specs.Prelude.{if◌then◌else◌}
use Rattle.pgs_feed.specs.Places.{Place}
use Rattle.pgs_run_lines.specs.declared.stop.Stop.{Stop}
use Rattle.pgs_run_lines.specs.declared.stop.Stop.TheVariants as stops
use Rattle.pgs_run_lines.specs.Ending as lines
use Rattle.pgs_run_lines.specs.Ending.{faults_of}
use Rattle.pgs_run_lines.specs.Machine.{Extent, Whole, Inside, AtEnd, Going, after_lines, scene_of, told_at_end, told_by}
use Rattle.pgs_run_lines.specs.May.{MayCome, MayPut}
use Rattle.pgs_run_lines.specs.Pieces.{Shown, shown_of}
use Rattle.pgs_run_lines.specs.Run as over
use Rattle.pgs_run_lines.specs.Run.{Allows, EndsBy, IsFar}
use Rattle.pgs_follow.specs.Followed.{Followed, nothing_followed, after_line, with_rest}
use Rattle.pgs_command.specs.declared.status.Status.{Status}
use Rattle.pgs_command.specs.declared.status.Status.TheVariants.{Accepted, Refused, ReadFault, InputTooLong}
use Rattle.pgs_command.specs.Ending.{status_at}
use Rattle.pgs_command.specs.Promise.{Promise}
use Rattle.pgs_command.specs.Run.{EndsAs}
use Rattle.pgs_command.specs.Setting.{Setting, faults_in}
use Rattle.pgs_command.proofs.Images.{images_areas, settled_images}
use Rattle.pgs_command.proofs.OwnEnds.{EndsAlone, IsDone, cause_alone, ends_alone, full_alone, read_alone}
use Rattle.pgs_command.proofs.Promising.{promise_reading}
use Rattle.pgs_run_follow.specs.Following.{following, puts_last, PutsLast, rest_after}
use Rattle.pgs_run_follow.specs.Spec.{IsOfFollower, follow_spec}
use Rattle.pgs_run_follow.specs.Texts.{standard}
use Rattle.pgs_run_follow.specs.Told.{told_follow}
use Rattle.pgs_run_follow.proofs.Machine.{told_by_following}

-- ---- its ends

-- what holds of both statuses of a feed that was read to its end
by_fault : (P : Status → Type 0) → P Accepted → P Refused → (ended : Bool) → P (if ended then Refused else Accepted)
by_fault P accepted refused true = refused
by_fault P accepted refused false = accepted

last_by : (P : Status → Type 0) → P Accepted → P Refused → (f : Followed) (rest : List ℕ) → P (following.rest f rest).status
last_by P accepted refused f rest = by_fault P accepted refused (is_some (with_rest f rest).fault)

pub follows_alone : EndsAlone following
follows_alone = record {
  line = λ f line status is. cc;
  rest = λ f rest. last_by IsDone (inl refl) (inr (inl refl)) f rest;
  cut = λ f. refl;
  no_area = λ may. may;
}

answer_at : (budget : ℕ) (before left : Option (List ℕ)) (stop : Stop Status) → EndsBy following budget before left stop → MayCome following stop → IsOfFollower (status_at stop)
answer_at budget before left (stops.Ended status) (inl line) may = let is = line.is in cc
answer_at budget before left (stops.Ended status) (inr (inl end)) may = subst IsOfFollower end.is (last_by IsOfFollower tt tt end.state end.rest)
answer_at budget before left (stops.Ended status) (inr (inr cut)) may = subst IsOfFollower cut.is tt
answer_at budget before left stops.ReadFault by may = tt
answer_at budget before left stops.DiskFault by may = absurd may
answer_at budget before left stops.PutFault by may = tt
answer_at budget before left stops.Memory by may = tt

-- ---- nothing is put before the end of the input

abbrev IsUnended : Status → Type 0
IsUnended status = (status ≡ ReadFault) ⊎ (status ≡ InputTooLong)

-- it isn't the status of a run that ended before
abbrev IsOver : Status → Type 0
IsOver ReadFault = ⊥
IsOver InputTooLong = ⊥
IsOver status = Unit {0}

over_whole : (status : Status) → IsOver status → IsUnended status → ⊥
over_whole status whole (inl is) = subst IsOver is whole
over_whole status whole (inr is) = subst IsOver is whole

over_at : (f : Followed) (lines : List (List ℕ)) (rest : List ℕ) → IsOver (told_at_end following (after_lines following (Going f) lines) rest).status
over_at f [] rest = last_by IsOver tt tt f rest
over_at f (line ∷ lines) rest = over_at (after_line standard f line) lines rest

-- the end of the input was reached, which ended the run so
end_reached : (f : Followed) (lines : List (List ℕ)) (rest : List ℕ) (stop : Stop Status) → MayPut stop → over.IsToldBy (told_at_end following (after_lines following (Going f) lines) rest) stop → IsOver (status_at stop)
end_reached f lines rest (stops.Ended status) may told = subst IsOver told (over_at f lines rest)
end_reached f lines rest stops.ReadFault may told = absurd may
end_reached f lines rest stops.DiskFault may told = absurd may
end_reached f lines rest stops.PutFault may told = tt
end_reached f lines rest stops.Memory may told = tt

silent_by : (f : Followed) (budget : ℕ) (left : Option (List ℕ)) (bytes : List ℕ) (lines later : List (List ℕ)) (stop : Stop Status) (extent : Extent Status) (old new : Shown)
    → IsFar following 2097152 f budget left bytes lines later stop extent → PutsLast extent old new → IsUnended (status_at stop) → new ≡ old
silent_by f budget left bytes lines later stop Whole old new far same unended = same
silent_by f budget left bytes lines later stop (Inside at) old new far same unended = same
silent_by f budget left bytes lines later stop (AtEnd rest at) old new far may unended =
    absurd (over_whole (status_at stop) (end_reached f lines rest stop (subst MayPut far.0 may) far.4) unended)

-- ---- the promise

-- what the run over lines says
pub record RunsLines (budget : ℕ) (f : Followed) (old new : Setting) (stop : Stop Status) : Type 0 where
  pub first : f ≡ nothing_followed
  pub ends : (input : List ℕ) → old.source.left ≡ Some input → over.EndsAs (told_by following 2097152 f input) (shown_of old.view) input budget new.source.left stop (shown_of new.view)
  pub by : EndsBy following budget old.source.left new.source.left stop
  pub may : MayCome following stop
  pub cause : lines.HasCause (faults_in old) (faults_in new) stop
  pub allows : Allows following puts_last 2097152 f budget old.source.left new.source.left stop (scene_of old.view tt) (scene_of new.view tt)
  pub places : new.places ≡ old.places

pub promised : (budget : ℕ) (f : Followed) (old new : Setting) (stop : Stop Status) (status : Status) → status ≡ status_at stop → RunsLines budget f old new stop → Promise follow_spec budget old new status
promised budget f old new stop status same ran = promise_reading follow_spec budget old new status refl (record {
  choice = tt;
  right = tt;
  ends = λ input knows is. ended input is;
  takes = λ input rest is left_is. let end = ended input is in record { within = end.within rest left_is; too_long = end.too_long rest left_is };
  full = λ cut input is. full_alone following follows_alone budget old.source.left new.source.left stop status same ran.by cut input is;
  in_vain = λ vain. absurd vain;
  read_to_end = read_alone following follows_alone budget old.source.left new.source.left stop status same ran.by;
  may_end = subst IsOfFollower (sym same) (answer_at budget old.source.left new.source.left stop ran.by ran.may);
  cause = cause_alone following follows_alone budget old.source.left new.source.left (faults_in old) (faults_in new) stop status same ran.by ran.may ran.cause;
  leaves = record {
    areas = ran.allows.allowed.0;
    silent = λ unended. silent_by f budget new.source.left ran.allows.bytes ran.allows.lines ran.allows.later stop ran.allows.extent (shown_of old.view) (shown_of new.view) ran.allows.far ran.allows.allowed.1
        (subst IsUnended same unended);
  };
  settles = λ settled no. settled_images old.view new.view settled (images_areas old.view new.view ran.allows.allowed.0);
  feeds = ran.places;
})
  where
    ended : (input : List ℕ) → old.source.left ≡ Some input → EndsAs (told_follow input) (shown_of old.view) input budget new.source.left status (shown_of new.view)
    ended input is =
        ends_alone following follows_alone budget old.source.left new.source.left (told_by following 2097152 nothing_followed input) (told_follow input) (told_by_following input)
        (shown_of old.view) (shown_of new.view) input stop status is same ran.by
        (subst (λ (g : Followed). over.EndsAs (told_by following 2097152 g input) (shown_of old.view) input budget new.source.left stop (shown_of new.view)) ran.first (ran.ends input is))
