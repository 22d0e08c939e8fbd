-- The follower as a command: the one word `follow`; other words are refused.
use Rattle.std.specs.Prelude.{◌≡◌, ◌⊎◌, ℕ, Bool, true, false, List, []}
use Rattle.pgs_answer.specs.Lines.{words_refused_line}
use Rattle.pgs_run_lines.specs.AreasKept.{KeepsAreas}
use Rattle.pgs_run_lines.specs.Pieces.{shown_of}
use Rattle.pgs_world.specs.World.{View}
use Rattle.pgs_command.specs.declared.status.Status.{Status}
use Rattle.pgs_command.specs.declared.status.Status.TheVariants.{Accepted, Refused, BadWords, SchemaRefused, StoreRefused, DiskFault, ReadFault, PutFault, Memory, InputTooLong}
use Rattle.pgs_command.specs.Spec.{CommandSpec}
use Rattle.pgs_command.specs.Words.{refused_words}
use Rattle.pgs_run_follow.specs.declared.status.FollowStatus.{FollowStatus}
use Rattle.pgs_run_follow.specs.declared.status.FollowStatus.TheVariants as ends
use Rattle.pgs_run_follow.specs.Told.{is_follow, told_follow}

-- the statuses of a run that follows
abbrev pub IsOfFollower : Status → Type 0
IsOfFollower BadWords = ⊥
IsOfFollower SchemaRefused = ⊥
IsOfFollower StoreRefused = ⊥
IsOfFollower DiskFault = ⊥
IsOfFollower status = Unit {0}

-- both areas are as they were, and with 6 and 9 nothing was put, whatever the source tells
pub record LeavesFollowed (old new : View) (status : Status) : Type 0 where
  pub areas : KeepsAreas old new
  pub silent : (status ≡ ReadFault) ⊎ (status ≡ InputTooLong) → shown_of new ≡ shown_of old

abbrev pub follow_spec : CommandSpec
follow_spec = record {
  Choice = Unit {0};
  told = λ choice input areas bytes lost. told_follow input bytes;
  IsRight = λ choice old budget status. Unit {0};
  reads_source = true;
  uses_areas = false;
  AsksAreas = λ input. ⊥;
  MayEnd = IsOfFollower;
  ReadsInVain = λ old status. ⊥;
  Leaves = λ old new status. LeavesFollowed old.view new.view status;
  Feeds = λ old new status. new.places ≡ old.places;
  Gives = λ old new status deliveries. deliveries ≡ [];
}

abbrev pub spec_where : (follows : Bool) → CommandSpec
spec_where true = follow_spec
spec_where false = refused_words words_refused_line

abbrev pub spec_for : (words : List (List ℕ)) → CommandSpec
spec_for words = spec_where (is_follow words)

-- how the program ended, as a status of a command
abbrev pub status_of : FollowStatus → Status
status_of ends.Accepted = Accepted
status_of ends.Refused = Refused
status_of ends.BadWords = BadWords
status_of ends.ReadFault = ReadFault
status_of ends.PutFault = PutFault
status_of ends.Memory = Memory
status_of ends.InputTooLong = InputTooLong
