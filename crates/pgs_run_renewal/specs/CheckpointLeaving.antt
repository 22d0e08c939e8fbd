-- What a run of `checkpoint` leaves of the world, at every moment and at its end.
use Rattle.std.specs.Prelude.{◌≡◌, ◌⊎◌, ℕ, ◌+◌, List, [], ◌∷◌, ◌++◌, IsTrue, Some}
use Rattle.pgs_base.specs.Graph.{Graph}
use Rattle.pgs_codec.specs.declared.command.Command.TheVariants.{Schema, Snapshot}
use Rattle.pgs_codec.specs.Payload.{payload_of}
use Rattle.pgs_run_lines.specs.Machine.{Told}
use Rattle.pgs_run_lines.specs.Pieces.{ShowsAll, shown_of}
use Rattle.pgs_snapshot.specs.Choice.{choice_of, chosen, chosen_area, chosen_epoch}
use Rattle.pgs_snapshot.specs.Saved.{SavedState, saved, store}
use Rattle.pgs_world.specs.declared.area.Area.{Area}
use Rattle.pgs_world.specs.Moment.{EachSince, IsSettled, Passes}
use Rattle.pgs_world.specs.World.{Triple, View, other}
use Rattle.pgs_command.specs.declared.status.Status.{Status}
use Rattle.pgs_command.specs.declared.status.Status.TheVariants.{Accepted, DiskFault, PutFault}
use Rattle.pgs_command.specs.Areas.{areas_of}
use Rattle.pgs_command.specs.Images.{IsUnwritten, KeepsArea, KeepsImages}
use Rattle.pgs_run_input.specs.Session.{standard}
pub use Rattle.pgs_run_store.specs.Spec.{IsUnput}
use Rattle.pgs_run_renewal.specs.CheckpointTold.{told_checkpoint}

-- what two images save
abbrev pub saved_there : Triple → SavedState
saved_there c = saved standard c.a c.b

abbrev pub IsStore : SavedState → Type 0
IsStore state = (text : List ℕ) × (commits : ℕ) × (graph : Graph) × (state ≡ store text commits graph)

-- the records with which a store begins anew: the schema's text and the snapshot alone
abbrev pub records_of : SavedState → List (List ℕ)
records_of (store text commits graph) = payload_of (Schema text) ∷ payload_of (Snapshot commits graph.nodes graph.edges) ∷ []
records_of state = []

-- the area and the epoch that are chosen are those of the start
pub record IsAsBefore (start c : Triple) : Type 0 where
  pub area : chosen_area c.a c.b ≡ chosen_area start.a start.b
  pub epoch : chosen_epoch c.a c.b ≡ chosen_epoch start.a start.b

-- the other area is chosen, with the next epoch, and its records are the new ones, in the second format
pub record IsRenewed (start c : Triple) : Type 0 where
  pub area : Area
  pub epoch : ℕ
  pub end : ℕ
  pub was_area : chosen_area start.a start.b ≡ Some area
  pub was_epoch : chosen_epoch start.a start.b ≡ Some epoch
  pub choice : choice_of c.a c.b ≡ chosen (other area) (epoch + 1) end (Some 3) (records_of (saved_there start))

-- the output of a triple that a stop could leave at the start, and then a front of the one line that is told
pub record PutsFront (told : Told Status) (start : View) (c : Triple) : Type 0 where
  pub line : List ℕ
  pub one : told.pieces ≡ line ∷ []
  pub left : Triple
  pub before : start.may_leave left
  pub front : List ℕ
  pub back : List ℕ
  pub parts : line ≡ front ++ back
  pub output : c.output ≡ left.output ++ front

-- A stop leaves what was saved at the start, and a front of the line that is told. What is chosen is as at the start, or renewed; and it is
-- renewed where the whole line of a checkpoint is in the output.
pub record StopsRenewing (start : View) (c : Triple) : Type 0 where
  pub puts : PutsFront (told_checkpoint (areas_of start)) start c
  pub saves : saved_there c ≡ saved_there start.shown
  pub chosen_as : IsAsBefore start.shown c ⊎ IsRenewed start.shown c
  pub whole : puts.back ≡ [] → (told_checkpoint (areas_of start)).status ≡ Accepted → IsRenewed start.shown c

-- Where a line with this status was being put: behind a checkpoint the renewed store is chosen, and behind a refusal both areas are as before.
abbrev pub IsTorn : Status → View → View → Type 0
IsTorn Accepted old new = IsRenewed old.shown new.shown
IsTorn status old new = KeepsImages old new

pub record LeavesRenewed (old new : View) (status : Status) : Type 0 where
  pub passes : Passes old new
  pub stops : IsSettled old → IsStore (saved_there old.shown) → EachSince (StopsRenewing old) old new
  -- where no store is saved, and with most statuses, both areas are as they were at every moment; and the area that is chosen always is
  pub unsaved : IsTrue old.tells_bytes → (IsStore (saved_there old.shown) → ⊥) → KeepsImages old new
  pub unwritten : IsUnwritten status → KeepsImages old new
  pub beside : IsTrue old.tells_bytes → (area : Area) → chosen_area old.shown.a old.shown.b ≡ Some area → KeepsArea area old new
  -- Unless an area failed, the same is saved at the end; and where the line of a checkpoint was put, the renewed store is chosen.
  pub kept : IsTrue old.tells_bytes → (status ≡ DiskFault → ⊥) → saved_there new.shown ≡ saved_there old.shown
  pub renewed : IsTrue old.tells_bytes → status ≡ Accepted → IsRenewed old.shown new.shown
  -- the same where the put of that line failed, and of that one alone
  pub torn : IsTrue old.tells_bytes → status ≡ PutFault → IsTorn (told_checkpoint (areas_of old)).status old new
  -- want of memory comes before the line is put
  pub unput : IsUnput status → ShowsAll (shown_of old) [] (shown_of new)
