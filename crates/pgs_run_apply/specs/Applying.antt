-- The command `apply` behind the opening of its store, as a machine over lines, and what it may do to a world and to feeds.
use Rattle.std.specs.Prelude.{◌≡◌, ◌⊎◌, ◌<◌, ◌^◌, ℕ, ◌+◌, Bool, true, false, IsTrue, List, [], ◌∷◌, ◌++◌, Option, Some, None}
use Rattle.std.specs.List.{concat}
use Rattle.pgs_feed.specs.Deliveries.{ListKind}
use Rattle.pgs_run_lines.specs.declared.stop.Stop.{Stop}
use Rattle.pgs_run_lines.specs.declared.stop.Stop.TheVariants as stops
use Rattle.pgs_run_lines.specs.Machine.{Machine, Going, Scene, Extent, Whole, Inside, AtEnd}
use Rattle.pgs_world.specs.Moment.{EachSince, Passes}
use Rattle.pgs_world.specs.World.{Triple, other}
use Rattle.pgs_command.specs.declared.status.Status.{Status}
use Rattle.pgs_command.specs.declared.status.Status.TheVariants as statuses
use Rattle.pgs_command.specs.Images.{KeepsArea}
use Rattle.pgs_run_apply.specs.Outcome.{IsPast, IsReached, IsSavedAt, outcome_of, outcome_of_all}
use Rattle.pgs_run_apply.specs.State.{ApplyState, status_after}

-- a fault of a read doesn't come of it
abbrev pub MayStop : Stop Status → Type 0
MayStop stops.ReadFault = ⊥
MayStop stop = Unit {0}

abbrev pub applying : Machine Status
applying = record {
  State = ApplyState;
  line = λ s line. record { pieces = (outcome_of s line).pieces; next = Going (outcome_of s line).state };
  rest = λ s line. record { pieces = (outcome_of s line).pieces; status = status_after (outcome_of s line).state.refused };
  cut = λ s. statuses.InputTooLong;
  MayStop = MayStop;
  HasRoom = λ lines s. s.number + lines < 2 ^ 64;
}

-- the lines of which something may be seen, and what stopped their taking
abbrev pub seen : List (List ℕ) → Extent Status → List (List ℕ)
seen lines Whole = lines
seen lines (Inside stop) = lines
seen lines (AtEnd rest stop) = lines ++ rest ∷ []

abbrev pub stop_in : Extent Status → Option (Stop Status)
stop_in Whole = None
stop_in (Inside stop) = Some stop
stop_in (AtEnd rest stop) = Some stop

-- no line was left undone
abbrev pub is_all : Option (Stop Status) → Bool
is_all None = true
is_all (Some (stops.Ended status)) = true
is_all stop = false

-- some first ones of these lines were done; all of them, where none was left
pub record AreReached (kind : ListKind) (s : ApplyState) (lines : List (List ℕ)) (all : Bool) (stop : Option (Stop Status))
    (old new : Scene kind.Feeds) : Type 0 where
  pub until : List (List ℕ)
  pub later : List (List ℕ)
  pub parts : lines ≡ until ++ later
  pub whole : all ≡ true → later ≡ []
  pub reached : IsReached kind (outcome_of_all s until) stop old new

-- the images hold the store after the next line too
pub record IsWithin (s : ApplyState) (later : List (List ℕ)) (told : Bool) (output : List ℕ) (triple : Triple) : Type 0 where
  pub line : List ℕ
  pub more : List (List ℕ)
  pub next : later ≡ line ∷ more
  pub past : IsPast (outcome_of s line) told output triple

-- Some first lines were done, and what they tell is out behind the output that there was; or the next one is too, but for its piece.
pub record IsLeft (s : ApplyState) (lines : List (List ℕ)) (told : Bool) (output : List ℕ) (triple : Triple) : Type 0 where
  pub until : List (List ℕ)
  pub later : List (List ℕ)
  pub parts : lines ≡ until ++ later
  pub state :
      let o = outcome_of_all s until in
      let out = output ++ concat o.pieces in
      IsSavedAt o.state told out triple ⊎ IsWithin o.state later told out triple

-- what the taking of lines may do to a world and to feeds
pub record Applies (kind : ListKind) (s : ApplyState) (lines : List (List ℕ)) (extent : Extent Status) (old new : Scene kind.Feeds)
    : Type 0 where
  pub passes : Passes old.view new.view
  pub reached : AreReached kind s (seen lines extent) (is_all (stop_in extent)) (stop_in extent) old new
  -- at every moment
  pub stops : IsTrue old.view.honest → IsTrue old.view.tells_bytes
      → EachSince (IsLeft s (seen lines extent) old.view.tells_output old.view.shown.output) old.view new.view
  pub beside : KeepsArea (other s.journal.area) old.view new.view
