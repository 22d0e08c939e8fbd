-- What a run of `apply` leaves at every moment, and what its feeds took.
use Rattle.std.specs.Prelude.{◌≡◌, ◌⊎◌, ℕ, ◌+◌, List, [], ◌∷◌, ◌++◌, length, Ok}
use Rattle.std.specs.List.{concat}
use Rattle.pgs_feed.specs.Given.{AreGiven}
use Rattle.pgs_feed.specs.Places.{Place}
use Rattle.pgs_run_lines.specs.Pieces.{Shown, ShowsAll, shown_of}
use Rattle.pgs_snapshot.specs.Choice.{chosen_area, chosen_epoch}
use Rattle.pgs_snapshot.specs.Saved.{saved, store}
use Rattle.pgs_violation.specs.declared.violation.Verdict.TheVariants.{Conforms}
use Rattle.pgs_violation.specs.Violations.{verdict}
use Rattle.pgs_world.specs.World.{Triple, View}
use Rattle.pgs_command.specs.declared.status.Status.{Status}
use Rattle.pgs_command.specs.declared.status.Status.TheVariants.{Accepted, Refused, DiskFault, PutFault}
use Rattle.pgs_run_input.specs.Answers.{schema_answer}
use Rattle.pgs_run_input.specs.Session.{Standing, standard, every_verdict, pieces_of_line}
use Rattle.pgs_run_store.specs.Refusing.{SavedStore}
use Rattle.pgs_run_apply.specs.Committing.{feed_lines}
use Rattle.pgs_run_apply.specs.Told.{start, after, verdicts, all_lines, lost_pieces}

-- the two images save this store
pub record Saves (it : SavedStore) (triple : Triple) : Type 0 where
  pub saves : saved standard triple.a triple.b ≡ store it.text it.commits it.graph
  pub schema : schema_answer it.text ≡ Ok it.schema

-- the two images save the store with the graph and the commits of this standing, which conforms
pub record SavesAt (it : SavedStore) (at : Standing) (triple : Triple) : Type 0 where
  pub saves : saved standard triple.a triple.b ≡ store it.text at.commits at.graph
  pub conforms : verdict it.schema at.graph ≡ Conforms

-- they save the store after the next line too, and of that line's piece this front is out
pub record SavesNext (it : SavedStore) (until later : List (List ℕ)) (front : List ℕ) (triple : Triple) : Type 0 where
  pub line : List ℕ
  pub more : List (List ℕ)
  pub next : later ≡ line ∷ more
  pub back : List ℕ
  pub piece : pieces_of_line every_verdict (verdict it.schema) (after it until) line ≡ (front ++ back) ∷ []
  pub saves : SavesAt it (after it (until ++ line ∷ [])) triple

-- they save the store after all lines, and of the line of the lost feeds this front is out
pub record SavesAll (it : SavedStore) (lost : ℕ) (until later : List (List ℕ)) (front : List ℕ) (triple : Triple) : Type 0 where
  pub all : later ≡ []
  pub back : List ℕ
  pub piece : lost_pieces lost ≡ (front ++ back) ∷ []
  pub saves : SavesAt it (after it until) triple

-- A stop leaves the store after the accepted ones of some first lines, whose verdict lines are all out behind the output that there
-- was; or after one line more, of whose verdict line a front is out; or after all lines, where a front of the last piece is out. So as
-- many transactions are saved as `committed` lines are out whole, or one more. The images choose the area and the epoch that were chosen.
pub record IsAppliedAt (was : Triple) (it : SavedStore) (input : List ℕ) (lost : ℕ) (triple : Triple) : Type 0 where
  pub until : List (List ℕ)
  pub later : List (List ℕ)
  pub parts : all_lines input ≡ until ++ later
  pub front : List ℕ
  pub out : triple.output ≡ was.output ++ (concat (verdicts it until) ++ front)
  pub state : ((front ≡ []) × SavesAt it (after it until) triple)
      ⊎ (SavesNext it until later front triple ⊎ SavesAll it lost until later front triple)
  pub area : chosen_area triple.a triple.b ≡ chosen_area was.a was.b
  pub epoch : chosen_epoch triple.a triple.b ≡ chosen_epoch was.a was.b

-- The images save the store at this standing, in the area and of the epoch that were chosen.
pub record SavesOn (it : SavedStore) (at : Standing) (was triple : Triple) : Type 0 where
  pub saves : SavesAt it at triple
  pub area : chosen_area triple.a triple.b ≡ chosen_area was.a was.b
  pub epoch : chosen_epoch triple.a triple.b ≡ chosen_epoch was.a was.b

-- they save the store after some lines, each decided on the graph after the accepted ones before it
pub record IsGrown (it : SavedStore) (was triple : Triple) : Type 0 where
  pub lines : List (List ℕ)
  pub saves : SavesOn it (after it lines) was triple

-- What was put where these first lines were decided, by the status. After a whole input they are all lines, and what they tell was put, and
-- the last piece where feeds are lost. Where a put failed it was that of what the last of them tells, or behind all lines that of the last
-- piece. Else exactly what they tell was put.
abbrev pub IsPutBy : SavedStore → (until later : List (List ℕ)) → (lost : ℕ) → (start now : Shown) → Status → Type 0
IsPutBy it until later lost start now Accepted = (later ≡ []) × ShowsAll start (verdicts it until ++ lost_pieces lost) now
IsPutBy it until later lost start now Refused = (later ≡ []) × ShowsAll start (verdicts it until ++ lost_pieces lost) now
IsPutBy it until later lost start now PutFault =
    (now.puts + 1 ≡ start.puts + length (verdicts it until))
    ⊎ ((later ≡ []) × (now.puts + 1 ≡ start.puts + length (verdicts it until ++ lost_pieces lost)))
IsPutBy it until later lost start now status = ShowsAll start (verdicts it until) now

-- How a run ends: some first lines were decided, those whose verdict lines were put, also one whose put failed. Feeds took exactly the feed
-- lines of the accepted ones among them; and unless an area failed, the areas as read save the store after them.
pub record IsDecided (it : SavedStore) (input : List ℕ) (lost : ℕ) (old new : View) (old_places new_places : List Place)
    (status : Status) : Type 0 where
  pub until : List (List ℕ)
  pub later : List (List ℕ)
  pub parts : all_lines input ≡ until ++ later
  pub put : IsPutBy it until later lost (shown_of old) (shown_of new) status
  pub given : AreGiven (feed_lines (verdict it.schema) (start it) until) old_places new_places
  pub saves : (status ≡ DiskFault → ⊥) → SavesOn it (after it until) old.shown new.shown
