-- What answers of an area told of it, and the state that they make.
use Rattle.std.specs.Prelude.{◌≡◌, ◌⊎◌, ℕ, ◌+◌, false, List, [], ◌∷◌, ◌++◌, length, take, drop}
use Rattle.pgs_world.specs.Answers.{Answer, Long, Read, Answers}
use Rattle.pgs_journal.specs.declared.area_state.AreaState.{AreaState}
use Rattle.pgs_journal.specs.declared.format.Format.{Format}
use Rattle.pgs_journal.specs.declared.head.Head.TheVariants as heads
use Rattle.pgs_journal.specs.Area.{head_of, area_state, HoldsStore}
use Rattle.pgs_journal.specs.Reading.{records_in}

-- the bytes of an answer, and of several in order
abbrev pub bytes_in : Answer → List ℕ
bytes_in (Long len) = []
bytes_in (Read at bytes) = bytes

abbrev pub told_by : List Answer → List ℕ
told_by [] = []
told_by (answer ∷ answers) = bytes_in answer ++ told_by answers

-- an area of this image begins with these bytes
abbrev pub Begins : List ℕ → List ℕ → Type 0
Begins bytes image = take (length bytes) image ≡ bytes

-- an answer that isn't a length is of bytes from this place on
abbrev pub IsFrom : ℕ → Answer → Type 0
IsFrom place (Long len) = Unit {0}
IsFrom place (Read at bytes) = at ≡ place

-- Answers behind bytes that were told from a place on: each comes where what was told may go on, and each read begins where that ends.
abbrev pub AreInTurn : (List ℕ → Type 0) → ℕ → List ℕ → List Answer → Type 0
AreInTurn MayGoOn at told [] = Unit {0}
AreInTurn MayGoOn at told (answer ∷ answers) =
    MayGoOn told × IsFrom (at + length told) answer × AreInTurn MayGoOn at (told ++ bytes_in answer) answers

-- the first bytes of an area with the head of a store, in which no gate is closed
pub record IsUnended (told : List ℕ) : Type 0 where
  pub format : Format
  pub epoch : ℕ
  pub head : head_of told ≡ heads.Store format epoch
  pub unended : (records_in format (drop 16 told)).ended ≡ false

-- Nothing was told yet, or no closed gate. So no answer is asked for behind a closed gate, nor behind one that isn't told yet.
abbrev pub IsOpenYet : List ℕ → Type 0
IsOpenYet told = (told ≡ []) ⊎ IsUnended told

-- the last of these answers is one of an area of this image
abbrev pub EndsWith : List Answer → List ℕ → Type 0
EndsWith [] image = Unit {0}
EndsWith (answer ∷ []) image = Answers image answer
EndsWith (answer ∷ next ∷ answers) image = EndsWith (next ∷ answers) image

-- an area of these bytes is in this state, and where that is a store, they hold its records
pub record IsStateOf (it : AreaState) (image : List ℕ) : Type 0 where
  pub state : it ≡ area_state image
  pub holds : HoldsStore it image

-- These answers, in turn, make this state: it is that of each area that begins with all the bytes that they told and of which the last answer is.
pub record IsMadeBy (answers : List Answer) (state : AreaState) : Type 0 where
  pub in_turn : AreInTurn IsOpenYet 0 [] answers
  pub decided : (image : List ℕ) → Begins (told_by answers) image → EndsWith answers image → IsStateOf state image
