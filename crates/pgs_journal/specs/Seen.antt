-- What bytes that were read of an area tell, whatever stands behind them.
use Rattle.std.specs.Prelude.{◌≡◌, ℕ, ◌+◌, ◌≤◌, ◌<◌, Bool, true, false, IsTrue, List, [], ◌∷◌, ◌++◌, length, slice_index, take, drop, nat_lt, if◌then◌else◌}
use Rattle.pgs_world.specs.declared.area.Area.{Area}
use Rattle.pgs_world.specs.Answers.{Answer, Long, Read, Answers, Answered}
use Rattle.pgs_world.specs.World.{View, part}
use Rattle.pgs_journal.specs.declared.area_state.AreaState.{AreaState}
use Rattle.pgs_journal.specs.declared.format.Format.{Format}
use Rattle.pgs_journal.specs.Area.{is_fit, is_sound}
use Rattle.pgs_journal.specs.Format.{is_epoch, record_body, opened}
use Rattle.pgs_journal.specs.Reading.{Torn, record_of}
use Rattle.pgs_journal.specs.Told.{told_by, Begins, AreInTurn, EndsWith, IsStateOf, IsMadeBy}
use Rattle.pgs_world.specs.declared.area_limit.TheConstants.{AREA_LIMIT}

-- where the world tells its bytes, an area has so many
abbrev pub HasLength : View → Area → ℕ → Type 0
HasLength view area len = IsTrue view.tells_bytes → len ≡ length (part area view.shown)

-- where it does, these stand in the area from this place on
abbrev pub Stand : View → Area → ℕ → List ℕ → Type 0
Stand view area at bytes = IsTrue view.tells_bytes → take (length bytes) (drop at (part area view.shown)) ≡ bytes

-- where it does, these are answers of the area
abbrev pub AreOf : List ℕ → List Answer → Type 0
AreOf image [] = Unit {0}
AreOf image (answer ∷ answers) = Answers image answer × AreOf image answers

abbrev pub AreShown : View → Area → List Answer → Type 0
AreShown view area answers = IsTrue view.tells_bytes → AreOf (part area view.shown) answers

-- The first 17 bytes of an area: an open gate, the head of a store of this format and epoch, and the first record's gate.
pub record IsFront (format : Format) (epoch : ℕ) (front : List ℕ) : Type 0 where
  pub numbered : IsTrue (is_epoch epoch)
  pub spelled : front ≡ opened format epoch [] ++ slice_index front 16 ∷ []

-- the answers by which they are read
abbrev pub front_answers : ℕ → List ℕ → List Answer
front_answers len front = if nat_lt len 17 then Long len ∷ [] else Long len ∷ Read 0 front ∷ []

-- the length was asked, and is this, or nothing was asked
abbrev pub length_answers : Bool → ℕ → List Answer
length_answers false len = []
length_answers true len = Long len ∷ []

-- from one world to another, which show the same, no more was asked of an area than its length, and surely that where a place isn't within
pub record IsAsked {W : Type 0} (made : W → Area → Answer → W → Type 0) (view : View) (area : Area) (len : ℕ) (within : Bool) (old new : W) : Type 0 where
  pub asked : Bool
  pub answered : Answered made area old (length_answers asked len) new
  pub shown : AreShown view area (length_answers asked len)
  pub surely : within ≡ false → asked ≡ true

-- from one world to another, which show the same, these bytes were told of an area from a place on, by answers in turn
pub record IsTold {W : Type 0} (made : W → Area → Answer → W → Type 0) (view : View) (area : Area) (old new : W) (MayGoOn : List ℕ → Type 0) (at : ℕ) (bytes : List ℕ) : Type 0 where
  pub answers : List Answer
  pub answered : Answered made area old answers new
  pub shown : AreShown view area answers
  pub in_turn : AreInTurn MayGoOn at [] answers
  pub told : told_by answers ≡ bytes

-- Bytes were told that decide P: what stands from the place on has it in each area that they stand in and of which the last answer is.
pub record IsSettled {W : Type 0} (made : W → Area → Answer → W → Type 0) (view : View) (area : Area) (old new : W) (MayGoOn : List ℕ → Type 0) (at : ℕ) (P : List ℕ → Type 0) : Type 0 where
  pub bytes : List ℕ
  pub told : IsTold made view area old new MayGoOn at bytes
  pub within : at + length bytes ≤ AREA_LIMIT
  pub alone : P bytes
  pub each : (image : List ℕ) → EndsWith told.answers image → Begins bytes (drop at image) → P (drop at image)

-- what stands behind an open gate is no whole record of this number
abbrev pub IsTorn : Format → ℕ → List ℕ → Type 0
IsTorn format number rest = record_of format number rest ≡ Torn

-- nor one that is fit for its place
abbrev pub IsUnsound : Format → ℕ → ℕ → List ℕ → Type 0
IsUnsound format epoch number rest = is_sound format epoch number (record_of format number rest) ≡ false

-- A record of this number and the gate behind it were told, behind an open gate before this place, and the record is fit for its place.
pub record IsRead {W : Type 0} (made : W → Area → Answer → W → Type 0) (view : View) (area : Area) (old new : W) (format : Format) (epoch number at : ℕ) (payload : List ℕ) (gate : ℕ) : Type 0 where
  pub told : IsTold made view area old new (IsTorn format number) at (record_body format number payload ++ gate ∷ [])
  pub within : at + length (record_body format number payload) < AREA_LIMIT
  pub fit : is_fit format epoch number payload ≡ true

-- Behind these first bytes of an area answers were given that make this state, which is also that of some bytes within 2^40.
pub record IsScanned {W : Type 0} (made : W → Area → Answer → W → Type 0) (view : View) (area : Area) (old new : W) (len : ℕ) (front : List ℕ) (state : AreaState) : Type 0 where
  pub answers : List Answer
  pub answered : Answered made area old answers new
  pub shown : AreShown view area answers
  pub made_by : IsMadeBy (front_answers len front ++ answers) state
  pub image : List ℕ
  pub limit : length image ≤ AREA_LIMIT
  pub state_of : IsStateOf state image
