-- What a reading beside a writer may meet: the images of an area in which records are appended.
use Rattle.std.specs.Prelude.{◌≡◌, ◌⊎◌, ℕ, ◌+◌, ◌<◌, List, [], ◌∷◌, length, take, drop, Option}
use Rattle.pgs_codec.specs.Frame.{framed}
use Rattle.pgs_world.specs.Answers.{Answer, Answers}
use Rattle.pgs_world.specs.Disk.{IsTorn}
use Rattle.pgs_journal.specs.Format.{Holds}
use Rattle.pgs_world.specs.declared.area_limit.TheConstants.{AREA_LIMIT}

-- behind the gate at this place the frame of a record with the next number stands, and ends below 2^40
pub record HasFrame (next : Option ℕ) (end : ℕ) (image : List ℕ) : Type 0 where
  pub payload : List ℕ
  pub stands : take (length (framed next payload)) (drop (end + 1) image) ≡ framed next payload
  pub below : end + length (framed next payload) < AREA_LIMIT

-- One of the two writes of an append, done whole or in part: bytes behind the closed gate of the records that the area holds, or, where a
-- frame stands there, that gate.
pub record IsAppending (old new : List ℕ) : Type 0 where
  pub next : Option ℕ
  pub epoch : ℕ
  pub payloads : List (List ℕ)
  pub end : ℕ
  pub holds : Holds next epoch payloads end old
  pub below : end < AREA_LIMIT
  pub write : ((size : ℕ) × IsTorn (end + 1) size old new) ⊎ (HasFrame next end old × IsTorn end 1 old new)

-- any number of them, one after the other: of one append or of several, also of those that failed, and of later runs
pub data AreAppended : List ℕ → List ℕ → Type 0 where
  none_appended : {image : List ℕ} → AreAppended image image
  more_appended : {old mid new : List ℕ} → IsAppending old mid → AreAppended mid new → AreAppended old new

-- Answers that were given while records were appended, from an area of the first image on: before each answer the area went on so, and the last
-- answer is of the last image.
abbrev pub AreGivenBeside : List ℕ → List Answer → List ℕ → Type 0
AreGivenBeside first [] last = last ≡ first
AreGivenBeside first (answer ∷ answers) last =
    (now : List ℕ) × AreAppended first now × Answers now answer × AreGivenBeside now answers last

-- where the area held records up to this place, it goes on so
abbrev pub GoesOn : Option ℕ → ℕ → ℕ → List ℕ → List ℕ → Type 0
GoesOn next epoch end old new = (payloads : List (List ℕ)) → Holds next epoch payloads end old → AreAppended old new
