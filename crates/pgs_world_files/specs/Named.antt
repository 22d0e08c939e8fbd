-- What a call on a file of a store answers, which has a name and a length that this run knows, by what the system gave.
use Rattle.std.specs.Prelude.{◌≡◌, ◌≢◌, ◌⊎◌, ℕ, ◌+◌, ◌^◌, ◌-◌, max, min, nat_lt, Bool, true, false, IsTrue, List, Result, Ok, Err, ⊤}
use Rattle.std.proofs.lemmas.Bool.{false≢true}
use Rattle.std.specs.declared.io.Error.{Error}
use Rattle.pgs_world_streams.specs.Given.{PlacedCall, BareCall}
use Rattle.pgs_world_files.specs.declared.store_file.StoreFile.{StoreFile}
use Rattle.pgs_world_files.specs.declared.store_file.Unsynced.{Unsynced}
use Rattle.pgs_world_files.specs.declared.store_file.Unsynced.TheVariants.{Nothing, BehindEnd, Within}
use Rattle.pgs_world_files.specs.Rewriting.{IsRewritten}

-- a question for the length
abbrev pub LengthCall : Type 0 → Type 1
LengthCall F = F → Result ℕ Error → F → Type 0

-- a question whether the file of the name is this one, of so many bytes
abbrev pub NameCall : Type 0 → Type 1
NameCall F = F → ℕ → Bool → F → Type 0

-- The open file was found to be as long as this run knows; else it is of another length, or that wasn't given.
abbrev pub LengthStands : {F : Type 0} → LengthCall F → ℕ → F → Bool → F → Type 0
LengthStands lengths known old true new = lengths old (Ok known) new
LengthStands lengths known old false new =
    ((error : Error) × lengths old (Err error) new) ⊎ ((len : ℕ) × lengths old (Ok len) new × (len ≢ known))

-- what the run knows of the file stays
abbrev pub KnowsTheSame : {F : Type 0} → StoreFile F → StoreFile F → Type 0
KnowsTheSame old new = (new.known ≡ old.known) × (new.unsynced ≡ old.unsynced)

-- what isn't synced behind a write, which began within the file or behind its end
abbrev pub unsynced_with : Unsynced → Bool → Unsynced
unsynced_with before true = Within
unsynced_with Within false = Within
unsynced_with before false = BehindEnd

-- The run knows that so many bytes were written at a place, and the file reaches behind them; or that none were.
abbrev pub KnowsOfWrite : {F : Type 0} → StoreFile F → ℕ → Result ℕ Error → StoreFile F → Type 0
KnowsOfWrite old at (Ok count) new =
    (new.known ≡ max old.known (min (at + count) (2 ^ 64 - 1))) × (new.unsynced ≡ unsynced_with old.unsynced (nat_lt at old.known))
KnowsOfWrite old at (Err _) new = KnowsTheSame old new

-- a fault was answered
abbrev pub IsNothing : Result ℕ Error → Type 0
IsNothing (Ok _) = ⊥
IsNothing (Err _) = ⊤

-- The file was found to be as long as this run knows, and then it was written once. Else nothing was written, and that is a fault.
abbrev pub IsWritten : {F : Type 0} → LengthCall F → PlacedCall F → StoreFile F → ℕ → List ℕ → Result ℕ Error → StoreFile F → Type 0
IsWritten {F} lengths writes old at bytes answer new =
    ((mid : F) × LengthStands lengths old.known old.file true mid × writes mid at bytes answer new.file × KnowsOfWrite old at answer new)
    ⊎ (LengthStands lengths old.known old.file false new.file × IsNothing answer × KnowsTheSame old new)

-- The same of a cut.
abbrev pub IsCut : {F : Type 0} → LengthCall F → (F → ℕ → Bool → F → Type 0) → StoreFile F → ℕ → Bool → StoreFile F → Type 0
IsCut {F} lengths cuts old len true new =
    (mid : F) × LengthStands lengths old.known old.file true mid × cuts mid len true new.file × (new.known ≡ len) × (new.unsynced ≡ Within)
IsCut {F} lengths cuts old len false new =
    KnowsTheSame old new
    × (LengthStands lengths old.known old.file false new.file ⊎ ((mid : F) × LengthStands lengths old.known old.file true mid × cuts mid len false new.file))

-- The file was found to be the one of its name, as long as this run knows. Behind writes that all began behind the end of the file it isn't
-- looked at: what they wrote belongs to the store only once a later write has opened it.
abbrev pub IsLookedAt : {F : Type 0} → NameCall F → Unsynced → ℕ → F → F → Type 0
IsLookedAt names BehindEnd known mid new = new ≡ mid
IsLookedAt names unsynced known mid new = names mid known true new

-- The bytes were synced, and then the file was looked at. Else the sync failed, and then a byte of each block was written again; or the look
-- found another file, or another length.
abbrev pub SyncIs : {F : Type 0} → BareCall F → NameCall F → (F → F → Type 0) → LengthCall F → PlacedCall F → PlacedCall F → StoreFile F → Bool → StoreFile F → Type 0
SyncIs {F} syncs names reopens lengths reads writes old true new =
    (mid : F) × syncs old.file true mid × IsLookedAt names old.unsynced old.known mid new.file × (new.known ≡ old.known) × (new.unsynced ≡ Nothing)
SyncIs {F} syncs names reopens lengths reads writes old false new =
    KnowsTheSame old new
    × (((mid : F) × syncs old.file false mid × IsRewritten reopens lengths reads writes mid new.file)
    ⊎ ((mid : F) × syncs old.file true mid × names mid old.known false new.file))

-- of a file that tells nothing anything can be said of what it tells
pub tells_nothing : {P : Type 0} → IsTrue false → P
tells_nothing tells = absurd (false≢true tells)
