-- What every world says of its calls.
use Rattle.std.specs.Prelude.{◌≡◌, ℕ, ◌+◌, ◌≤◌, List, length, take, drop, Result, IsTrue, OnOk, OnErr}
use Rattle.pgs_world.specs.declared.area.Area.{Area}
use Rattle.pgs_world.specs.Count.{Rose, RoseByOne}
use Rattle.pgs_world.specs.Disk.{written_over}
use Rattle.pgs_world.specs.Moment.{ShowsOne, MakesNoPut}
use Rattle.pgs_world.specs.World.{View, part}

-- where the bytes are told, the area has so many, or more
abbrev pub Reaches : Area → ℕ → View → Type 0
Reaches area len view = IsTrue view.tells_bytes → len ≤ length (part area view.shown)

-- where the bytes are told, the area has exactly so many
abbrev pub HasLength : Area → ℕ → View → Type 0
HasLength area count view = IsTrue view.tells_bytes → count ≡ length (part area view.shown)

-- where the bytes are told, so many of the area from this place on are these
abbrev pub HasBytes : Area → ℕ → ℕ → List ℕ → View → Type 0
HasBytes area at count bytes view = IsTrue view.tells_bytes → bytes ≡ take count (drop at (part area view.shown))

-- where the bytes are told, the area became what it was with the piece written over it at this place
abbrev pub IsWrittenOver : Area → ℕ → List ℕ → View → View → Type 0
IsWrittenOver area at piece old new =
    IsTrue old.tells_bytes → part area new.shown ≡ written_over (part area old.shown) at piece

-- where the bytes are told, the area became what it was up to this length
abbrev pub IsCutTo : Area → ℕ → View → View → Type 0
IsCutTo area len old new = IsTrue old.tells_bytes → part area new.shown ≡ take len (part area old.shown)

-- of each call on an area
pub record IsAreaCall {A F : Type 0} (old : View) (answer : Result A F) (new : View) : Type 0 where
  pub moment : Rose old.moment new.moment
  pub image : ShowsOne new
  -- a fault is counted once, and nothing else is
  pub cause : OnErr answer (RoseByOne old.area_faults new.area_faults)
  pub no_cause : OnOk answer (new.area_faults ≡ old.area_faults)
  pub no_put : MakesNoPut old new

-- of each put, whatever it puts
pub record IsPutCall {A F : Type 0} (old : View) (answer : Result A F) (new : View) : Type 0 where
  pub moment : Rose old.moment new.moment
  pub image : ShowsOne new
  pub a : new.shown.a ≡ old.shown.a
  pub b : new.shown.b ≡ old.shown.b
  -- a fault is counted once, and a put that answers Ok too
  pub cause : OnErr answer (RoseByOne old.put_faults new.put_faults)
  pub no_cause : OnOk answer (new.put_faults ≡ old.put_faults)
  pub faults_stay : old.put_faults ≤ new.put_faults
  pub counted : OnOk answer (new.puts ≡ old.puts + 1)
  pub not_counted : OnErr answer (new.puts ≡ old.puts)
  pub no_area : new.area_faults ≡ old.area_faults
