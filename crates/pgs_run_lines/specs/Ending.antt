-- How a run ends: what the world shows, and the causes of its faults.
use Rattle.std.specs.Prelude.{◌≡◌, ℕ, List, Result, Ok, Err}
use Rattle.pgs_world.specs.Count.{RoseByOne}
use Rattle.pgs_world.specs.World.{View}
use Rattle.pgs_run_lines.specs.declared.stop.Stop.{Stop}
use Rattle.pgs_run_lines.specs.declared.stop.Stop.TheVariants as stops
use Rattle.pgs_run_lines.specs.Machine.{Told}
use Rattle.pgs_run_lines.specs.Pieces.{Shown, ShowsAll, ShowsFirst, ShowsTorn}

-- What is shown of these pieces where a run stops: all at an end of the machine's own. After a fault of a put some first
-- pieces, and a front of the next; after the other faults, and after want of memory, some first pieces, whole.
abbrev pub Shows : {E : Type 0} → Shown → List (List ℕ) → Stop E → Shown → Type 0
Shows start pieces (stops.Ended status) now = ShowsAll start pieces now
Shows start pieces stops.ReadFault now = ShowsFirst start pieces now
Shows start pieces stops.DiskFault now = ShowsFirst start pieces now
Shows start pieces stops.PutFault now = ShowsTorn start pieces now
Shows start pieces stops.Memory now = ShowsFirst start pieces now

-- the same of what is told, whose status is that of an end of the machine's own
abbrev pub Ends : {E : Type 0} → Shown → Told E → Stop E → Shown → Type 0
Ends start told (stops.Ended status) now = ShowsAll start told.pieces now × (told.status ≡ status)
Ends start told stops.ReadFault now = ShowsFirst start told.pieces now
Ends start told stops.DiskFault now = ShowsFirst start told.pieces now
Ends start told stops.PutFault now = ShowsTorn start told.pieces now
Ends start told stops.Memory now = ShowsFirst start told.pieces now

-- counts of faults: of reads, of calls on the areas, of puts
pub record Faults : Type 0 where
  pub reads : ℕ
  pub areas : ℕ
  pub puts : ℕ

abbrev pub faults_of : ℕ → View → Faults
faults_of reads view = record { reads = reads; areas = view.area_faults; puts = view.put_faults }

-- one count of faults rose, and the others are as before
abbrev pub ReadsRose : Faults → Faults → Type 0
ReadsRose before now = RoseByOne before.reads now.reads × (now.areas ≡ before.areas) × (now.puts ≡ before.puts)

abbrev pub AreasRose : Faults → Faults → Type 0
AreasRose before now = RoseByOne before.areas now.areas × (now.reads ≡ before.reads) × (now.puts ≡ before.puts)

abbrev pub PutsRose : Faults → Faults → Type 0
PutsRose before now = RoseByOne before.puts now.puts × (now.reads ≡ before.reads) × (now.areas ≡ before.areas)

-- a fault that stops the run came, and no other
abbrev pub HasCause : {E : Type 0} → Faults → Faults → Stop E → Type 0
HasCause before now (stops.Ended status) = now ≡ before
HasCause before now stops.ReadFault = ReadsRose before now
HasCause before now stops.DiskFault = AreasRose before now
HasCause before now stops.PutFault = PutsRose before now
HasCause before now stops.Memory = now ≡ before

-- the same where the run may go on
abbrev pub HasAnyCause : {T E : Type 0} → Faults → Faults → Result T (Stop E) → Type 0
HasAnyCause before now (Ok done) = now ≡ before
HasAnyCause before now (Err stop) = HasCause before now stop
