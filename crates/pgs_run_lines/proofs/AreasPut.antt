-- A put keeps both areas.
use Rattle.std.proofs.Common.{◌≡◌, List, ℕ, IsTrue}
use Rattle.pgs_world.specs.Disk.{PutsFront}
use Rattle.pgs_world.specs.Moment.{Passes, StopsBy}
use Rattle.pgs_world.specs.World.{Triple, View}
use Rattle.pgs_run_lines.specs.AreasKept.{KeepsAreas}

pub keeps_put : (old new : View) (piece : List ℕ) → new.shown.a ≡ old.shown.a → new.shown.b ≡ old.shown.b → StopsBy (PutsFront piece) old new → Passes old new → new.area_faults ≡ old.area_faults → KeepsAreas old new
keeps_put old new piece a b stops passes area_faults =
    record { a = a; b = b; passes = passes; area_faults = area_faults; images = images }
  where
    images : IsTrue old.honest → (c : Triple) → new.left_since old.moment c → (d : Triple) × old.may_leave d × (c.a ≡ d.a) × (c.b ≡ d.b)
    images honest c left =
        let from = stops honest c left in
        (from.0, from.1, from.2.a, from.2.b)
