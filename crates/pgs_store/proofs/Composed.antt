-- A call that only reads, and then a call that writes one area.
use Rattle.std.proofs.Common.{refl, sym, ◌∙◌, subst}
use Rattle.pgs_world.specs.declared.area.Area.{Area}
use Rattle.pgs_world.specs.Disk.{IsSameBeside}
use Rattle.pgs_world.specs.Moment.{IsTimed, Passes, StopsBy, IsQuiet, MakesNoPut}
use Rattle.pgs_world.specs.World.{Triple, View}
use Rattle.pgs_world.proofs.Moments.{passes_on, quiet_none, quiet_stops}
use Rattle.pgs_store.specs.World.{StaysBeside}

same_beside : (area : Area) (triple : Triple) → IsSameBeside area triple triple
same_beside area triple = record { beside = refl; output = refl }

pub quiet_beside : (area : Area) (old new : View) → IsQuiet old new → MakesNoPut old new → StaysBeside area old new
quiet_beside area old new quiet no_put = record {
  passes = quiet.passes;
  shown = subst (λ (t : Triple). IsSameBeside area old.shown t) (sym quiet.shown) (same_beside area old.shown);
  stops = λ honest c left. (c, quiet.stops honest c left, same_beside area c);
  no_put = no_put;
}

pub none_beside : (area : Area) (view : View) → IsTimed view → StaysBeside area view view
none_beside area view timed = quiet_beside area view view (quiet_none view timed) (record { puts = refl; put_faults = refl })

pub then_beside : (area : Area) (old mid new : View) → IsQuiet old mid → MakesNoPut old mid → Passes mid new → IsSameBeside area mid.shown new.shown
    → StopsBy (IsSameBeside area) mid new → MakesNoPut mid new → StaysBeside area old new
then_beside area old mid new quiet none passes shown stops no_put = record {
  passes = passes_on old mid new quiet.passes passes;
  shown = subst (λ (t : Triple). IsSameBeside area t new.shown) quiet.shown shown;
  stops = quiet_stops old mid new (IsSameBeside area) (same_beside area) quiet passes stops;
  no_put = record { puts = no_put.puts ∙ none.puts; put_faults = no_put.put_faults ∙ none.put_faults };
}
