-- What a call leaves of both areas, and that one call after another leaves it so.
use Rattle.std.proofs.Common.{◌≡◌, ⊎_elim, IsTrue, refl, ◌∙◌}
use Rattle.pgs_world.specs.Moment.{IsTimed, Passes}
use Rattle.pgs_world.specs.World.{Triple, View}
use Rattle.pgs_world.proofs.Moments.{passes_none, passes_on}

-- The shown areas are the same; and of each triple that a stop at some moment since the call's start may have left,
-- on an honest world, the two images stood together in a triple that a stop could leave at the start.
pub record KeepsAreas (old new : View) : Type 0 where
  pub a : new.shown.a ≡ old.shown.a
  pub b : new.shown.b ≡ old.shown.b
  pub passes : Passes old new
  -- the count of area faults is as before
  pub area_faults : new.area_faults ≡ old.area_faults
  pub images : IsTrue old.honest → (c : Triple) → new.left_since old.moment c → (d : Triple) × old.may_leave d × (c.a ≡ d.a) × (c.b ≡ d.b)

-- before the first call
pub keeps_none : (view : View) → IsTimed view → KeepsAreas view view
keeps_none view timed =
    record {
      a = refl;
      b = refl;
      passes = passes_none view timed;
      area_faults = refl;
      images = λ honest c left. (c, timed.only_now c left, refl, refl);
    }

-- one call, and then another
pub keeps_on : (old mid new : View) → KeepsAreas old mid → KeepsAreas mid new → KeepsAreas old new
keeps_on old mid new p q =
    record {
      a = q.a ∙ p.a;
      b = q.b ∙ p.b;
      passes = passes_on old mid new p.passes q.passes;
      area_faults = q.area_faults ∙ p.area_faults;
      images = images;
    }
  where
    later : IsTrue old.honest → (c : Triple) → new.left_since mid.moment c → (d : Triple) × old.may_leave d × (c.a ≡ d.a) × (c.b ≡ d.b)
    later honest c now =
        let from = q.images (p.passes.honest ∙ honest) c now in
        let first = p.images honest from.0 (p.passes.timed.now old.moment from.0 p.passes.later from.1) in
        (first.0, first.1, from.2 ∙ first.2, from.3 ∙ first.3)

    images : IsTrue old.honest → (c : Triple) → new.left_since old.moment c → (d : Triple) × old.may_leave d × (c.a ≡ d.a) × (c.b ≡ d.b)
    images honest c left = ⊎_elim (p.images honest c) (later honest c) (q.passes.since old.moment c p.passes.later left)
