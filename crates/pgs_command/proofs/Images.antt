-- Calls that keep both areas, or one of them, one after another.
use Rattle.std.proofs.Common.{◌≡◌, ⊎_elim, IsTrue, refl, sym, ◌∙◌, ap}
use Rattle.pgs_run_lines.specs.AreasKept.{KeepsAreas}
use Rattle.pgs_world.specs.declared.area.Area.{Area}
use Rattle.pgs_world.specs.declared.area.Area.TheVariants.{A, B}
use Rattle.pgs_world.specs.Disk.{IsSameBeside}
use Rattle.pgs_world.specs.Moment.{EachSince, IsTimed, IsQuiet, IsSettled, Passes, StopsBy}
use Rattle.pgs_world.specs.World.{Triple, View, part, other}
use Rattle.pgs_world.proofs.Moments.{passes_none, passes_on}
use Rattle.pgs_command.specs.Images.{KeepsArea, KeepsImages}

-- before the first call
pub images_none : (view : View) → IsTimed view → KeepsImages view view
images_none view timed =
    record {
      a = refl;
      b = refl;
      passes = passes_none view timed;
      images = λ honest c left. (c, timed.only_now c left, refl, refl);
    }

-- a call that only reads
pub images_quiet : (old new : View) → IsQuiet old new → KeepsImages old new
images_quiet old new quiet =
    record {
      a = ap (λ (t : Triple). t.a) quiet.shown;
      b = ap (λ (t : Triple). t.b) quiet.shown;
      passes = quiet.passes;
      images = λ honest c left. (c, quiet.stops honest c left, refl, refl);
    }

-- a call of which it is also said that no area failed
pub images_areas : (old new : View) → KeepsAreas old new → KeepsImages old new
images_areas old new keeps = record { a = keeps.a; b = keeps.b; passes = keeps.passes; images = keeps.images }

-- one call, and then another
pub images_on : (old mid new : View) → KeepsImages old mid → KeepsImages mid new → KeepsImages old new
images_on old mid new p q =
    record {
      a = q.a ∙ p.a;
      b = q.b ∙ p.b;
      passes = passes_on old mid new p.passes q.passes;
      images = images;
    }
  where
    later : IsTrue old.honest → (c : Triple) → new.left_since mid.moment c → (d : Triple) × old.may_leave d × (c.a ≡ d.a) × (c.b ≡ d.b)
    later honest c now =
        let from = q.images (p.passes.honest ∙ honest) c now in
        let first = p.images honest from.0 (p.passes.timed.now old.moment from.0 p.passes.later from.1) in
        (first.0, first.1, from.2 ∙ first.2, from.3 ∙ first.3)

    images : IsTrue old.honest → (c : Triple) → new.left_since old.moment c → (d : Triple) × old.may_leave d × (c.a ≡ d.a) × (c.b ≡ d.b)
    images honest c left = ⊎_elim (p.images honest c) (later honest c) (q.passes.since old.moment c p.passes.later left)

-- ---- one area

pub area_none : (area : Area) (view : View) → IsTimed view → KeepsArea area view view
area_none area view timed = record { shown = refl; passes = passes_none view timed; stops = λ honest c left. (c, timed.only_now c left, refl) }

-- one call, and then another
pub area_on : (area : Area) (old mid new : View) → KeepsArea area old mid → KeepsArea area mid new → KeepsArea area old new
area_on area old mid new p q = record { shown = q.shown ∙ p.shown; passes = passes_on old mid new p.passes q.passes; stops = stops }
  where
    later : IsTrue old.honest → (c : Triple) → new.left_since mid.moment c → (d : Triple) × old.may_leave d × (part area c ≡ part area d)
    later honest c now =
        let from = q.stops (p.passes.honest ∙ honest) c now in
        let first = p.stops honest from.0 (p.passes.timed.now old.moment from.0 p.passes.later from.1) in
        (first.0, first.1, from.2 ∙ first.2)

    stops : IsTrue old.honest → (c : Triple) → new.left_since old.moment c → (d : Triple) × old.may_leave d × (part area c ≡ part area d)
    stops honest c left = ⊎_elim (p.stops honest c) (later honest c) (q.passes.since old.moment c p.passes.later left)

-- a call that keeps both images keeps each
pub area_of_images : (area : Area) (old new : View) → KeepsImages old new → KeepsArea area old new
area_of_images A old new kept = record {
  shown = kept.a;
  passes = kept.passes;
  stops = λ honest c left. let from = kept.images honest c left in (from.0, from.1, from.2);
}
area_of_images B old new kept = record {
  shown = kept.b;
  passes = kept.passes;
  stops = λ honest c left. let from = kept.images honest c left in (from.0, from.1, from.3);
}

-- a call that writes no other area keeps the other one
pub area_beside : (area : Area) (old new : View) → Passes old new → IsSameBeside area old.shown new.shown → StopsBy (IsSameBeside area) old new → KeepsArea (other area) old new
area_beside area old new passes same stops = record {
  shown = same.beside;
  passes = passes;
  stops = λ honest c left. let from = stops honest c left in (from.0, from.1, from.2.beside);
}

-- ---- a settled world

-- stays settled where both images are kept
pub settled_images : (old new : View) → IsSettled old → KeepsImages old new → IsSettled new
settled_images old new settled kept = record {
  honest = kept.passes.honest ∙ settled.honest;
  tells_bytes = kept.passes.tells_bytes ∙ settled.tells_bytes;
  a = λ c left. let was = from c left in was.2 ∙ settled.a was.0 was.1 ∙ sym kept.a;
  b = λ c left. let was = from c left in was.3 ∙ settled.b was.0 was.1 ∙ sym kept.b;
}
  where
    from : (c : Triple) → new.may_leave c → (d : Triple) × old.may_leave d × (c.a ≡ d.a) × (c.b ≡ d.b)
    from c left = kept.images settled.honest c (kept.passes.timed.now old.moment c kept.passes.later left)

-- ---- what is known of images

-- it is known of those that are kept
pub each_images : (old new : View) (P : Triple → Type 0) → IsTrue old.honest → ((d c : Triple) → c.a ≡ d.a → c.b ≡ d.b → P d → P c) → KeepsImages old new → ((d : Triple) → old.may_leave d → P d) → EachSince P old new
each_images old new P honest same kept here c left = let from = kept.images honest c left in same from.0 c from.2 from.3 (here from.0 from.1)
