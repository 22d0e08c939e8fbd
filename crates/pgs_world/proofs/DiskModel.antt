-- The clauses on stops, call by call, allow exactly the images of the disk model.
use Rattle.std.proofs.Common.{◌≡◌, ◌↔◌, ℕ, zero, suc, ◌+◌, ◌≤◌, min, List, [], ◌∷◌, length, take, drop, Some, None, refl, sym, ◌∙◌, subst, arith}
use Rattle.std.specs.declared.option.Option.{Option}
use Rattle.pgs_world.specs.Held.{Held, Agrees, IsImage, IsWell, blotted, on_disk}
use Rattle.pgs_world.specs.Changes.{Change, Wrote, CutTo, after_change, after_changes, CanChange, CanChangeAll, Steps, StepsAll}
use Rattle.pgs_world.proofs.Images.{torn_from, short_from, only_image, well-on_disk, well-after_write, well-after_cut}

same_head : (x y : ℕ) (xs ys : List ℕ) → (x ∷ xs) ≡ (y ∷ ys) → x ≡ y
same_head x y xs ys is = cc

same_tail : (x y : ℕ) (xs ys : List ℕ) → (x ∷ xs) ≡ (y ∷ ys) → xs ≡ ys
same_tail x y xs ys is = cc

agrees_torn : (at count end : ℕ) (kept : List (Option ℕ)) (d c : List ℕ) → at + count ≡ end → Agrees kept d → take at c ≡ take at d → drop end c ≡ drop end d → length d ≤ length c → Agrees (blotted at count kept) c
agrees_torn at count end [] d c is a front back le = tt
agrees_torn at count end (k ∷ kept) [] c is a front back le = absurd a
agrees_torn at count end (k ∷ kept) (x ∷ d) [] is a front back le = absurd (omega arith)
agrees_torn zero zero zero (k ∷ kept) (x ∷ d) (y ∷ c) is a front back le = subst (Agrees (k ∷ kept)) (sym back) a
agrees_torn zero zero (suc end) (k ∷ kept) (x ∷ d) (y ∷ c) is a front back le = absurd (omega arith)
agrees_torn zero (suc count) zero (k ∷ kept) (x ∷ d) (y ∷ c) is a front back le = absurd (omega arith)
agrees_torn zero (suc count) (suc end) (None ∷ kept) (x ∷ d) (y ∷ c) is a front back le = agrees_torn zero count end kept d c (omega arith) a refl back (omega arith)
agrees_torn zero (suc count) (suc end) (Some byte ∷ kept) (x ∷ d) (y ∷ c) is a front back le = agrees_torn zero count end kept d c (omega arith) a.1 refl back (omega arith)
agrees_torn (suc at) count zero (k ∷ kept) (x ∷ d) (y ∷ c) is a front back le = absurd (omega arith)
agrees_torn (suc at) count (suc end) (None ∷ kept) (x ∷ d) (y ∷ c) is a front back le =
    agrees_torn at count end kept d c (omega arith) a (same_tail y x (take at c) (take at d) front) back (omega arith)
agrees_torn (suc at) count (suc end) (Some byte ∷ kept) (x ∷ d) (y ∷ c) is a front back le =
    (same_head y x (take at c) (take at d) front ∙ a.0, agrees_torn at count end kept d c (omega arith) a.1 (same_tail y x (take at c) (take at d) front) back (omega arith))

agrees_short : (len : ℕ) (kept : List (Option ℕ)) (d c : List ℕ) → Agrees kept d → take len c ≡ take len d → min len (length d) ≤ length c → Agrees (take len kept) c
agrees_short zero kept d c a front le = tt
agrees_short (suc len) [] d c a front le = tt
agrees_short (suc len) (k ∷ kept) [] c a front le = absurd a
agrees_short (suc len) (k ∷ kept) (x ∷ d) [] a front le = absurd (omega arith)
agrees_short (suc len) (None ∷ kept) (x ∷ d) (y ∷ c) a front le = agrees_short len kept d c a (same_tail y x (take len c) (take len d) front) (omega arith)
agrees_short (suc len) (Some byte ∷ kept) (x ∷ d) (y ∷ c) a front le =
    (same_head y x (take len c) (take len d) front ∙ a.0, agrees_short len kept d c a.1 (same_tail y x (take len c) (take len d) front) (omega arith))

step_to : (held : Held) (change : Change) (d c : List ℕ) → IsImage held d → Steps change d c → IsImage (after_change held change) c
step_to held (Wrote at piece) d c is step =
    record {
      agrees = agrees_torn at (length piece) (at + length piece) held.kept d c refl is.agrees step.before step.after step.no_shorter;
      no_longer = omega (arith, step.no_longer, is.no_longer);
    }
step_to held (CutTo len) d c is step =
    record {
      agrees = agrees_short len held.kept d c is.agrees step.front step.no_shorter;
      no_longer = omega (arith, step.no_longer, is.no_longer);
    }

step_from : (held : Held) (change : Change) (c : List ℕ) → IsWell held → CanChange held change → IsImage (after_change held change) c → (d : List ℕ) × IsImage held d × Steps change d c
step_from held (Wrote at piece) c well can is = torn_from held at piece c well can is
step_from held (CutTo len) c well can is = short_from held len c well is

well_change : (held : Held) (change : Change) → IsWell held → CanChange held change → IsWell (after_change held change)
well_change held (Wrote at piece) well can = well-after_write held at piece well can
well_change held (CutTo len) well can = well-after_cut held len well

steps_to : (held : Held) (changes : List Change) (d c : List ℕ) → IsImage held d → StepsAll changes d c → IsImage (after_changes held changes) c
steps_to held [] d c is same = subst (IsImage held) (sym same) is
steps_to held (change ∷ changes) d c is steps = steps_to (after_change held change) changes steps.0 c (step_to held change d steps.0 is steps.1) steps.2

steps_from : (held : Held) (changes : List Change) (c : List ℕ) → IsWell held → CanChangeAll held changes → IsImage (after_changes held changes) c → (d : List ℕ) × IsImage held d × StepsAll changes d c
steps_from held [] c well can is = (c, is, refl)
steps_from held (change ∷ changes) c well can is =
    let later = steps_from (after_change held change) changes c (well_change held change well can.0) can.1 is in
    let first = step_from held change later.0 well can.0 later.1 in
    (first.0, first.1, (later.0, first.2, later.2))

pub model_exact : (bytes : List ℕ) (changes : List Change) (image : List ℕ) → CanChangeAll (on_disk bytes) changes → IsImage (after_changes (on_disk bytes) changes) image ↔ StepsAll changes bytes image
model_exact bytes changes image can = (to, from)
  where
    to : IsImage (after_changes (on_disk bytes) changes) image → StepsAll changes bytes image
    to is =
        let all = steps_from (on_disk bytes) changes image (well-on_disk bytes) can is in
        subst (λ d. StepsAll changes d image) (only_image bytes all.0 all.1) all.2

    from : StepsAll changes bytes image → IsImage (after_changes (on_disk bytes) changes) image
    from steps = steps_to (on_disk bytes) changes bytes image (well-on_disk bytes).image steps
