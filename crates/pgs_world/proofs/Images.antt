-- What a stop may leave of an area in memory goes on by the steps of the disk model.
use Rattle.std.proofs.Common.{◌≡◌, ⊎_elim, ℕ, zero, suc, ◌+◌, ◌-◌, ◌≤◌, ◌<◌, min, max, List, [], ◌∷◌, ◌++◌, map, replicate, length, take, drop, Some, None, refl, sym, ◌∙◌, ap, arith, length-append, length-take, length-drop, unwrap_or}
use Rattle.std.specs.declared.option.Option.{Option}
use Rattle.std.proofs.lemmas.List.{take_all, drop_all, length-map, length-replicate, take-take}
use Rattle.std.proofs.lemmas.Bool.{cases_lt}
use Rattle.pgs_world.specs.declared.leave.Leave.{Leave}
use Rattle.pgs_world.specs.declared.leave.Leave.TheVariants.{Old, New, Fill}
use Rattle.pgs_world.specs.Left.{left_of}
use Rattle.pgs_world.specs.Disk.{written_over, IsTorn, IsCutShort}
use Rattle.pgs_world.specs.Held.{Held, Agrees, IsImage, IsWell, blotted, after_write, after_cut, all_kept, on_disk, filled}

-- the kept bytes in place of what the image has there, and behind its end too
abbrev restored : List (Option ℕ) → List ℕ → List ℕ
restored [] image = image
restored (None ∷ kept) [] = 0 ∷ restored kept []
restored (Some byte ∷ kept) [] = byte ∷ restored kept []
restored (None ∷ kept) (x ∷ image) = x ∷ restored kept image
restored (Some byte ∷ kept) (x ∷ image) = byte ∷ restored kept image

agrees-restored : (kept : List (Option ℕ)) (image : List ℕ) → Agrees kept (restored kept image)
agrees-restored [] image = tt
agrees-restored (None ∷ kept) [] = agrees-restored kept []
agrees-restored (Some byte ∷ kept) [] = (refl, agrees-restored kept [])
agrees-restored (None ∷ kept) (x ∷ image) = agrees-restored kept image
agrees-restored (Some byte ∷ kept) (x ∷ image) = (refl, agrees-restored kept image)

length-restored : (kept : List (Option ℕ)) (image : List ℕ) → length (restored kept image) ≡ max (length kept) (length image)
length-restored [] image = omega arith
length-restored (None ∷ kept) [] = omega (arith, length-restored kept [])
length-restored (Some byte ∷ kept) [] = omega (arith, length-restored kept [])
length-restored (None ∷ kept) (x ∷ image) = omega (arith, length-restored kept image)
length-restored (Some byte ∷ kept) (x ∷ image) = omega (arith, length-restored kept image)

pub agrees_length : (kept : List (Option ℕ)) (image : List ℕ) → Agrees kept image → length kept ≤ length image
agrees_length [] image a = omega arith
agrees_length (k ∷ kept) [] a = absurd a
agrees_length (None ∷ kept) (x ∷ image) a = omega (arith, agrees_length kept image a)
agrees_length (Some byte ∷ kept) (x ∷ image) a = omega (arith, agrees_length kept image a.1)

-- where it agrees already, nothing changes
restored_same : (kept : List (Option ℕ)) (image : List ℕ) → Agrees kept image → restored kept image ≡ image
restored_same [] image a = refl
restored_same (k ∷ kept) [] a = absurd a
restored_same (None ∷ kept) (x ∷ image) a = ap (λ (l : List ℕ). x ∷ l) (restored_same kept image a)
restored_same (Some byte ∷ kept) (x ∷ image) a = ap (λ (l : List ℕ). byte ∷ l) (restored_same kept image a.1) ∙ ap (λ y. y ∷ image) (sym a.0)

length-blotted : (at count : ℕ) (kept : List (Option ℕ)) → length (blotted at count kept) ≡ length kept
length-blotted at count [] = refl
length-blotted zero zero (k ∷ kept) = refl
length-blotted zero (suc count) (k ∷ kept) = ap suc (length-blotted zero count kept)
length-blotted (suc at) count (k ∷ kept) = ap suc (length-blotted at count kept)

-- outside the written places an image agrees, so nothing is restored there
restored_before : (at count : ℕ) (kept : List (Option ℕ)) (image : List ℕ) → Agrees (blotted at count kept) image → take at (restored kept image) ≡ take at image
restored_before zero count kept image a = refl
restored_before (suc at) count [] image a = refl
restored_before (suc at) count (k ∷ kept) [] a = absurd a
restored_before (suc at) count (None ∷ kept) (x ∷ image) a = ap (λ (l : List ℕ). x ∷ l) (restored_before at count kept image a)
restored_before (suc at) count (Some byte ∷ kept) (x ∷ image) a =
    ap (λ (l : List ℕ). byte ∷ l) (restored_before at count kept image a.1) ∙ ap (λ y. y ∷ take at image) (sym a.0)

restored_after : (at count end : ℕ) (kept : List (Option ℕ)) (image : List ℕ) → at + count ≡ end → Agrees (blotted at count kept) image → drop end (restored kept image) ≡ drop end image
restored_after at count end [] image is a = refl
restored_after zero zero end (k ∷ kept) image is a = ap (λ (l : List ℕ). drop end l) (restored_same (k ∷ kept) image a)
restored_after zero (suc count) zero (k ∷ kept) image is a = absurd (omega arith)
restored_after zero (suc count) (suc end) (k ∷ kept) [] is a = absurd a
restored_after zero (suc count) (suc end) (None ∷ kept) (x ∷ image) is a = restored_after zero count end kept image (omega arith) a
restored_after zero (suc count) (suc end) (Some byte ∷ kept) (x ∷ image) is a = restored_after zero count end kept image (omega arith) a
restored_after (suc at) count zero (k ∷ kept) image is a = absurd (omega arith)
restored_after (suc at) count (suc end) (k ∷ kept) [] is a = absurd a
restored_after (suc at) count (suc end) (None ∷ kept) (x ∷ image) is a = restored_after at count end kept image (omega arith) a
restored_after (suc at) count (suc end) (Some byte ∷ kept) (x ∷ image) is a = restored_after at count end kept image (omega arith) a.1

agrees_take : (kept : List (Option ℕ)) (image : List ℕ) (len : ℕ) → length kept ≤ len → Agrees kept image → Agrees kept (take len image)
agrees_take [] image len le a = tt
agrees_take (k ∷ kept) [] len le a = absurd a
agrees_take (k ∷ kept) (x ∷ image) zero le a = absurd (omega arith)
agrees_take (None ∷ kept) (x ∷ image) (suc len) le a = agrees_take kept image len (omega arith) a
agrees_take (Some byte ∷ kept) (x ∷ image) (suc len) le a = (a.0, agrees_take kept image len (omega arith) a.1)

-- an image after a write comes from one before it
pub torn_from : (held : Held) (at : ℕ) (piece image : List ℕ) → IsWell held → at ≤ length held.bytes → IsImage (after_write held at piece) image
    → (d : List ℕ) × IsImage held d × IsTorn at (length piece) d image
torn_from held at piece image well le is =
    let count = length piece in
    let whole = restored held.kept image in
    let d = take held.greatest whole in
    let least : length held.kept ≤ length held.bytes = agrees_length held.kept held.bytes well.image.agrees in
    let now : length (blotted at count held.kept) ≤ length image = agrees_length (blotted at count held.kept) image is.agrees in
    let size : length whole ≡ length image = omega (arith, length-restored held.kept image, length-blotted at count held.kept) in
    let cut : length d ≡ min held.greatest (length whole) = length-take held.greatest whole in (
      d,
      record {
        agrees = agrees_take held.kept whole held.greatest (omega (arith, well.image.no_longer)) (agrees-restored held.kept image);
        no_longer = omega arith;
      },
      record {
        before = sym (take-take at held.greatest whole (omega (arith, well.image.no_longer)) ∙ restored_before at count held.kept image is.agrees);
        after = ⊎_elim (long size) (short size) (cases_lt held.greatest (length image));
        no_shorter = omega arith;
        no_longer = omega (arith, is.no_longer);
      },
    )
  where
    short : length (restored held.kept image) ≡ length image → length image ≤ held.greatest → drop (at + length piece) image ≡ drop (at + length piece) (take held.greatest (restored held.kept image))
    short size fits =
        sym (ap (λ (l : List ℕ). drop (at + length piece) l) (take_all held.greatest (restored held.kept image) (omega arith)) ∙ restored_after at (length piece) (at + length piece) held.kept image refl is.agrees)

    long : length (restored held.kept image) ≡ length image → held.greatest < length image → drop (at + length piece) image ≡ drop (at + length piece) (take held.greatest (restored held.kept image))
    long size longer =
        drop_all (at + length piece) image (omega (arith, is.no_longer))
        ∙ sym (drop_all (at + length piece) (take held.greatest (restored held.kept image)) (omega (arith, is.no_longer, length-take held.greatest (restored held.kept image))))

restored_front : (kept : List (Option ℕ)) (image : List ℕ) (len : ℕ) → Agrees (take len kept) image → take len image ≡ take len (restored kept image)
restored_front kept image zero a = refl
restored_front [] image (suc len) a = refl
restored_front (k ∷ kept) [] (suc len) a = absurd a
restored_front (None ∷ kept) (x ∷ image) (suc len) a = ap (λ (l : List ℕ). x ∷ l) (restored_front kept image len a)
restored_front (Some byte ∷ kept) (x ∷ image) (suc len) a =
    ap (λ (l : List ℕ). x ∷ l) (restored_front kept image len a.1) ∙ ap (λ y. y ∷ take len (restored kept image)) a.0

-- an image after a cut comes from one before it
pub short_from : (held : Held) (len : ℕ) (image : List ℕ) → IsWell held → IsImage (after_cut held len) image → (d : List ℕ) × IsImage held d × IsCutShort len d image
short_from held len image well is =
    let whole = restored held.kept image in
    let least : length held.kept ≤ length held.bytes = agrees_length held.kept held.bytes well.image.agrees in
    let now : length (take len held.kept) ≤ length image = agrees_length (take len held.kept) image is.agrees in
    let size : length whole ≡ max (length held.kept) (length image) = length-restored held.kept image in (
      whole,
      record { agrees = agrees-restored held.kept image; no_longer = omega (arith, well.image.no_longer, is.no_longer) },
      record {
        front = restored_front held.kept image len is.agrees;
        no_shorter = omega (arith, length-take len held.kept);
        no_longer = omega arith;
      },
    )

agrees_all : (bytes : List ℕ) → Agrees (all_kept bytes) bytes
agrees_all [] = tt
agrees_all (x ∷ bytes) = (refl, agrees_all bytes)

all_agrees : (bytes image : List ℕ) → Agrees (all_kept bytes) image → length image ≤ length bytes → image ≡ bytes
all_agrees [] [] a le = refl
all_agrees [] (x ∷ image) a le = absurd (omega arith)
all_agrees (b ∷ bytes) [] a le = absurd a
all_agrees (b ∷ bytes) (x ∷ image) a le = ap (λ y. y ∷ image) a.0 ∙ ap (λ (l : List ℕ). b ∷ l) (all_agrees bytes image a.1 (omega arith))

-- after a sync there is one image
pub only_image : (bytes image : List ℕ) → IsImage (on_disk bytes) image → image ≡ bytes
only_image bytes image is = all_agrees bytes image is.agrees is.no_longer

pub well-on_disk : (bytes : List ℕ) → IsWell (on_disk bytes)
well-on_disk bytes = record { image = record { agrees = agrees_all bytes; no_longer = omega arith }; before = agrees_all bytes }

agrees_blotted : (at count : ℕ) (kept : List (Option ℕ)) (image : List ℕ) → Agrees kept image → Agrees (blotted at count kept) image
agrees_blotted at count [] image a = tt
agrees_blotted at count (k ∷ kept) [] a = absurd a
agrees_blotted zero zero (k ∷ kept) (x ∷ image) a = a
agrees_blotted zero (suc count) (None ∷ kept) (x ∷ image) a = agrees_blotted zero count kept image a
agrees_blotted zero (suc count) (Some byte ∷ kept) (x ∷ image) a = agrees_blotted zero count kept image a.1
agrees_blotted (suc at) count (None ∷ kept) (x ∷ image) a = agrees_blotted at count kept image a
agrees_blotted (suc at) count (Some byte ∷ kept) (x ∷ image) a = (a.0, agrees_blotted at count kept image a.1)

agrees_over : (at end : ℕ) (piece : List ℕ) (kept : List (Option ℕ)) (bytes : List ℕ) → at + length piece ≡ end → Agrees kept bytes → Agrees (blotted at (length piece) kept) (take at bytes ++ piece ++ drop end bytes)
agrees_over at end piece [] bytes is a = tt
agrees_over at end piece (k ∷ kept) [] is a = absurd a
agrees_over zero zero [] (k ∷ kept) (x ∷ bytes) is a = a
agrees_over zero (suc end) [] (k ∷ kept) (x ∷ bytes) is a = absurd (omega arith)
agrees_over zero zero (p ∷ piece) (k ∷ kept) (x ∷ bytes) is a = absurd (omega arith)
agrees_over zero (suc end) (p ∷ piece) (None ∷ kept) (x ∷ bytes) is a = agrees_over zero end piece kept bytes (omega arith) a
agrees_over zero (suc end) (p ∷ piece) (Some byte ∷ kept) (x ∷ bytes) is a = agrees_over zero end piece kept bytes (omega arith) a.1
agrees_over (suc at) zero piece (k ∷ kept) (x ∷ bytes) is a = absurd (omega arith)
agrees_over (suc at) (suc end) piece (None ∷ kept) (x ∷ bytes) is a = agrees_over at end piece kept bytes (omega arith) a
agrees_over (suc at) (suc end) piece (Some byte ∷ kept) (x ∷ bytes) is a = (a.0, agrees_over at end piece kept bytes (omega arith) a.1)

pub length-written_over : (bytes piece : List ℕ) (at : ℕ) → at ≤ length bytes → length (written_over bytes at piece) ≡ max (length bytes) (at + length piece)
length-written_over bytes piece at le =
    omega (arith, length-append (take at bytes ++ piece) (drop (at + length piece) bytes), length-append (take at bytes) piece, length-take at bytes, length-drop (at + length piece) bytes)

pub well-after_write : (held : Held) (at : ℕ) (piece : List ℕ) → IsWell held → at ≤ length held.bytes → IsWell (after_write held at piece)
well-after_write held at piece well le =
    record {
      image = record {
        agrees = agrees_over at (at + length piece) piece held.kept held.bytes refl well.image.agrees;
        no_longer = omega (arith, length-written_over held.bytes piece at le, well.image.no_longer);
      };
      before = agrees_blotted at (length piece) held.kept held.synced well.before;
    }

agrees_front : (kept : List (Option ℕ)) (image : List ℕ) (len : ℕ) → Agrees kept image → Agrees (take len kept) image
agrees_front kept image zero a = tt
agrees_front [] image (suc len) a = tt
agrees_front (k ∷ kept) [] (suc len) a = absurd a
agrees_front (None ∷ kept) (x ∷ image) (suc len) a = agrees_front kept image len a
agrees_front (Some byte ∷ kept) (x ∷ image) (suc len) a = (a.0, agrees_front kept image len a.1)

agrees_fronts : (kept : List (Option ℕ)) (image : List ℕ) (len : ℕ) → Agrees kept image → Agrees (take len kept) (take len image)
agrees_fronts kept image zero a = tt
agrees_fronts [] image (suc len) a = tt
agrees_fronts (k ∷ kept) [] (suc len) a = absurd a
agrees_fronts (None ∷ kept) (x ∷ image) (suc len) a = agrees_fronts kept image len a
agrees_fronts (Some byte ∷ kept) (x ∷ image) (suc len) a = (a.0, agrees_fronts kept image len a.1)

pub well-after_cut : (held : Held) (len : ℕ) → IsWell held → IsWell (after_cut held len)
well-after_cut held len well =
    record {
      image = record {
        agrees = agrees_fronts held.kept held.bytes len well.image.agrees;
        no_longer = omega (arith, length-take len held.bytes, well.image.no_longer);
      };
      before = agrees_front held.kept held.synced len well.before;
    }

-- the three kinds of image that are left
pub image-old : (held : Held) → IsWell held → IsImage held (take (length held.kept) held.synced)
image-old held well =
    record {
      agrees = agrees_take held.kept held.synced (length held.kept) (omega arith) well.before;
      no_longer = omega (arith, length-take (length held.kept) held.synced, agrees_length held.kept held.bytes well.image.agrees, well.image.no_longer);
    }

agrees-filled : (byte : ℕ) (kept : List (Option ℕ)) (rest : List ℕ) → Agrees kept (map (λ k. unwrap_or k byte) kept ++ rest)
agrees-filled byte [] rest = tt
agrees-filled byte (None ∷ kept) rest = agrees-filled byte kept rest
agrees-filled byte (Some b ∷ kept) rest = (refl, agrees-filled byte kept rest)

pub image-filled : (held : Held) (byte : ℕ) → IsWell held → IsImage held (filled byte held.kept held.greatest)
image-filled held byte well =
    let gap = held.greatest - length held.kept in
    record {
      agrees = agrees-filled byte held.kept (replicate gap byte);
      no_longer = omega (arith, length-append (map (λ k. unwrap_or k byte) held.kept) (replicate gap byte), length-map held.kept (λ k. unwrap_or k byte), length-replicate gap byte, agrees_length held.kept held.bytes well.image.agrees, well.image.no_longer);
    }

pub image_left : (how : Leave) (held : Held) → IsWell held → IsImage held (left_of how held)
image_left Old held well = image-old held well
image_left New held well = well.image
image_left (Fill byte) held well = image-filled held byte well

pub filled_as : (image front : List ℕ) (byte greatest : ℕ) (kept : List (Option ℕ)) → image ≡ front ++ replicate (greatest - length front) byte → front ≡ map (λ k. unwrap_or k byte) kept → image ≡ filled byte kept greatest
filled_as image front byte greatest kept is front_is =
    is
    ∙ ap (λ (l : List ℕ). l ++ replicate (greatest - length l) byte) front_is
    ∙ ap (λ n. map (λ k. unwrap_or k byte) kept ++ replicate (greatest - n) byte) (length-map kept (λ k. unwrap_or k byte))
