-- An area in memory: its bytes, and what was since its last sync.
use Rattle.std.specs.Prelude.{◌≡◌, ℕ, zero, suc, ◌+◌, ◌-◌, ◌≤◌, max, List, [], ◌∷◌, ◌++◌, map, length, take, replicate, Option, Some, None, unwrap_or}
use Rattle.pgs_world.specs.Disk.{written_over}

pub record Held : Type 0 where
  -- what a read gives
  pub bytes : List ℕ
  -- the bytes at the last sync
  pub synced : List ℕ
  -- Below the least length since: the byte at the sync, or none where it was written since.
  pub kept : List (Option ℕ)
  -- the greatest length since
  pub greatest : ℕ

-- at least as long, with each byte that wasn't written since
abbrev pub Agrees : List (Option ℕ) → List ℕ → Type 0
Agrees [] image = Unit {0}
Agrees (k ∷ kept) [] = ⊥
Agrees (None ∷ kept) (x ∷ image) = Agrees kept image
Agrees (Some byte ∷ kept) (x ∷ image) = (x ≡ byte) × Agrees kept image

-- what a stop may leave of the area
pub record IsImage (held : Held) (image : List ℕ) : Type 0 where
  pub agrees : Agrees held.kept image
  pub no_longer : length image ≤ held.greatest

-- what a read gives is one of the images, and the bytes at the sync agree too
pub record IsWell (held : Held) : Type 0 where
  pub image : IsImage held held.bytes
  pub before : Agrees held.kept held.synced

-- so many places, from this one on, were written
abbrev pub blotted : ℕ → ℕ → List (Option ℕ) → List (Option ℕ)
blotted at count [] = []
blotted zero zero (k ∷ kept) = k ∷ kept
blotted zero (suc count) (k ∷ kept) = None ∷ blotted zero count kept
blotted (suc at) count (k ∷ kept) = k ∷ blotted at count kept

abbrev pub after_write : Held → ℕ → List ℕ → Held
after_write held at piece =
    record {
      bytes = written_over held.bytes at piece;
      synced = held.synced;
      kept = blotted at (length piece) held.kept;
      greatest = max held.greatest (at + length piece);
    }

abbrev pub after_cut : Held → ℕ → Held
after_cut held len =
    record {
      bytes = take len held.bytes;
      synced = held.synced;
      kept = take len held.kept;
      greatest = held.greatest;
    }

abbrev pub all_kept : List ℕ → List (Option ℕ)
all_kept bytes = map (λ byte. Some byte) bytes

-- an area with these bytes, all of them on the disk
abbrev pub on_disk : List ℕ → Held
on_disk bytes = record { bytes = bytes; synced = bytes; kept = all_kept bytes; greatest = length bytes }

-- the image of the greatest length with this byte wherever a stop may leave any
abbrev pub filled : ℕ → List (Option ℕ) → ℕ → List ℕ
filled byte kept greatest = map (λ k. unwrap_or k byte) kept ++ replicate (greatest - length kept) byte
