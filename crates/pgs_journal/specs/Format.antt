-- The bytes of a store in an area. Numbers stand with the highest byte first.
use Rattle.std.specs.Prelude.{◌≡◌, ℕ, suc, ◌+◌, ◌≤◌, Bool, false, IsTrue, ◌&&◌, List, [], ◌∷◌, ◌++◌, length, nat_eq, nat_le, Option, Some, None}
use Rattle.byteorder.specs.Endian.{big_bytes}
use Rattle.pgs_codec.specs.Frame.{number_field}
use Rattle.pgs_journal.specs.declared.format.Format.{Format}
use Rattle.pgs_journal.specs.declared.format.Format.TheVariants.{First, Second}

-- a gate is open where its byte is 1; every other byte is closed
abbrev pub is_open : ℕ → Bool
is_open gate = nat_eq gate 1

-- an area has at most 16,777,215 stores, one after the other
abbrev pub is_epoch : ℕ → Bool
is_epoch epoch = nat_le 1 epoch && nat_le epoch 16777215

-- the seven bytes PGSGRD1, or PGSGRD2
abbrev pub magic : Format → List ℕ
magic First = 80 ∷ 71 ∷ 83 ∷ 71 ∷ 82 ∷ 68 ∷ 49 ∷ []
magic Second = 80 ∷ 71 ∷ 83 ∷ 71 ∷ 82 ∷ 68 ∷ 50 ∷ []

-- a head behind its gate: seven bytes and the epoch
abbrev pub head_body : Format → ℕ → List ℕ
head_body format epoch = magic format ++ big_bytes 8 epoch

-- the number that a record bears: none in the first format
abbrev pub record_number : Format → ℕ → Option ℕ
record_number First number = None
record_number Second number = Some number

-- the record of this number behind its gate: the number that it bears, the length of the payload, and the payload
abbrev pub record_body : Format → ℕ → List ℕ → List ℕ
record_body format number payload = number_field (record_number format number) ++ (big_bytes 8 (length payload) ++ payload)

-- how many bytes of a record stand before its payload
abbrev pub field_bytes : Format → ℕ
field_bytes First = 8
field_bytes Second = 16

-- records with open gates, the first of them of this number
abbrev pub open_records : Format → ℕ → List (List ℕ) → List ℕ
open_records format number [] = []
open_records format number (payload ∷ payloads) = 1 ∷ (record_body format number payload ++ open_records format (suc number) payloads)

-- a store up to its closed gate: an open head, and records with open gates
abbrev pub opened : Format → ℕ → List (List ℕ) → List ℕ
opened format epoch payloads = 1 ∷ (head_body format epoch ++ open_records format 1 payloads)

-- A journal's next number is that of the record after its last one, and none in the first format. It tells the format.
abbrev pub format_of : Option ℕ → Format
format_of None = First
format_of (Some number) = Second

-- the number of the record after these
abbrev pub next_after : Format → List (List ℕ) → Option ℕ
next_after format payloads = record_number format (length payloads + 1)

-- the next number after one record more
abbrev pub advanced : Option ℕ → Option ℕ
advanced None = None
advanced (Some number) = Some (number + 1)

-- the next number, where there is one, is at most this
abbrev pub IsNextWithin : Option ℕ → ℕ → Type 0
IsNextWithin None most = Unit {0}
IsNextWithin (Some number) most = number ≤ most

-- An area holds these records: a store of this epoch up to a closed gate at this place, and then anything. The record behind
-- them would have the next number.
pub record Holds (next : Option ℕ) (epoch : ℕ) (payloads : List (List ℕ)) (end : ℕ) (image : List ℕ) : Type 0 where
  pub gate : ℕ
  pub rest : List ℕ
  pub bytes : image ≡ opened (format_of next) epoch payloads ++ gate ∷ rest
  pub closed : is_open gate ≡ false
  pub place : end ≡ length (opened (format_of next) epoch payloads)
  pub follows : next ≡ next_after (format_of next) payloads
  pub numbered : IsTrue (is_epoch epoch)

-- Frames of these payloads, one after the other: behind an open gate they are the records of a store of the second format, and
-- then a closed gate of 00. The record behind them would have this number.
pub record IsFrames (payloads : List (List ℕ)) (next : ℕ) (first : List ℕ) : Type 0 where
  pub spelled : 1 ∷ first ≡ open_records Second 1 payloads ++ 0 ∷ []
  pub follows : next ≡ length payloads + 1
