-- How the records of an area are read from its first gate on.
use Rattle.std.specs.Prelude.{ℕ, zero, suc, ◌+◌, Bool, true, false, List, [], ◌∷◌, length, take, drop, nat_eq, nat_lt, if◌then◌else◌}
use Rattle.byteorder.specs.Endian.{big_number}
use Rattle.pgs_journal.specs.declared.format.Format.{Format}
use Rattle.pgs_journal.specs.declared.format.Format.TheVariants.{First, Second}
use Rattle.pgs_journal.specs.Format.{is_open}

-- what stands at a gate
pub data Next : Type 0 where
  -- it is closed
  Closed : Next
  -- an open record that isn't whole, or that bears another number than its place
  Torn : Next
  -- a whole record, and what begins at the gate behind it
  Whole : (payload rest : List ℕ) → Next

-- a length and so many bytes: whole where the gate behind them is inside too
abbrev pub sized : List ℕ → Next
sized bytes =
    let size = big_number 8 bytes in
    if nat_lt (8 + size) (length bytes) then Whole (take size (drop 8 bytes)) (drop (8 + size) bytes) else Torn

-- the record behind an open gate, at the place of this number
abbrev pub record_of : Format → ℕ → List ℕ → Next
record_of First number bytes = sized bytes
record_of Second number bytes = if nat_eq (big_number 8 bytes) number then sized (drop 8 bytes) else Torn

abbrev pub next_of : Format → ℕ → List ℕ → Next
next_of format number [] = Closed
next_of format number (gate ∷ bytes) = if is_open gate then record_of format number bytes else Closed

-- the payloads of the whole records from a gate on, and whether the gate behind them is closed
pub record Found : Type 0 where
  pub payloads : List (List ℕ)
  pub ended : Bool

-- the same with one payload before them
abbrev pub after_one : List ℕ → Found → Found
after_one payload found = record { payloads = payload ∷ found.payloads; ended = found.ended }

abbrev pub found_at : Next → (List ℕ → Found) → Found
found_at Closed go = record { payloads = []; ended = true }
found_at Torn go = record { payloads = []; ended = false }
found_at (Whole payload rest) go = after_one payload (go rest)

-- at most so many records, the first of them of this number
abbrev pub records_within : Format → ℕ → ℕ → List ℕ → Found
records_within format zero number bytes = record { payloads = []; ended = false }
records_within format (suc most) number bytes =
    found_at (next_of format number bytes) (λ rest. records_within format most (suc number) rest)

-- all of them: each takes some bytes
abbrev pub records_in : Format → List ℕ → Found
records_in format bytes = records_within format (suc (length bytes)) 1 bytes
