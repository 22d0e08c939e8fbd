-- A payload as it is appended to a journal.
use Rattle.std.specs.Prelude.{ℕ, List, [], ◌∷◌, ◌++◌, length, Option, Some, None}
use Rattle.byteorder.specs.Endian.{big_bytes}

-- the bytes of a record's number, where its format has one
abbrev pub number_field : Option ℕ → List ℕ
number_field None = []
number_field (Some number) = big_bytes 8 number

-- the record's number where there is one, eight bytes of length, the payload, and a closed gate for the record after it
abbrev pub framed : Option ℕ → List ℕ → List ℕ
framed number payload = number_field number ++ (big_bytes 8 (length payload) ++ (payload ++ 0 ∷ []))
