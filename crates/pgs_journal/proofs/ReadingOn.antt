-- How records are read one by one.
use Rattle.std.proofs.Common.{◌≡◌, ℕ, ◌+◌, ◌≤◌, ◌<◌, ◌^◌, Bool, true, false, nat_eq, nat_lt, List, [], ◌∷◌, ◌++◌, length, take, drop, refl, ◌∙◌, ap, arith, append_assoc, length-take, length-drop, if◌then◌else◌}
use Rattle.std.proofs.lemmas.Bool.Decides.{nat_tests}
use Rattle.byteorder.specs.Endian.{big_number, big_bytes}
use Rattle.byteorder.specs.Numbers.{big_number-reads_back}
use Rattle.pgs_codec.specs.Frame.{number_field}
use Rattle.pgs_journal.specs.declared.format.Format.{Format}
use Rattle.pgs_journal.specs.declared.format.Format.TheVariants.{First, Second}
use Rattle.pgs_journal.specs.Format.{is_open, field_bytes, record_number, record_body}
use Rattle.pgs_journal.specs.Reading.{Next, Closed, Torn, Whole, sized, record_of, next_of}

unfoldable pub payload_in : Next → List ℕ
payload_in Closed = []
payload_in Torn = []
payload_in (Whole payload rest) = payload

unfoldable pub rest_in : Next → List ℕ
rest_in Closed = []
rest_in Torn = []
rest_in (Whole payload rest) = rest

unfoldable pub is_whole : Next → Bool
is_whole Closed = false
is_whole Torn = false
is_whole (Whole payload rest) = true

pub is_less : (m n : ℕ) → m < n → nat_lt m n ≡ true
is_less m n lt = grind (arith, nat_tests)

pub not_less : (m n : ℕ) → n ≤ m → nat_lt m n ≡ false
not_less m n le = grind (arith, nat_tests)

pub same_number : (m n : ℕ) → m ≡ n → nat_eq m n ≡ true
same_number m n is = grind (arith, nat_tests)

pub number_same : (m n : ℕ) → nat_eq m n ≡ true → m ≡ n
number_same m n is = grind (arith, nat_tests)

-- ---- how long a record is

pub body_size : (format : Format) (number : ℕ) (payload : List ℕ) → length (record_body format number payload) ≡ field_bytes format + length payload
body_size First number payload = omega arith
body_size Second number payload = omega arith

sized_size : (bytes payload rest : List ℕ) → sized bytes ≡ Whole payload rest → (length bytes ≡ 8 + length payload + length rest) × (1 ≤ length rest)
unfolding is_whole payload_in rest_in
sized_size bytes payload rest is = at (nat_lt (8 + big_number 8 bytes) (length bytes)) refl is
  where
    there : nat_lt (8 + big_number 8 bytes) (length bytes) ≡ true → take (big_number 8 bytes) (drop 8 bytes) ≡ payload → drop (8 + big_number 8 bytes) bytes ≡ rest
        → (length bytes ≡ 8 + length payload + length rest) × (1 ≤ length rest)
    there lt front back =
        let below : 8 + big_number 8 bytes < length bytes = grind (arith, nat_tests) in
        let p : length payload ≡ big_number 8 bytes = omega (arith, ap length front, length-take (big_number 8 bytes) (drop 8 bytes), length-drop 8 bytes, below) in
        let r : length rest + (8 + big_number 8 bytes) ≡ length bytes = omega (arith, ap length back, length-drop (8 + big_number 8 bytes) bytes, below) in
        (omega (arith, p, r), omega (arith, r, below))

    at : (b : Bool) → nat_lt (8 + big_number 8 bytes) (length bytes) ≡ b → (if b then Whole (take (big_number 8 bytes) (drop 8 bytes)) (drop (8 + big_number 8 bytes) bytes) else Torn) ≡ Whole payload rest
        → (length bytes ≡ 8 + length payload + length rest) × (1 ≤ length rest)
    at true lt same = there lt (ap payload_in same) (ap rest_in same)
    at false lt same = absurd (let h : false ≡ true = ap is_whole same in cc)

-- a record of the second format bears its number
pub second_of : (number : ℕ) (bytes payload rest : List ℕ) → record_of Second number bytes ≡ Whole payload rest → (big_number 8 bytes ≡ number) × (sized (drop 8 bytes) ≡ Whole payload rest)
unfolding is_whole
second_of number bytes payload rest is = at (nat_eq (big_number 8 bytes) number) refl is
  where
    at : (b : Bool) → nat_eq (big_number 8 bytes) number ≡ b → (if b then sized (drop 8 bytes) else Torn) ≡ Whole payload rest → (big_number 8 bytes ≡ number) × (sized (drop 8 bytes) ≡ Whole payload rest)
    at true there same = (number_same (big_number 8 bytes) number there, same)
    at false there same = absurd (let h : false ≡ true = ap is_whole same in cc)

-- a whole record takes its fields and its payload, and at least one byte is behind it
record_size : (format : Format) (number : ℕ) (bytes payload rest : List ℕ) → record_of format number bytes ≡ Whole payload rest → (length bytes ≡ field_bytes format + length payload + length rest) × (1 ≤ length rest)
record_size First number bytes payload rest is = sized_size bytes payload rest is
record_size Second number bytes payload rest is =
    let size = sized_size (drop 8 bytes) payload rest (second_of number bytes payload rest is).1 in
    (omega (arith, size.0, length-drop 8 bytes), size.1)

-- the same from its gate on, which is open
pub whole_gate : (format : Format) (number gate : ℕ) (bytes payload rest : List ℕ) → next_of format number (gate ∷ bytes) ≡ Whole payload rest → (is_open gate ≡ true) × (record_of format number bytes ≡ Whole payload rest)
unfolding is_whole
whole_gate format number gate bytes payload rest is = at (is_open gate) refl is
  where
    at : (b : Bool) → is_open gate ≡ b → (if b then record_of format number bytes else Closed) ≡ Whole payload rest → (is_open gate ≡ true) × (record_of format number bytes ≡ Whole payload rest)
    at true opened_now same = (opened_now, same)
    at false opened_now same = absurd (let h : false ≡ true = ap is_whole same in cc)

pub whole_size : (format : Format) (number : ℕ) (bytes payload rest : List ℕ) → next_of format number bytes ≡ Whole payload rest → (length bytes ≡ 1 + (field_bytes format + length payload) + length rest) × (1 ≤ length rest)
unfolding is_whole
whole_size format number [] payload rest is = absurd (let h : false ≡ true = ap is_whole is in cc)
whole_size format number (gate ∷ bytes) payload rest is =
    let size = record_size format number bytes payload rest (whole_gate format number gate bytes payload rest is).1 in
    (omega (arith, size.0), size.1)

-- ---- records that were written

-- the record and what is behind it
pub body_behind : (format : Format) (number : ℕ) (payload behind : List ℕ)
    → record_body format number payload ++ behind ≡ number_field (record_number format number) ++ (big_bytes 8 (length payload) ++ (payload ++ behind))
body_behind format number payload behind =
    append_assoc (number_field (record_number format number)) (big_bytes 8 (length payload) ++ payload) behind
    ∙ ap (λ (l : List ℕ). number_field (record_number format number) ++ l) (append_assoc (big_bytes 8 (length payload)) payload behind)

-- behind its number a record is its length and its payload
pub numbered_read : (format : Format) (number : ℕ) (bytes : List ℕ) → number < 256 ^ 8 → record_of format number (number_field (record_number format number) ++ bytes) ≡ sized bytes
numbered_read First number bytes small = refl
numbered_read Second number bytes small =
    ap (λ (b : Bool). if b then sized bytes else Torn) (same_number (big_number 8 (big_bytes 8 number ++ bytes)) number (big_number-reads_back 8 number bytes small))
