-- An area that is read as a store holds its records.
use Rattle.std.proofs.Common.{◌≡◌, ℕ, zero, suc, ◌+◌, ◌≤◌, ◌<◌, Bool, true, false, not, ◌||◌, ◌&&◌, nat_eq, nat_lt, IsTrue, List, [], ◌∷◌, ◌++◌, length, take, drop, slice_index, Some, None, refl, sym, ◌∙◌, ap, subst, arith, append_assoc, length-take, length-drop, if◌then◌else◌, lit<}
use Rattle.std.specs.declared.option.Option.{Option}
use Rattle.std.proofs.lemmas.Bool.{and_parts}
use Rattle.std.proofs.lemmas.Bool.Decides.{nat_tests}
use Rattle.std.proofs.lemmas.List.{take-append-drop, drop-drop}
use Rattle.std.proofs.lemmas.Nat.{be_bytes_8}
use Rattle.std.proofs.lemmas.Slice.Eq.{bytes_eq-Decides}
use Rattle.byteorder.specs.Endian.{big_bytes, big_number}
use Rattle.byteorder.specs.Numbers.{big_from-take}
use Rattle.pgs_journal.specs.declared.area_state.AreaState.{AreaState}
use Rattle.pgs_journal.specs.declared.area_state.AreaState.TheVariants.{NoStore, Foreign, Damaged, Store}
use Rattle.pgs_journal.specs.declared.format.Format.{Format}
use Rattle.pgs_journal.specs.declared.format.Format.TheVariants.{First, Second}
use Rattle.pgs_journal.specs.Area.{epoch_of, has_magic, format_in, head_format, first_unfit, has_some, judged, store_of, state_with, area_state, HoldsStore}
use Rattle.pgs_journal.specs.Format.{is_open, is_epoch, magic, head_body, record_body, format_of, next_after, open_records, opened, Holds}
use Rattle.pgs_journal.specs.Reading.{Found, Next, Closed, Torn, Whole, sized, record_of, next_of, found_at, records_within, records_in}
use Rattle.pgs_journal.proofs.Images.{open_is_one}
use Rattle.pgs_journal.proofs.ReadingOn.{payload_in, rest_in, is_whole, second_of, whole_gate, body_behind}

abbrev pub IsBytes : List ℕ → Type 0
IsBytes bytes = (i : ℕ) → slice_index bytes i < 256

front_bytes : (n : ℕ) (bytes : List ℕ) → IsBytes bytes → IsBytes (take n bytes)
front_bytes zero bytes small i = lit< tt
front_bytes (suc n) [] small i = lit< tt
front_bytes (suc n) (b ∷ bytes) small zero = small 0
front_bytes (suc n) (b ∷ bytes) small (suc i) = front_bytes n bytes (λ j. small (suc j)) i

back_bytes : (n : ℕ) (bytes : List ℕ) → IsBytes bytes → IsBytes (drop n bytes)
back_bytes zero bytes small i = small i
back_bytes (suc n) [] small i = lit< tt
back_bytes (suc n) (b ∷ bytes) small i = back_bytes n bytes (λ j. small (suc j)) i

-- a number of eight bytes, written again
pub number_again : (bytes : List ℕ) → 8 ≤ length bytes → IsBytes bytes → big_bytes 8 (big_number 8 bytes) ≡ take 8 bytes
number_again bytes long small =
    be_bytes_8 (take 8 bytes) (big_number 8 bytes) (omega (arith, length-take 8 bytes, long)) (front_bytes 8 bytes small)
    (sym (big_from-take 0 8 8 bytes (omega arith)) ∙ omega arith)

-- bytes by the number that they begin with
numbered_again : (bytes : List ℕ) (number : ℕ) → 8 ≤ length bytes → IsBytes bytes → big_number 8 bytes ≡ number → bytes ≡ big_bytes 8 number ++ drop 8 bytes
numbered_again bytes number long small is =
    sym (take-append-drop 8 bytes) ∙ ap (λ (l : List ℕ). l ++ drop 8 bytes) (sym (number_again bytes long small) ∙ ap (big_bytes 8) is)

-- bytes that begin with a whole record
record IsWhole (format : Format) (number : ℕ) (bytes payload rest : List ℕ) : Type 0 where
  spelled : bytes ≡ record_body format number payload ++ rest
  small : IsBytes rest
  some : 1 ≤ length rest

sized_whole : (bytes payload rest : List ℕ) → IsBytes bytes → sized bytes ≡ Whole payload rest → (bytes ≡ big_bytes 8 (length payload) ++ (payload ++ rest)) × (IsBytes rest × (1 ≤ length rest))
unfolding is_whole payload_in rest_in
sized_whole bytes payload rest small is = at (nat_lt (8 + big_number 8 bytes) (length bytes)) refl is
  where
    there : (size : ℕ) → size ≡ big_number 8 bytes → nat_lt (8 + size) (length bytes) ≡ true → take size (drop 8 bytes) ≡ payload → drop (8 + size) bytes ≡ rest
        → (bytes ≡ big_bytes 8 (length payload) ++ (payload ++ rest)) × (IsBytes rest × (1 ≤ length rest))
    there size read lt front back =
        let below : 8 + size < length bytes = grind (arith, nat_tests) in
        let long : length payload ≡ size = omega (arith, ap length front, length-take size (drop 8 bytes), length-drop 8 bytes, below) in (
          numbered_again bytes (length payload) (omega (arith, below)) small (sym (long ∙ read))
              ∙ ap (λ (l : List ℕ). big_bytes 8 (length payload) ++ l)
              (sym (take-append-drop size (drop 8 bytes)) ∙ ap (λ (l : List ℕ). l ++ drop size (drop 8 bytes)) front ∙ ap (λ (l : List ℕ). payload ++ l) (drop-drop size 8 bytes ∙ back)),
          (subst IsBytes back (back_bytes (8 + size) bytes small), omega (arith, ap length back, length-drop (8 + size) bytes, below)),
        )

    at : (b : Bool) → nat_lt (8 + big_number 8 bytes) (length bytes) ≡ b → (if b then Whole (take (big_number 8 bytes) (drop 8 bytes)) (drop (8 + big_number 8 bytes) bytes) else Torn) ≡ Whole payload rest
        → (bytes ≡ big_bytes 8 (length payload) ++ (payload ++ rest)) × (IsBytes rest × (1 ≤ length rest))
    at true lt same = there (big_number 8 bytes) refl lt (ap payload_in same) (ap rest_in same)
    at false lt same = absurd (let h : false ≡ true = ap is_whole same in cc)

whole_at : (format : Format) (number : ℕ) (bytes payload rest : List ℕ) → IsBytes bytes → record_of format number bytes ≡ Whole payload rest → IsWhole format number bytes payload rest
whole_at First number bytes payload rest small is =
    let whole = sized_whole bytes payload rest small is in
    record { spelled = whole.0 ∙ sym (body_behind First number payload rest); small = whole.1.0; some = whole.1.1 }
whole_at Second number bytes payload rest small is =
    let parts = second_of number bytes payload rest is in
    let whole = sized_whole (drop 8 bytes) payload rest (back_bytes 8 bytes small) parts.1 in
    record {
      spelled =
          numbered_again bytes number (omega (arith, ap length whole.0, length-drop 8 bytes)) small parts.0 ∙ ap (λ (l : List ℕ). big_bytes 8 number ++ l) whole.0
          ∙ sym (body_behind Second number payload rest);
      small = whole.1.0;
      some = whole.1.1;
    }

is_closed : Next → Bool
is_closed Closed = true
is_closed Torn = false
is_closed (Whole payload rest) = false

-- no record is a closed gate
not_closed : (format : Format) (number : ℕ) (bytes : List ℕ) → is_closed (record_of format number bytes) ≡ false
unfolding is_closed
not_closed format number bytes = at format
  where
    of_size : (l : List ℕ) → is_closed (sized l) ≡ false
    of_size l = some (nat_lt (8 + big_number 8 l) (length l))
      where
        some : (b : Bool) → is_closed (if b then Whole (take (big_number 8 l) (drop 8 l)) (drop (8 + big_number 8 l) l) else Torn) ≡ false
        some true = refl
        some false = refl

    of_number : (b : Bool) → is_closed (if b then sized (drop 8 bytes) else Torn) ≡ false
    of_number true = of_size (drop 8 bytes)
    of_number false = refl

    at : (f : Format) → is_closed (record_of f number bytes) ≡ false
    at First = of_size bytes
    at Second = of_number (nat_eq (big_number 8 bytes) number)

closed_at : (format : Format) (number gate : ℕ) (bytes : List ℕ) → next_of format number (gate ∷ bytes) ≡ Closed → is_open gate ≡ false
unfolding is_closed
closed_at format number gate bytes is = some (is_open gate) refl is
  where
    some : (b : Bool) → is_open gate ≡ b → (if b then record_of format number bytes else Closed) ≡ Closed → is_open gate ≡ false
    some true opened_now same = absurd (let h : false ≡ true = sym (not_closed format number bytes) ∙ ap is_closed same in cc)
    some false closed same = closed

-- ---- records one after the other

-- bytes that are these records with open gates, a closed gate, and then anything
record Ends (format : Format) (number : ℕ) (payloads : List (List ℕ)) (bytes : List ℕ) : Type 0 where
  gate : ℕ
  rest : List ℕ
  spelled : bytes ≡ open_records format number payloads ++ gate ∷ rest
  closed : is_open gate ≡ false

module _ (format : Format) where
  -- one record before them
  one_more : (number gate : ℕ) (bytes payload rest : List ℕ) (payloads : List (List ℕ)) → is_open gate ≡ true → IsWhole format number bytes payload rest → Ends format (suc number) payloads rest
      → Ends format number (payload ∷ payloads) (gate ∷ bytes)
  one_more number gate bytes payload rest payloads opened_now whole ends =
      record {
        gate = ends.gate;
        rest = ends.rest;
        spelled =
            ap (λ x. x ∷ bytes) (open_is_one gate opened_now)
            ∙ ap (λ (l : List ℕ). 1 ∷ l)
            (whole.spelled ∙ ap (λ (l : List ℕ). record_body format number payload ++ l) ends.spelled
            ∙ sym (append_assoc (record_body format number payload) (open_records format (suc number) payloads) (ends.gate ∷ ends.rest)));
        closed = ends.closed;
      }

  -- records that are read up to a closed gate stand there
  records_stand : (most number : ℕ) (bytes : List ℕ) → IsBytes bytes → 1 ≤ length bytes → (records_within format most number bytes).ended ≡ true → Ends format number (records_within format most number bytes).payloads bytes
  records_stand zero number bytes small some is = absurd (let h : false ≡ true = is in cc)
  records_stand (suc most) number [] small some is = absurd (omega (arith, some))
  records_stand (suc most) number (gate ∷ bytes) small some is = at (next_of format number (gate ∷ bytes)) refl (λ rest. records_stand most (suc number) rest) is
    where
      at : (n : Next) → next_of format number (gate ∷ bytes) ≡ n
          → ((rest : List ℕ) → IsBytes rest → 1 ≤ length rest → (records_within format most (suc number) rest).ended ≡ true → Ends format (suc number) (records_within format most (suc number) rest).payloads rest)
          → (found_at n (λ rest. records_within format most (suc number) rest)).ended ≡ true → Ends format number (found_at n (λ rest. records_within format most (suc number) rest)).payloads (gate ∷ bytes)
      at Closed same behind ended = record { gate = gate; rest = bytes; spelled = refl; closed = closed_at format number gate bytes same }
      at Torn same behind ended = absurd (let h : false ≡ true = ended in cc)
      at (Whole payload rest) same behind ended =
          let gated = whole_gate format number gate bytes payload rest same in
          let whole = whole_at format number bytes payload rest (λ j. small (suc j)) gated.1 in
          one_more number gate bytes payload rest (records_within format most (suc number) rest).payloads gated.0 whole (behind rest whole.small whole.some ended)

-- ---- the head

some_same : (x y : Format) → Some x ≡ Some y → x ≡ y
some_same x y is = cc

-- the seven bytes of the format that is read
magic_of : (image : List ℕ) (format : Format) → format_in image ≡ Some format → take 7 (drop 1 image) ≡ magic format
magic_of image format is = first (has_magic First image) refl is
  where
    second : (b : Bool) → has_magic Second image ≡ b → (if b then Some Second else None) ≡ Some format → take 7 (drop 1 image) ≡ magic format
    second true there same = (bytes_eq-Decides (take 7 (drop 1 image)) (magic Second)).0 there ∙ ap magic (some_same Second format same)
    second false there same = absurd (let o : Option Format = None in let h : o ≡ Some format = same in cc)

    first : (b : Bool) → has_magic First image ≡ b → (if b then Some First else (if has_magic Second image then Some Second else None)) ≡ Some format → take 7 (drop 1 image) ≡ magic format
    first true there same = (bytes_eq-Decides (take 7 (drop 1 image)) (magic First)).0 there ∙ ap magic (some_same First format same)
    first false there same = second (has_magic Second image) refl same

pub head_parts : (image : List ℕ) (format : Format) → head_format image ≡ Some format → IsTrue (is_epoch (epoch_of image)) × (take 7 (drop 1 image) ≡ magic format)
head_parts image format is = at (is_epoch (epoch_of image)) refl is
  where
    at : (b : Bool) → is_epoch (epoch_of image) ≡ b → (if b then format_in image else None) ≡ Some format → IsTrue (is_epoch (epoch_of image)) × (take 7 (drop 1 image) ≡ magic format)
    at true there same = (there, magic_of image format same)
    at false there same = absurd (let o : Option Format = None in let h : o ≡ Some format = same in cc)

-- the seven bytes and the epoch behind the first gate
pub head_stands : (format : Format) (gate : ℕ) (bytes : List ℕ) → 17 ≤ length (gate ∷ bytes) → IsBytes bytes → take 7 bytes ≡ magic format → bytes ≡ head_body format (epoch_of (gate ∷ bytes)) ++ drop 15 bytes
head_stands format gate bytes long small is =
    sym (take-append-drop 7 bytes) ∙ ap (λ (l : List ℕ). l ++ drop 7 bytes) is
    ∙ ap (λ (l : List ℕ). magic format ++ l)
    (numbered_again (drop 7 bytes) (big_number 8 (drop 7 bytes)) (omega (arith, length-drop 7 bytes, long)) (back_bytes 7 bytes small) refl
    ∙ ap (λ (l : List ℕ). big_bytes 8 (big_number 8 (drop 7 bytes)) ++ l) (drop-drop 8 7 bytes))
    ∙ sym (append_assoc (magic format) (big_bytes 8 (big_number 8 (drop 7 bytes))) (drop 15 bytes))

-- ---- the whole area

-- the next number tells the format
pub told : (format : Format) (payloads : List (List ℕ)) → format_of (next_after format payloads) ≡ format
told First payloads = refl
told Second payloads = refl

pub holds_of : (format : Format) (epoch : ℕ) (payloads : List (List ℕ)) (end : ℕ) (image : List ℕ) (gate : ℕ) (rest : List ℕ) → image ≡ opened format epoch payloads ++ gate ∷ rest → is_open gate ≡ false
    → end ≡ length (opened format epoch payloads) → IsTrue (is_epoch epoch) → Holds (next_after format payloads) epoch payloads end image
holds_of First epoch payloads end image gate rest bytes closed place numbered =
    record { gate = gate; rest = rest; bytes = bytes; closed = closed; place = place; follows = refl; numbered = numbered }
holds_of Second epoch payloads end image gate rest bytes closed place numbered =
    record { gate = gate; rest = rest; bytes = bytes; closed = closed; place = place; follows = refl; numbered = numbered }

-- the area of a store holds its records, and each is fit
abbrev HoldsFit : AreaState → List ℕ → Type 0
HoldsFit NoStore image = Unit {0}
HoldsFit Foreign image = Unit {0}
HoldsFit (Damaged epoch number) image = Unit {0}
HoldsFit (Store epoch end next payloads) image = Holds next epoch payloads end image × ((has_some payloads ≡ true) × (first_unfit (format_of next) epoch 1 payloads ≡ None))

module _ (gate : ℕ) (bytes : List ℕ) (long : 17 ≤ length (gate ∷ bytes)) (small : IsBytes bytes) (opened_now : is_open gate ≡ true) where
  abbrev written_epoch : ℕ
  written_epoch = epoch_of (gate ∷ bytes)

  abbrev found : Format → Found
  found format = records_in format (drop 15 bytes)

  -- the store of all that is found
  abbrev stored : Format → AreaState
  stored format = Store written_epoch (length (opened format written_epoch (found format).payloads)) (next_after format (found format).payloads) (found format).payloads

  holds_found : (format : Format) → take 7 bytes ≡ magic format → IsTrue (is_epoch written_epoch) → (found format).ended ≡ true
      → Holds (next_after format (found format).payloads) written_epoch (found format).payloads (length (opened format written_epoch (found format).payloads)) (gate ∷ bytes)
  holds_found format head numbered ended =
      let ends = records_stand format (suc (length (drop 15 bytes))) 1 (drop 15 bytes) (back_bytes 15 bytes small) (omega (arith, length-drop 15 bytes, long)) ended in
      let payloads = (found format).payloads in
      holds_of format written_epoch payloads (length (opened format written_epoch payloads)) (gate ∷ bytes) ends.gate ends.rest
      (ap (λ x. x ∷ bytes) (open_is_one gate opened_now)
      ∙ ap (λ (l : List ℕ). 1 ∷ l)
      (head_stands format gate bytes long small head ∙ ap (λ (l : List ℕ). head_body format written_epoch ++ l) ends.spelled
      ∙ sym (append_assoc (head_body format written_epoch) (open_records format 1 payloads) (ends.gate ∷ ends.rest))))
      ends.closed refl numbered

  fit_found : (format : Format) → take 7 bytes ≡ magic format → IsTrue (is_epoch written_epoch) → (o : Option ℕ) → first_unfit format written_epoch 1 (found format).payloads ≡ o
      → HoldsFit (judged o written_epoch (store_of format written_epoch (found format))) (gate ∷ bytes)
  fit_found format head numbered (Some number) is = tt
  fit_found format head numbered None is = some ((found format).ended && has_some (found format).payloads) refl
    where
      some : (b : Bool) → ((found format).ended && has_some (found format).payloads) ≡ b → HoldsFit (if b then stored format else Damaged written_epoch (length (found format).payloads + 1)) (gate ∷ bytes)
      some true both =
          let payloads = (found format).payloads in
          let parts = and_parts (found format).ended (has_some payloads) both in
          (holds_found format head numbered parts.0, (parts.1, ap (λ f. first_unfit f written_epoch 1 payloads) (told format payloads) ∙ is))
      some false both = tt

  head_found : (o : Option Format) → head_format (gate ∷ bytes) ≡ o → HoldsFit (state_with o (gate ∷ bytes)) (gate ∷ bytes)
  head_found (Some format) is =
      let parts = head_parts (gate ∷ bytes) format is in
      fit_found format parts.1 parts.0 (first_unfit format written_epoch 1 (found format).payloads) refl
  head_found None is = tt

-- what is read of an area of bytes is what it holds
holds-fit : (image : List ℕ) → IsBytes image → HoldsFit (area_state image) image
holds-fit [] small = tt
holds-fit (gate ∷ bytes) small = store (nat_lt (length (gate ∷ bytes)) 17) refl (is_open gate) refl
  where
    at_least : nat_lt (length (gate ∷ bytes)) 17 ≡ false → 17 ≤ length (gate ∷ bytes)
    at_least is = grind (arith, nat_tests)

    store : (short : Bool) → nat_lt (length (gate ∷ bytes)) 17 ≡ short → (b : Bool) → is_open gate ≡ b
        → HoldsFit (if (short || not b) then NoStore else state_with (head_format (gate ∷ bytes)) (gate ∷ bytes)) (gate ∷ bytes)
    store true is b gate_is = tt
    store false is false gate_is = tt
    store false is true gate_is = head_found gate bytes (at_least is) (λ j. small (suc j)) gate_is (head_format (gate ∷ bytes)) refl

holds-of-fit : (state : AreaState) (image : List ℕ) → HoldsFit state image → HoldsStore state image
holds-of-fit NoStore image is = tt
holds-of-fit Foreign image is = tt
holds-of-fit (Damaged epoch number) image is = tt
holds-of-fit (Store epoch end next payloads) image is = is.0

pub holds-store : (image : List ℕ) → IsBytes image → HoldsStore (area_state image) image
holds-store image small = holds-of-fit (area_state image) image (holds-fit image small)

-- a store that is read
pub read-holds : (epoch end : ℕ) (next : Option ℕ) (payloads : List (List ℕ)) (image : List ℕ) → IsBytes image → area_state image ≡ Store epoch end next payloads
    → Holds next epoch payloads end image × ((has_some payloads ≡ true) × (first_unfit (format_of next) epoch 1 payloads ≡ None))
read-holds epoch end next payloads image small is = subst (λ s. HoldsFit s image) is (holds-fit image small)
