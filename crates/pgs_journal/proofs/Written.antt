-- What was written as a store is read as it.
use Rattle.std.proofs.Common.{◌≡◌, ℕ, zero, suc, ◌+◌, ◌-◌, ◌≤◌, ◌<◌, ◌^◌, Bool, true, false, ◌||◌, ◌&&◌, nat_lt, nat_eq, IsTrue, List, [], ◌∷◌, ◌++◌, length, take, drop, Some, None, refl, sym, ◌∙◌, ap, arith, add-one, append_assoc, length-append, if◌then◌else◌}
use Rattle.std.specs.declared.option.Option.{Option}
use Rattle.std.proofs.lemmas.Bool.Decides.{nat_tests}
use Rattle.std.proofs.lemmas.List.{append-nil}
use Rattle.std.proofs.Math.Seq.{take-append_seam, drop-append_seam}
use Rattle.byteorder.specs.Endian.{big_bytes, big_number}
use Rattle.byteorder.specs.Numbers.{big_number-reads_back}
use Rattle.pgs_journal.specs.declared.area_state.AreaState.{AreaState}
use Rattle.pgs_journal.specs.declared.area_state.AreaState.TheVariants.{NoStore, Damaged, Store}
use Rattle.pgs_journal.specs.declared.format.Format.{Format}
use Rattle.pgs_journal.specs.declared.format.Format.TheVariants.{First, Second}
use Rattle.pgs_journal.specs.declared.head.Head.TheVariants as heads
use Rattle.pgs_journal.specs.Area.{epoch_of, format_in, head_format, head_with, head_of, first_unfit, is_fit, is_sound, has_some, judged, store_of, state_within, state_with, area_state}
use Rattle.pgs_journal.specs.Format.{is_open, is_epoch, head_body, record_body, open_records, opened, format_of, next_after, Holds}
use Rattle.pgs_journal.specs.Reading.{Next, Closed, Torn, Whole, Found, sized, record_of, next_of, after_one, found_at, records_within, records_in}
use Rattle.pgs_journal.specs.Told.{IsUnended}

is_less : (m n : ℕ) → m < n → nat_lt m n ≡ true
is_less m n lt = grind (arith, nat_tests)

not_less : (m n : ℕ) → n ≤ m → nat_lt m n ≡ false
not_less m n le = grind (arith, nat_tests)

is_same : (n : ℕ) → nat_eq n n ≡ true
is_same n = grind (arith, nat_tests)

-- a payload that stands whole behind its length
whole_sized : (payload behind : List ℕ) → length payload < 256 ^ 8 → 1 ≤ length behind → sized (big_bytes 8 (length payload) ++ (payload ++ behind)) ≡ Whole payload behind
whole_sized payload behind small some =
    let size : big_number 8 (big_bytes 8 (length payload) ++ (payload ++ behind)) ≡ length payload = big_number-reads_back 8 (length payload) (payload ++ behind) small in
    ap (λ n. if nat_lt (8 + n) (length (big_bytes 8 (length payload) ++ (payload ++ behind))) then Whole (take n (payload ++ behind)) (drop (8 + n) (big_bytes 8 (length payload) ++ (payload ++ behind))) else Torn) size
    ∙ ap (λ (b : Bool). if b then Whole (take (length payload) (payload ++ behind)) (drop (8 + length payload) (big_bytes 8 (length payload) ++ (payload ++ behind))) else Torn)
    (is_less (8 + length payload) (length (big_bytes 8 (length payload) ++ (payload ++ behind))) (omega (arith, length-append payload behind, some)))
    ∙ ap (λ (l : List ℕ). Whole l (drop (8 + length payload) (big_bytes 8 (length payload) ++ (payload ++ behind)))) (take-append_seam payload behind)
    ∙ ap (λ (l : List ℕ). Whole payload l) (behind_both (big_bytes 8 (length payload)) payload behind refl)
  where
    behind_both : (a b c : List ℕ) → length a ≡ 8 → drop (8 + length b) (a ++ (b ++ c)) ≡ c
    behind_both a b c eight =
        ap (λ (l : List ℕ). drop (8 + length b) l) (sym (append_assoc a b c)) ∙ ap (λ n. drop n (a ++ b ++ c)) (sym (length-append a b ∙ ap (λ n. n + length b) eight)) ∙ drop-append_seam (a ++ b) c

-- a record that stands whole behind its open gate
pub whole : (format : Format) (number : ℕ) (payload behind : List ℕ) → number < 256 ^ 8 → length payload < 256 ^ 8 → 1 ≤ length behind → record_of format number (record_body format number payload ++ behind) ≡ Whole payload behind
whole First number payload behind few small some = ap sized (append_assoc (big_bytes 8 (length payload)) payload behind) ∙ whole_sized payload behind small some
whole Second number payload behind few small some =
    let all = big_bytes 8 (length payload) ++ payload ++ behind in
    let read : big_number 8 (big_bytes 8 number ++ all) ≡ number = big_number-reads_back 8 number all few in
    ap (λ n. if nat_eq n number then sized all else Torn) read ∙ ap (λ (b : Bool). if b then sized all else Torn) (is_same number)
    ∙ ap sized (append_assoc (big_bytes 8 (length payload)) payload behind) ∙ whole_sized payload behind small some

-- each payload has a length of eight bytes
abbrev pub AreSmall : List (List ℕ) → Type 0
AreSmall [] = Unit {0}
AreSmall (payload ∷ payloads) = (length payload < 256 ^ 8) × AreSmall payloads

-- these payloads, and then those that were found
abbrev pub prepend : List (List ℕ) → Found → Found
prepend payloads found = record { payloads = payloads ++ found.payloads; ended = found.ended }

-- records that stand with open gates are read, and then what is behind them
records_behind : (format : Format) (total most number next : ℕ) (payloads : List (List ℕ)) (tail : List ℕ) → AreSmall payloads → next < 256 ^ 8 → 1 ≤ length tail → total ≡ length payloads + most → next ≡ number + length payloads
    → records_within format total number (open_records format number payloads ++ tail) ≡ prepend payloads (records_within format most next tail)
records_behind format total most number next [] tail small few some all is =
    let same : total ≡ most = omega (arith, all) in
    let here : number ≡ next = omega (arith, is) in
    ap (λ n. records_within format n number tail) same ∙ ap (λ n. records_within format most n tail) here
records_behind format zero most number next (payload ∷ payloads) tail small few some all is = absurd (omega (arith, all))
records_behind format (suc total) most number next (payload ∷ payloads) tail small few some all is =
    let behind = open_records format (suc number) payloads ++ tail in
    ap (λ (l : List ℕ). found_at (record_of format number l) (λ rest. records_within format total (suc number) rest))
    (append_assoc (record_body format number payload) (open_records format (suc number) payloads) tail)
    ∙ ap (λ (n : Next). found_at n (λ rest. records_within format total (suc number) rest))
    (whole format number payload behind (omega (arith, is, few)) small.0 (omega (arith, some, length-append (open_records format (suc number) payloads) tail)))
    ∙ ap (after_one payload) (records_behind format total most (suc number) next payloads tail small.1 few some (omega (arith, all)) (omega (arith, is)))

-- a record takes more bytes than its payload
size_in : (format : Format) (number : ℕ) (payload : List ℕ) → 8 + length payload ≤ length (record_body format number payload)
size_in First number payload = omega (arith, length-append (big_bytes 8 (length payload)) payload)
size_in Second number payload = omega (arith, length-append (big_bytes 8 number) (big_bytes 8 (length payload) ++ payload), length-append (big_bytes 8 (length payload)) payload)

-- payloads are shorter than their records, and no more than the bytes of these
small_in : (format : Format) (number : ℕ) (payloads : List (List ℕ)) → length (open_records format number payloads) < 256 ^ 8 → AreSmall payloads
small_in format number [] fits = tt
small_in format number (payload ∷ payloads) fits =
    let size = length-append (record_body format number payload) (open_records format (suc number) payloads) in
    (omega (arith, fits, size, size_in format number payload), small_in format (suc number) payloads (omega (arith, fits, size)))

pub few_in : (format : Format) (number : ℕ) (payloads : List (List ℕ)) → length payloads ≤ length (open_records format number payloads)
few_in format number [] = omega arith
few_in format number (payload ∷ payloads) =
    omega (arith, few_in format (suc number) payloads, length-append (record_body format number payload) (open_records format (suc number) payloads))

-- the number of the first unfit record, where some first ones are fit
pub unfit_on : (format : Format) (epoch number next : ℕ) (payloads more : List (List ℕ)) → next ≡ number + length payloads → first_unfit format epoch number payloads ≡ None
    → first_unfit format epoch number (payloads ++ more) ≡ first_unfit format epoch next more
unfit_on format epoch number next [] more is fit = let same : number ≡ next = omega (arith, is) in ap (λ n. first_unfit format epoch n more) same
unfit_on format epoch number next (payload ∷ payloads) more is fit = at (is_fit format epoch number payload) fit (λ rest. unfit_on format epoch (suc number) next payloads more (omega (arith, is)) rest)
  where
    at : (b : Bool) → (if b then first_unfit format epoch (suc number) payloads else Some number) ≡ None
        → (first_unfit format epoch (suc number) payloads ≡ None → first_unfit format epoch (suc number) (payloads ++ more) ≡ first_unfit format epoch next more)
        → (if b then first_unfit format epoch (suc number) (payloads ++ more) else Some number) ≡ first_unfit format epoch next more
    at true rest go = go rest
    at false rest go = absurd (let o : Option ℕ = None in let h : Some number ≡ o = rest in cc)

-- the parts of a head that stands with some bytes behind it
head_length : (format : Format) (epoch : ℕ) (behind : List ℕ) → length (1 ∷ (head_body format epoch ++ behind)) ≡ 16 + length behind
head_length First epoch behind = omega arith
head_length Second epoch behind = omega arith

head_opens : (format : Format) (epoch : ℕ) (behind : List ℕ) → format_in (1 ∷ (head_body format epoch ++ behind)) ≡ Some format
head_opens First epoch behind = refl
head_opens Second epoch behind = refl

head_epoch : (format : Format) (epoch : ℕ) (behind : List ℕ) → epoch < 256 ^ 8 → epoch_of (1 ∷ (head_body format epoch ++ behind)) ≡ epoch
head_epoch First epoch behind small = big_number-reads_back 8 epoch behind small
head_epoch Second epoch behind small = big_number-reads_back 8 epoch behind small

head_behind : (format : Format) (epoch : ℕ) (behind : List ℕ) → drop 16 (1 ∷ (head_body format epoch ++ behind)) ≡ behind
head_behind First epoch behind = refl
head_behind Second epoch behind = refl

-- such an area is a store, whatever is behind the head
pub state_behind : (format : Format) (epoch : ℕ) (behind : List ℕ) → IsTrue (is_epoch epoch) → epoch < 256 ^ 8 → 1 ≤ length behind
    → area_state (1 ∷ (head_body format epoch ++ behind)) ≡ state_within format epoch (records_in format behind)
state_behind format epoch behind numbered small some =
    let all = 1 ∷ (head_body format epoch ++ behind) in
    let read = head_epoch format epoch behind small in
    ap (λ (b : Bool). if (b || false) then NoStore else state_with (head_format all) all) (not_less (length all) 17 (omega (arith, head_length format epoch behind, some)))
    ∙ ap (λ (o : Option Format). state_with o all) (ap (λ e. if is_epoch e then format_in all else None) read ∙ ap (λ (b : Bool). if b then format_in all else None) numbered ∙ head_opens format epoch behind)
    ∙ ap (λ e. state_within format e (records_in format (drop 16 all))) read ∙ ap (λ (l : List ℕ). state_within format epoch (records_in format l)) (head_behind format epoch behind)

-- An area of an open head, whole and fit records with open gates, and some bytes behind them.
pub record Opened (format : Format) (epoch : ℕ) (payloads : List (List ℕ)) (tail : List ℕ) : Type 0 where
  pub numbered : IsTrue (is_epoch epoch)
  pub epoch_small : epoch < 256 ^ 8
  pub small : length (opened format epoch payloads) < 256 ^ 8
  pub some : 1 ≤ length tail
  pub fit : first_unfit format epoch 1 payloads ≡ None

abbrev pub behind_head : Format → List (List ℕ) → List ℕ → List ℕ
behind_head format payloads tail = open_records format 1 payloads ++ tail

-- how many records there could be behind those
abbrev pub left : Format → List (List ℕ) → List ℕ → ℕ
left format payloads tail = length (behind_head format payloads tail) - length payloads

module _ (format : Format) (epoch : ℕ) (payloads : List (List ℕ)) (tail : List ℕ) (small : length (opened format epoch payloads) < 256 ^ 8) (some : 1 ≤ length tail) where
  small_behind : 16 + length (open_records format 1 payloads) < 256 ^ 8
  small_behind = omega (arith, small, head_length format epoch (open_records format 1 payloads))

  found_behind : records_in format (behind_head format payloads tail) ≡ prepend payloads (records_within format (suc (left format payloads tail)) (suc (length payloads)) tail)
  found_behind =
      records_behind format (suc (length (behind_head format payloads tail))) (suc (left format payloads tail)) 1 (suc (length payloads)) payloads tail (small_in format 1 payloads (omega (arith, small_behind)))
      (omega (arith, few_in format 1 payloads, small_behind)) some (omega (arith, few_in format 1 payloads, length-append (open_records format 1 payloads) tail)) (omega arith)

  -- what is found in the whole area, by what stands at the gate behind them
  pub found_in : (next : Next) → next_of format (suc (length payloads)) tail ≡ next
      → records_in format (drop 16 (opened format epoch payloads ++ tail)) ≡ prepend payloads (found_at next (λ rest. records_within format (left format payloads tail) (suc (suc (length payloads))) rest))
  found_in next is =
      ap (λ (l : List ℕ). records_in format (drop 16 (1 ∷ l))) (append_assoc (head_body format epoch) (open_records format 1 payloads) tail)
      ∙ ap (λ (l : List ℕ). records_in format l) (head_behind format epoch (behind_head format payloads tail)) ∙ found_behind
      ∙ ap (λ (n : Next). prepend payloads (found_at n (λ rest. records_within format (left format payloads tail) (suc (suc (length payloads))) rest))) is

  -- what the head says of it
  pub head_in_front : IsTrue (is_epoch epoch) → epoch < 256 ^ 8 → head_of (opened format epoch payloads ++ tail) ≡ heads.Store format epoch
  head_in_front numbered few =
      let all = 1 ∷ (head_body format epoch ++ behind_head format payloads tail) in
      let read = head_epoch format epoch (behind_head format payloads tail) few in
      ap (λ (l : List ℕ). head_of (1 ∷ l)) (append_assoc (head_body format epoch) (open_records format 1 payloads) tail)
      ∙ ap (λ (b : Bool). if (b || false) then heads.NoStore else head_with (head_format all) (epoch_of all))
      (not_less (length all) 17 (omega (arith, head_length format epoch (behind_head format payloads tail), length-append (open_records format 1 payloads) tail, some)))
      ∙ ap (λ (o : Option Format). head_with o (epoch_of all))
      (ap (λ e. if is_epoch e then format_in all else None) read ∙ ap (λ (b : Bool). if b then format_in all else None) numbered ∙ head_opens format epoch (behind_head format payloads tail))
      ∙ ap (λ e. heads.Store format e) read

module _ (format : Format) (epoch : ℕ) (payloads : List (List ℕ)) (tail : List ℕ) (is : Opened format epoch payloads tail) where
  abbrev all : List ℕ
  all = opened format epoch payloads ++ tail

  state_opened : area_state all ≡ state_within format epoch (prepend payloads (records_within format (suc (left format payloads tail)) (suc (length payloads)) tail))
  state_opened =
      ap (λ (l : List ℕ). area_state (1 ∷ l)) (append_assoc (head_body format epoch) (open_records format 1 payloads) tail)
      ∙ state_behind format epoch (behind_head format payloads tail) is.numbered is.epoch_small (omega (arith, length-append (open_records format 1 payloads) tail, is.some)) ∙ ap (λ f. state_within format epoch f) (found_behind format epoch payloads tail is.small is.some)

  -- what is read behind them at this gate
  abbrev at_gate : Next → AreaState
  at_gate next = state_within format epoch (prepend payloads (found_at next (λ rest. records_within format (left format payloads tail) (suc (suc (length payloads))) rest)))

  -- the store of all of them
  abbrev all_stored : AreaState
  all_stored = Store epoch (length (opened format epoch payloads)) (next_after format payloads) payloads

  all_payloads : (ended : Bool) → state_within format epoch (prepend payloads (record { payloads = []; ended = ended })) ≡ (if ended && has_some payloads then all_stored else Damaged epoch (length payloads + 1))
  all_payloads ended =
      ap (λ (ps : List (List ℕ)). state_within format epoch (record { payloads = ps; ended = ended })) (append-nil payloads)
      ∙ ap (λ o. judged o epoch (store_of format epoch (record { payloads = payloads; ended = ended }))) is.fit

  -- a closed gate behind some records
  pub store_read : next_of format (suc (length payloads)) tail ≡ Closed → has_some payloads ≡ true → area_state all ≡ Store epoch (length (opened format epoch payloads)) (next_after format payloads) payloads
  store_read closed some = state_opened ∙ ap at_gate closed ∙ all_payloads true ∙ ap (λ (b : Bool). if b then all_stored else Damaged epoch (length payloads + 1)) some

  -- a closed gate behind none
  pub none_read : next_of format (suc (length payloads)) tail ≡ Closed → has_some payloads ≡ false → area_state all ≡ Damaged epoch (length payloads + 1)
  none_read closed none = state_opened ∙ ap at_gate closed ∙ all_payloads true ∙ ap (λ (b : Bool). if b then all_stored else Damaged epoch (length payloads + 1)) none

  -- a damaged record behind them
  pub damaged_read : is_sound format epoch (suc (length payloads)) (next_of format (suc (length payloads)) tail) ≡ false → area_state all ≡ Damaged epoch (length payloads + 1)
  damaged_read unsound = state_opened ∙ at (next_of format (suc (length payloads)) tail) unsound
    where
      at : (next : Next) → is_sound format epoch (suc (length payloads)) next ≡ false → at_gate next ≡ Damaged epoch (length payloads + 1)
      at Closed wrong = absurd (let h : true ≡ false = wrong in cc)
      at Torn wrong = all_payloads false
      at (Whole payload rest) unfit =
          let more = (records_within format (left format payloads tail) (suc (suc (length payloads))) rest).payloads in
          ap (λ o. judged o epoch (store_of format epoch (prepend payloads (after_one payload (records_within format (left format payloads tail) (suc (suc (length payloads))) rest)))))
          (unfit_on format epoch 1 (suc (length payloads)) payloads (payload ∷ more) (omega arith) is.fit
          ∙ ap (λ (b : Bool). if b then first_unfit format epoch (suc (suc (length payloads))) more else Some (suc (length payloads))) unfit)
          ∙ ap (λ n. Damaged epoch n) (sym (add-one (length payloads)))

-- a closed gate ends the reading
pub closed_next : (format : Format) (number gate : ℕ) (rest : List ℕ) → is_open gate ≡ false → next_of format number (gate ∷ rest) ≡ Closed
closed_next format number gate rest closed = ap (λ (b : Bool). if b then record_of format number rest else Closed) closed

-- no closed gate is found where the record behind them isn't whole
pub unended : (format : Format) (epoch : ℕ) (payloads : List (List ℕ)) (tail : List ℕ) → Opened format epoch payloads tail → next_of format (suc (length payloads)) tail ≡ Torn → IsUnended (opened format epoch payloads ++ tail)
unended format epoch payloads tail is torn =
    record {
      format = format;
      epoch = epoch;
      head = head_in_front format epoch payloads tail is.small is.some is.numbered is.epoch_small;
      unended = ap (λ (f : Found). f.ended) (found_in format epoch payloads tail is.small is.some Torn torn);
    }

-- an area that holds fit records is read as a store of them
pub holds-read : (next : Option ℕ) (epoch : ℕ) (payloads : List (List ℕ)) (end : ℕ) (image : List ℕ) → Holds next epoch payloads end image → end < 256 ^ 8 → epoch < 256 ^ 8 → has_some payloads ≡ true → first_unfit (format_of next) epoch 1 payloads ≡ None
    → area_state image ≡ Store epoch end next payloads
holds-read next epoch payloads end image h fits small some fit =
    ap area_state h.bytes
    ∙ store_read (format_of next) epoch payloads (h.gate ∷ h.rest) (record { numbered = h.numbered; epoch_small = small; small = omega (arith, fits, h.place); some = omega arith; fit = fit })
    (closed_next (format_of next) (suc (length payloads)) h.gate h.rest h.closed) some
    ∙ ap (λ n. Store epoch n (next_after (format_of next) payloads) payloads) (sym h.place) ∙ ap (λ (o : Option ℕ). Store epoch end o payloads) (sym h.follows)
