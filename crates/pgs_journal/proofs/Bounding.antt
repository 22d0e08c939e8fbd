-- What an area's state is bounded by.
use Rattle.std.proofs.Common.{◌≡◌, ℕ, zero, suc, ◌+◌, ◌≤◌, ◌<◌, ◌^◌, Bool, true, false, not, ◌||◌, ◌&&◌, nat_lt, IsTrue, List, [], ◌∷◌, length, drop, Some, None, refl, arith, length-append, length-drop, if◌then◌else◌}
use Rattle.std.specs.declared.option.Option.{Option}
use Rattle.std.proofs.lemmas.Bool.{and_parts}
use Rattle.std.proofs.lemmas.Bool.Decides.{nat_tests}
use Rattle.pgs_journal.specs.declared.area_state.AreaState.TheVariants.{NoStore, Damaged, Store}
use Rattle.pgs_journal.specs.declared.format.Format.{Format}
use Rattle.pgs_journal.specs.declared.format.Format.TheVariants.{First, Second}
use Rattle.pgs_journal.specs.Area.{opens, is_no_store, epoch_of, head_format, first_unfit, is_fit, has_some, judged, store_of, state_with, area_state}
use Rattle.pgs_journal.specs.Bounds.{IsBoundedStore, IsBounded}
use Rattle.pgs_journal.specs.Format.{is_epoch, field_bytes, record_body, next_after, open_records, opened}
use Rattle.pgs_journal.specs.Reading.{Found, Next, Closed, Torn, Whole, next_of, found_at, records_within, records_in}
use Rattle.pgs_journal.proofs.Held.{head_parts}
use Rattle.pgs_journal.proofs.ReadingOn.{whole_size, body_size}

-- ---- the bytes that records take

pub opened_size : (format : Format) (epoch : ℕ) (payloads : List (List ℕ)) → length (opened format epoch payloads) ≡ 16 + length (open_records format 1 payloads)
opened_size First epoch payloads = omega arith
opened_size Second epoch payloads = omega arith

module _ (format : Format) where
  -- a record takes its gate, its fields and its payload
  record_more : (number : ℕ) (payload : List ℕ) (payloads : List (List ℕ))
      → length (open_records format number (payload ∷ payloads)) ≡ 1 + (field_bytes format + length payload) + length (open_records format (suc number) payloads)
  record_more number payload payloads = omega (arith, length-append (record_body format number payload) (open_records format (suc number) payloads), body_size format number payload)

  few_records : (number : ℕ) (payloads : List (List ℕ)) → length payloads ≤ length (open_records format number payloads)
  few_records number [] = omega arith
  few_records number (payload ∷ payloads) = omega (arith, few_records (suc number) payloads, record_more number payload payloads)

  -- the records that are found end before the last byte
  found_fits : (most number : ℕ) (bytes : List ℕ) → 1 ≤ length bytes → length (open_records format number (records_within format most number bytes).payloads) + 1 ≤ length bytes
  found_fits zero number bytes some = some
  found_fits (suc most) number bytes some = next (next_of format number bytes) refl (λ rest some_rest. found_fits most (suc number) rest some_rest)
    where
      next : (n : Next) → next_of format number bytes ≡ n
          → ((rest : List ℕ) → 1 ≤ length rest → length (open_records format (suc number) (records_within format most (suc number) rest).payloads) + 1 ≤ length rest)
          → length (open_records format number (found_at n (λ rest. records_within format most (suc number) rest)).payloads) + 1 ≤ length bytes
      next Closed is fits = some
      next Torn is fits = some
      next (Whole payload rest) is fits =
          let size = whole_size format number bytes payload rest is in
          omega (arith, size.0, fits rest size.1, record_more number payload (records_within format most (suc number) rest).payloads)

  -- a misplaced record has a number from the first one's on
  misplaced : (epoch start number : ℕ) (payloads : List (List ℕ)) → first_unfit format epoch start payloads ≡ Some number → start ≤ number
  misplaced epoch start number [] is = absurd (let h : (let o : Option ℕ = None in o) ≡ Some number = is in cc)
  misplaced epoch start number (payload ∷ payloads) is = some (is_fit format epoch start payload) is (misplaced epoch (suc start) number payloads)
    where
      same : (x y : ℕ) → Some x ≡ Some y → x ≡ y
      same x y eq = cc

      some : (b : Bool) → (if b then first_unfit format epoch (suc start) payloads else Some start) ≡ Some number → (first_unfit format epoch (suc start) payloads ≡ Some number → suc start ≤ number) → start ≤ number
      some true eq later = omega (arith, later eq)
      some false eq later = omega (arith, same start number eq)

some_payload : (payloads : List (List ℕ)) → has_some payloads ≡ true → 1 ≤ length payloads
some_payload [] is = absurd (let h : false ≡ true = is in cc)
some_payload (payload ∷ payloads) is = omega arith

-- ---- a store and its bounds

bounded_of : (format : Format) (epoch end : ℕ) (payloads : List (List ℕ)) → IsTrue (is_epoch epoch) → end ≡ length (opened format epoch payloads) → end < 2 ^ 40 → has_some payloads ≡ true → first_unfit format epoch 1 payloads ≡ None
    → IsBoundedStore epoch end (next_after format payloads) payloads
bounded_of First epoch end payloads numbered place below some fit =
    let few = few_records First 1 payloads in
    record {
      numbered = numbered;
      end_below = below;
      some = some_payload payloads some;
      most = omega (arith, few, place, opened_size First epoch payloads);
      follows = refl;
      next_within = tt;
      fit = fit;
    }
bounded_of Second epoch end payloads numbered place below some fit =
    let few = few_records Second 1 payloads in
    record {
      numbered = numbered;
      end_below = below;
      some = some_payload payloads some;
      most = omega (arith, few, place, opened_size Second epoch payloads);
      follows = refl;
      next_within = omega (arith, few, place, opened_size Second epoch payloads);
      fit = fit;
    }

module _ (format : Format) (image : List ℕ) (long : 17 ≤ length image) (small : length image ≤ 2 ^ 40) (numbered : IsTrue (is_epoch (epoch_of image))) where
  abbrev found : Found
  found = records_in format (drop 16 image)

  -- where the closed gate behind them would be
  abbrev end : ℕ
  end = length (opened format (epoch_of image) found.payloads)

  bounded_store : (o : Option ℕ) → first_unfit format (epoch_of image) 1 found.payloads ≡ o → IsBounded (judged o (epoch_of image) (store_of format (epoch_of image) found))
  bounded_store (Some number) is = (numbered, misplaced format (epoch_of image) 1 number found.payloads is)
  bounded_store None is = some (found.ended && has_some found.payloads) refl
    where
      some : (b : Bool) → (found.ended && has_some found.payloads) ≡ b
          → IsBounded (if b then Store (epoch_of image) end (next_after format found.payloads) found.payloads else Damaged (epoch_of image) (length found.payloads + 1))
      some true both =
          let fits = found_fits format (suc (length (drop 16 image))) 1 (drop 16 image) (omega (arith, length-drop 16 image, long)) in
          bounded_of format (epoch_of image) end found.payloads numbered refl (omega (arith, fits, length-drop 16 image, small, long, opened_size format (epoch_of image) found.payloads))
          (and_parts found.ended (has_some found.payloads) both).1 is
      some false both = (numbered, omega arith)

-- what an area of at most 2^40 bytes is, is bounded
pub bounded : (image : List ℕ) → length image ≤ 2 ^ 40 → IsBounded (area_state image)
bounded image small = store (is_no_store image) refl
  where
    long_of : is_no_store image ≡ false → 17 ≤ length image
    long_of there = by_length (nat_lt (length image) 17) refl there
      where
        at_least : nat_lt (length image) 17 ≡ false → 17 ≤ length image
        at_least is = grind (arith, nat_tests)

        by_length : (b : Bool) → nat_lt (length image) 17 ≡ b → (b || not (opens image)) ≡ false → 17 ≤ length image
        by_length true is either = absurd (let h : true ≡ false = either in cc)
        by_length false is either = at_least is

    head : (o : Option Format) → head_format image ≡ o → 17 ≤ length image → IsBounded (state_with o image)
    head (Some format) is long =
        bounded_store format image long small (head_parts image format is).0 (first_unfit format (epoch_of image) 1 (records_in format (drop 16 image)).payloads) refl
    head None is long = tt

    store : (b : Bool) → is_no_store image ≡ b → IsBounded (if b then NoStore else state_with (head_format image) image)
    store true is = tt
    store false is = head (head_format image) refl (long_of is)
