-- How the records of an area are read one by one, and what they decide.
use Rattle.std.proofs.Common.{◌≡◌, inr, ℕ, suc, ◌+◌, ◌≤◌, ◌<◌, ◌^◌, ◌==◌, Bool, true, false, nat_eq, nat_lt, IsTrue, List, [], ◌∷◌, ◌++◌, length, take, drop, Some, None, refl, sym, ◌∙◌, ap, subst, arith, append_assoc, length-append, length-drop, if◌then◌else◌}
use Rattle.std.proofs.lemmas.Bool.Decides.{nat_tests}
use Rattle.std.proofs.lemmas.List.{append-nil, take_all, drop-drop}
use Rattle.byteorder.specs.Endian.{big_bytes, big_number}
use Rattle.byteorder.specs.Numbers.{big_number-reads_back}
use Rattle.pgs_codec.specs.Frame.{number_field}
use Rattle.pgs_world.specs.declared.area.Area.{Area}
use Rattle.pgs_world.specs.Answers.{Answer, Read}
use Rattle.pgs_world.specs.Moment.{IsQuiet}
use Rattle.pgs_world.specs.World.{View}
use Rattle.pgs_journal.specs.declared.area_state.AreaState.TheVariants.{Damaged, Store}
use Rattle.pgs_journal.specs.Area.{is_fit, is_sound, first_unfit, has_some}
use Rattle.pgs_journal.specs.declared.format.Format.{Format}
use Rattle.pgs_journal.specs.declared.format.Format.TheVariants.{First, Second}
use Rattle.pgs_journal.specs.Format.{is_open, is_epoch, field_bytes, record_number, record_body, next_after, opened}
use Rattle.pgs_journal.specs.Reading.{Torn, Whole, sized, record_of}
use Rattle.pgs_journal.specs.Seen.{AreShown, IsTorn, IsUnsound, IsAsked, IsTold, IsSettled, IsRead}
use Rattle.pgs_journal.specs.Told.{Begins, IsUnended, IsOpenYet, IsStateOf}
use Rattle.pgs_journal.proofs.Held.{IsBytes, number_again, holds_of}
use Rattle.pgs_journal.proofs.Images.{open_is_one, opened-push}
use Rattle.pgs_journal.proofs.ReadingOn.{not_less, body_size, body_behind, numbered_read}
use Rattle.pgs_journal.proofs.Telling.{split, parted, begins_alone, ends_on, told_none, told_asked, told_read, told_then, told_back, asked_ends, settled_weaker}
use Rattle.pgs_journal.proofs.Written.{Opened, whole, unfit_on, store_read, none_read, damaged_read, closed_next, unended}

-- ---- the fields of a record

sized_torn : (rest : List ℕ) → length rest ≤ 8 + big_number 8 rest → sized rest ≡ Torn
sized_torn rest few =
    ap (λ (b : Bool). if b then Whole (take (big_number 8 rest) (drop 8 rest)) (drop (8 + big_number 8 rest) rest) else Torn) (not_less (8 + big_number 8 rest) (length rest) few)

short_torn : (format : Format) (number : ℕ) (rest : List ℕ) → length rest ≤ field_bytes format → IsTorn format number rest
short_torn First number rest few = sized_torn rest (omega (arith, few))
short_torn Second number rest few = at (nat_eq (big_number 8 rest) number)
  where
    at : (b : Bool) → (if b then sized (drop 8 rest) else Torn) ≡ Torn
    at true = sized_torn (drop 8 rest) (omega (arith, few, length-drop 8 rest))
    at false = refl

-- eight bytes, as the number in them is written
pub number_again_of : (bytes : List ℕ) → length bytes ≡ 8 → IsBytes bytes → bytes ≡ big_bytes 8 (big_number 8 bytes)
number_again_of bytes long small = sym (number_again bytes (omega (arith, long)) small ∙ take_all 8 bytes (omega (arith, long)))

-- the bytes before a payload
abbrev pub fields : Format → ℕ → ℕ → List ℕ
fields format number size = number_field (record_number format number) ++ big_bytes 8 size

fields_length : (format : Format) (number size : ℕ) → length (fields format number size) ≡ field_bytes format
fields_length First number size = refl
fields_length Second number size = refl

pub few_fields : (format : Format) → field_bytes format ≤ 16
few_fields First = omega arith
few_fields Second = omega arith

-- too few bytes are left for the payload
fields_torn : (format : Format) (number size : ℕ) (behind : List ℕ) → number < 256 ^ 8 → size < 256 ^ 8 → length behind ≤ size → IsTorn format number (fields format number size ++ behind)
fields_torn format number size behind numbered small short =
    let read : big_number 8 (big_bytes 8 size ++ behind) ≡ size = big_number-reads_back 8 size behind small in
    ap (record_of format number) (append_assoc (number_field (record_number format number)) (big_bytes 8 size) behind)
    ∙ numbered_read format number (big_bytes 8 size ++ behind) numbered ∙ sized_torn (big_bytes 8 size ++ behind) (omega (arith, read, short))

long_torn : (format : Format) (number size : ℕ) (rest : List ℕ) → number < 256 ^ 8 → size < 256 ^ 8 → length rest ≤ field_bytes format + size → Begins (fields format number size) rest → IsTorn format number rest
long_torn format number size rest numbered small few begins =
    subst (IsTorn format number) (split (fields format number size) rest begins)
    (fields_torn format number size (drop (length (fields format number size)) rest) numbered small
    (omega (arith, length-drop (length (fields format number size)) rest, fields_length format number size, few)))

module _ {W : Type 0} (made : W → Area → Answer → W → Type 0) (view : View) (area : Area) (at : ℕ) (format : Format) (number : ℕ) where
  -- too few bytes are left for the fields
  pub few_settled : (old new : W) (len : ℕ) (within : Bool) → IsAsked made view area len within old new → within ≡ false → at ≤ 2 ^ 40 → len ≤ at + field_bytes format
      → IsSettled made view area old new (IsTorn format number) at (IsTorn format number)
  unfolding told_none told_asked
  few_settled old new len within it out small few =
      record {
        bytes = [];
        told = told_asked made view area old old new len within (IsTorn format number) at [] none (told_none made view area old (IsTorn format number) at) it;
        within = omega (arith, small);
        alone = none;
        each = λ image ends begins.
            short_torn format number (drop at image) (omega (arith, length-drop at image, few, asked_ends made view area len within old new it [] image out ends));
      }
    where
      none : IsTorn format number []
      none = short_torn format number [] (omega arith)

  pub fields_told : (old mid new : W) (len : ℕ) (within : Bool) (bytes : List ℕ) → IsAsked made view area len within old mid → made mid area (Read at bytes) new → AreShown view area (Read at bytes ∷ [])
      → IsTold made view area old new (IsTorn format number) at bytes
  fields_told old mid new len within bytes it read shown =
      told_then made view area old mid new (IsTorn format number) (IsTorn format number) at at [] bytes (omega arith) (λ l torn. torn)
      (told_asked made view area old old mid len within (IsTorn format number) at [] none (told_none made view area old (IsTorn format number) at) it)
      (told_read made view area mid new (IsTorn format number) at bytes none read shown)
    where
      none : IsTorn format number []
      none = short_torn format number [] (omega arith)

  -- the fields bear another number
  pub other_settled : (old new : W) (bytes : List ℕ) → at + length bytes ≤ 2 ^ 40 → IsTold made view area old new (IsTorn format number) at bytes → ((rest : List ℕ) → Begins bytes rest → IsTorn format number rest)
      → IsSettled made view area old new (IsTorn format number) at (IsTorn format number)
  other_settled old new bytes within told torn =
      record { bytes = bytes; told = told; within = within; alone = torn bytes (begins_alone bytes); each = λ image ends begins. torn (drop at image) begins }

  module _ (size : ℕ) where
    short : IsTorn format number (fields format number size)
    short = short_torn format number (fields format number size) (omega (arith, fields_length format number size))

    -- the length is asked again
    pub size_told : (old mid new : W) (len : ℕ) (within : Bool) → IsTold made view area old mid (IsTorn format number) at (fields format number size) → IsAsked made view area len within mid new
        → IsTold made view area old new (IsTorn format number) at (fields format number size)
    size_told old mid new len within told it = told_asked made view area old mid new len within (IsTorn format number) at (fields format number size) short told it

    -- too few bytes are left for the payload
    pub long_settled : (old mid new : W) (len : ℕ) (within : Bool) → number < 256 ^ 8 → size < 256 ^ 8 → at + field_bytes format ≤ 2 ^ 40 → len ≤ at + field_bytes format + size
        → IsTold made view area old mid (IsTorn format number) at (fields format number size) → IsAsked made view area len within mid new → within ≡ false
        → IsSettled made view area old new (IsTorn format number) at (IsTorn format number)
    unfolding told_asked
    long_settled old mid new len within numbered small inside few told it out =
        record {
          bytes = fields format number size;
          told = told_asked made view area old mid new len within (IsTorn format number) at (fields format number size) short told it;
          within = omega (arith, inside, fields_length format number size);
          alone = short;
          each = λ image ends begins.
              long_torn format number size (drop at image) numbered small
              (omega (arith, length-drop at image, few, asked_ends made view area len within mid new it told.answers image out ends)) begins;
        }

    -- ---- a record and the gate behind it

    module _ (old mid new : W) (payload : List ℕ) (gate : ℕ) (long : length payload ≡ size) (within : at + field_bytes format + size < 2 ^ 40)
        (fields_are : IsTold made view area old mid (IsTorn format number) at (fields format number size))
        (read : made mid area (Read (at + field_bytes format) (payload ++ gate ∷ [])) new) (shown : AreShown view area (Read (at + field_bytes format) (payload ++ gate ∷ []) ∷ [])) where
      record_told : IsTold made view area old new (IsTorn format number) at (record_body format number payload ++ gate ∷ [])
      record_told =
          subst (IsTold made view area old new (IsTorn format number) at)
          (append_assoc (number_field (record_number format number)) (big_bytes 8 size) (payload ++ gate ∷ [])
          ∙ ap (λ n. number_field (record_number format number) ++ (big_bytes 8 n ++ (payload ++ gate ∷ []))) (sym long) ∙ sym (body_behind format number payload (gate ∷ [])))
          (told_then made view area old mid new (IsTorn format number) (λ l. IsTorn format number (fields format number size ++ l)) at (at + field_bytes format) (fields format number size) (payload ++ gate ∷ [])
          (omega (arith, fields_length format number size)) (λ l torn. torn) fields_are
          (told_read made view area mid new (λ l. IsTorn format number (fields format number size ++ l)) (at + field_bytes format) (payload ++ gate ∷ [])
          (subst (IsTorn format number) (sym (append-nil (fields format number size))) short) read shown))

      pub record_read : (epoch : ℕ) → is_fit format epoch number payload ≡ true → IsRead made view area old new format epoch number at payload gate
      record_read epoch fit = record { told = record_told; within = omega (arith, body_size format number payload, long, within); fit = fit }

      pub unfit_settled : (epoch : ℕ) → number < 256 ^ 8 → is_fit format epoch number payload ≡ false → IsSettled made view area old new (IsTorn format number) at (IsUnsound format epoch number)
      unfit_settled epoch numbered unfit =
          record {
            bytes = record_body format number payload ++ gate ∷ [];
            told = record_told;
            within = omega (arith, length-append (record_body format number payload) (gate ∷ []), body_size format number payload, long, within);
            alone = subst (IsUnsound format epoch number) (append-nil (record_body format number payload ++ gate ∷ [])) (unsound []);
            each = λ image ends begins.
                subst (IsUnsound format epoch number) (split (record_body format number payload ++ gate ∷ []) (drop at image) begins)
                (unsound (drop (length (record_body format number payload ++ gate ∷ [])) (drop at image)));
          }
        where
          unsound : (rest : List ℕ) → IsUnsound format epoch number ((record_body format number payload ++ gate ∷ []) ++ rest)
          unsound rest =
              ap (λ n. is_sound format epoch number n)
              (ap (record_of format number) (append_assoc (record_body format number payload) (gate ∷ []) rest)
              ∙ whole format number payload (gate ∷ rest) numbered (omega (arith, long, within)) (omega arith))
              ∙ unfit

  pub torn_unsound : (old new : W) (epoch : ℕ) → IsSettled made view area old new (IsTorn format number) at (IsTorn format number) → IsSettled made view area old new (IsTorn format number) at (IsUnsound format epoch number)
  torn_unsound old new epoch it =
      settled_weaker made view area old new (IsTorn format number) at (IsTorn format number) (IsUnsound format epoch number) (λ rest is. ap (is_sound format epoch number) is) it

-- the same on the world before, which was only read
pub read_back : {W : Type 0} (made : W → Area → Answer → W → Type 0) (first view : View) (area : Area) (old new : W) (format : Format) (epoch number at : ℕ) (payload : List ℕ) (gate : ℕ) → IsQuiet first view
    → IsRead made view area old new format epoch number at payload gate → IsRead made first area old new format epoch number at payload gate
read_back made first view area old new format epoch number at payload gate q read =
    record { told = told_back made first view area old new (IsTorn format number) at (record_body format number payload ++ gate ∷ []) q read.told; within = read.within; fit = read.fit }

-- ---- small tests

pub beyond : (m n : ℕ) → nat_lt m n ≡ false → n ≤ m
beyond m n is = grind (arith, nat_tests)

pub is_inside : (m n : ℕ) → nat_lt m n ≡ true → m < n
is_inside m n is = grind (arith, nat_tests)

pub closed_gate : (gate : ℕ) → (gate ≡ 1 → ⊥) → is_open gate ≡ false
closed_gate gate not_one = at (is_open gate) refl
  where
    at : (b : Bool) → is_open gate ≡ b → b ≡ false
    at true is = absurd (not_one (open_is_one gate is))
    at false is = refl

is_zero : (n : ℕ) → (n == 0) ≡ true → n ≡ 0
is_zero n is = grind (arith, nat_tests)

not_zero : (n : ℕ) → (n == 0) ≡ false → 1 ≤ n
not_zero n is = grind (arith, nat_tests)

-- a list of payloads by its length as it was counted
pub none_counted : (payloads : List (List ℕ)) (count : ℕ) → count ≡ length payloads → (count == 0) ≡ true → (length payloads ≡ 0) × (has_some payloads ≡ false)
none_counted [] count same zero_now = (refl, refl)
none_counted (payload ∷ payloads) count same zero_now = absurd (omega (arith, same, is_zero count zero_now))

pub some_counted : (payloads : List (List ℕ)) (count : ℕ) → count ≡ length payloads → (count == 0) ≡ false → has_some payloads ≡ true
some_counted [] count same some = absurd (omega (arith, same, not_zero count some))
some_counted (payload ∷ payloads) count same some = refl

-- ---- where the reading stands

-- it is at this gate, behind these records, of which the first gate and the head were read before
pub record IsAt {W : Type 0} (made : W → Area → Answer → W → Type 0) (view : View) (area : Area) (old new : W) (front : List ℕ) (format : Format) (epoch at : ℕ) (payloads : List (List ℕ)) (gate : ℕ) : Type 0 where
  pub place : at ≡ length (opened format epoch payloads)
  pub below : at < 2 ^ 40
  pub fit : first_unfit format epoch 1 payloads ≡ None
  pub behind : List ℕ
  pub told : IsTold made view area old new (λ told. IsOpenYet (front ++ told)) 17 behind
  pub spelled : front ++ behind ≡ opened format epoch payloads ++ gate ∷ []

epoch_below : (epoch : ℕ) → IsTrue (is_epoch epoch) → epoch ≤ 16777215
epoch_below epoch numbered = grind (arith, nat_tests)

pub head_size : (format : Format) (epoch : ℕ) → length (opened format epoch []) ≡ 16
head_size First epoch = omega arith
head_size Second epoch = omega arith

module _ {W : Type 0} (made : W → Area → Answer → W → Type 0) (view : View) (area : Area) (front : List ℕ) (format : Format) (epoch : ℕ) (size : length front ≡ 17) (numbered : IsTrue (is_epoch epoch)) where
  -- what was told may go on from there
  abbrev pub MayGoOn : List ℕ → Type 0
  MayGoOn told = IsOpenYet (front ++ told)

  pub at_first : (world : W) (gate : ℕ) → front ≡ opened format epoch [] ++ gate ∷ [] → IsAt made view area world world front format epoch 16 [] gate
  at_first world gate is =
      record {
        place = sym (head_size format epoch);
        below = omega arith;
        fit = refl;
        behind = [];
        told = told_none made view area world MayGoOn 17;
        spelled = append-nil front ∙ is;
      }

  module _ (old mid : W) (at : ℕ) (payloads : List (List ℕ)) where
    opened_with : (gate : ℕ) (rest : List ℕ) → IsAt made view area old mid front format epoch at payloads gate → Opened format epoch payloads (gate ∷ rest)
    opened_with gate rest is =
        record {
          numbered = numbered;
          epoch_small = omega (arith, epoch_below epoch numbered);
          small = omega (arith, is.place, is.below);
          some = omega arith;
          fit = is.fit;
        }

    -- what stands there
    rest_behind : (gate : ℕ) (is : IsAt made view area old mid front format epoch at payloads gate) (rest : List ℕ) → front ++ (is.behind ++ rest) ≡ opened format epoch payloads ++ gate ∷ rest
    rest_behind gate is rest =
        sym (append_assoc front is.behind rest) ∙ ap (λ (l : List ℕ). l ++ rest) is.spelled ∙ append_assoc (opened format epoch payloads) (gate ∷ []) rest

    told_size : (gate : ℕ) (is : IsAt made view area old mid front format epoch at payloads gate) → 17 + length is.behind ≡ at + 1
    told_size gate is =
        omega (arith, ap length is.spelled, length-append front is.behind, length-append (opened format epoch payloads) (gate ∷ []), is.place, size)

    -- all bytes behind the gate where nothing more was read
    settled_at : (gate : ℕ) → IsAt made view area old mid front format epoch at payloads gate → (Q : List ℕ → Type 0) → ((rest : List ℕ) → Q (opened format epoch payloads ++ gate ∷ rest))
        → IsSettled made view area old mid MayGoOn 17 (λ rest. Q (front ++ rest))
    settled_at gate is Q each =
        record {
          bytes = is.behind;
          told = is.told;
          within = omega (arith, told_size gate is, is.below);
          alone = subst Q (sym is.spelled) (each []);
          each = λ image ends begins.
              subst (λ (l : List ℕ). Q (front ++ l)) (split is.behind (drop 17 image) begins)
              (subst Q (sym (rest_behind gate is (drop (length is.behind) (drop 17 image)))) (each (drop (length is.behind) (drop 17 image))));
        }

    pub store_at : (gate : ℕ) → IsAt made view area old mid front format epoch at payloads gate → is_open gate ≡ false → has_some payloads ≡ true
        → IsSettled made view area old mid MayGoOn 17 (λ rest. IsStateOf (Store epoch at (next_after format payloads) payloads) (front ++ rest))
    store_at gate is closed some =
        settled_at gate is (IsStateOf (Store epoch at (next_after format payloads) payloads))
        (λ rest. record {
          state =
              sym (store_read format epoch payloads (gate ∷ rest) (opened_with gate rest is) (closed_next format (suc (length payloads)) gate rest closed) some
              ∙ ap (λ n. Store epoch n (next_after format payloads) payloads) (sym is.place));
          holds = holds_of format epoch payloads at (opened format epoch payloads ++ gate ∷ rest) gate rest refl closed is.place numbered;
        })

    pub none_at : (gate : ℕ) → IsAt made view area old mid front format epoch at payloads gate → is_open gate ≡ false → length payloads ≡ 0 → has_some payloads ≡ false
        → IsSettled made view area old mid MayGoOn 17 (λ rest. IsStateOf (Damaged epoch 1) (front ++ rest))
    none_at gate is closed none empty =
        settled_at gate is (IsStateOf (Damaged epoch 1))
        (λ rest. record {
          state =
              sym (none_read format epoch payloads (gate ∷ rest) (opened_with gate rest is) (closed_next format (suc (length payloads)) gate rest closed) empty
              ∙ ap (λ n. Damaged epoch (n + 1)) none);
          holds = tt;
        })

    module _ (number : ℕ) (same : number ≡ length payloads + 1) (is : IsAt made view area old mid front format epoch at payloads 1) where
      -- it goes on where the open record isn't whole yet
      goes_on : (rest : List ℕ) → IsTorn format number rest → IsOpenYet (front ++ (is.behind ++ rest))
      goes_on rest torn =
          inr (subst IsUnended (sym (rest_behind 1 is rest))
          (unended format epoch payloads (1 ∷ rest) (opened_with 1 rest is) (subst (λ n. record_of format n rest ≡ Torn) (let here : number ≡ suc (length payloads) = omega (arith, same) in here) torn)))

      pub damaged_at : (new : W) → IsSettled made view area mid new (IsTorn format number) (at + 1) (IsUnsound format epoch number)
          → IsSettled made view area old new MayGoOn 17 (λ rest. IsStateOf (Damaged epoch number) (front ++ rest))
      unfolding told_then
      damaged_at new d =
          record {
            bytes = is.behind ++ d.bytes;
            told = told_then made view area old mid new MayGoOn (IsTorn format number) 17 (at + 1) is.behind d.bytes (sym (told_size 1 is)) goes_on is.told d.told;
            within = omega (arith, told_size 1 is, length-append is.behind d.bytes, d.within);
            alone = subst (IsStateOf (Damaged epoch number)) (sym (rest_behind 1 is d.bytes)) (damaged d.bytes d.alone);
            each = λ image ends begins.
                let parts = parted is.behind d.bytes (drop 17 image) begins in
                let rest : List ℕ = drop (length is.behind) (drop 17 image) in
                let here : rest ≡ drop (at + 1) image = drop-drop (length is.behind) 17 image ∙ ap (λ n. drop n image) (told_size 1 is) in
                subst (λ (l : List ℕ). IsStateOf (Damaged epoch number) (front ++ l)) (split is.behind (drop 17 image) parts.0)
                (subst (IsStateOf (Damaged epoch number)) (sym (rest_behind 1 is rest))
                (damaged rest (subst (IsUnsound format epoch number) (sym here) (d.each image (ends_on is.told.answers d.told.answers image ends) (subst (Begins d.bytes) here parts.1)))));
          }
        where
          damaged : (rest : List ℕ) → IsUnsound format epoch number rest → IsStateOf (Damaged epoch number) (opened format epoch payloads ++ 1 ∷ rest)
          damaged rest unsound =
              record {
                state =
                    sym (damaged_read format epoch payloads (1 ∷ rest) (opened_with 1 rest is)
                    (subst (λ n. is_sound format epoch n (record_of format n rest) ≡ false) (let here : number ≡ suc (length payloads) = omega (arith, same) in here) unsound)
                    ∙ ap (λ n. Damaged epoch n) (sym same));
                holds = tt;
              }

      -- one record more
      pub at_next : (new : W) (payload : List ℕ) (gate next : ℕ) → next ≡ at + (1 + (field_bytes format + length payload)) → IsRead made view area mid new format epoch number (at + 1) payload gate
          → IsAt made view area old new front format epoch next (payloads ++ payload ∷ []) gate
      at_next new payload gate next there read =
          let body = record_body format number payload in
          let size_of = body_size format number payload in
          let pushed : opened format epoch (payloads ++ payload ∷ []) ≡ opened format epoch payloads ++ 1 ∷ body =
          opened-push format epoch payloads payload ∙ ap (λ n. opened format epoch payloads ++ 1 ∷ record_body format n payload) (sym same) in
          record {
            place = omega (arith, is.place, there, ap length pushed, length-append (opened format epoch payloads) (1 ∷ body), size_of);
            below = omega (arith, read.within, size_of, there);
            fit =
                unfit_on format epoch 1 (suc (length payloads)) payloads (payload ∷ []) (omega arith) is.fit
                ∙ ap (λ (b : Bool). if b then None else Some (suc (length payloads))) (ap (λ n. is_fit format epoch n payload) (let here : suc (length payloads) ≡ number = omega (arith, same) in here) ∙ read.fit);
            behind = is.behind ++ (body ++ gate ∷ []);
            told = told_then made view area old mid new MayGoOn (IsTorn format number) 17 (at + 1) is.behind (body ++ gate ∷ []) (sym (told_size 1 is)) goes_on is.told read.told;
            spelled =
                rest_behind 1 is (body ++ gate ∷ []) ∙ sym (ap (λ (l : List ℕ). l ++ gate ∷ []) pushed ∙ append_assoc (opened format epoch payloads) (1 ∷ body) (gate ∷ []));
          }
