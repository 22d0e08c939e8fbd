-- What an image holds once bytes were written behind its last record, and once the gate there was written.
use Rattle.std.proofs.Common.{◌≡◌, ◌⊎◌, inl, inr, ℕ, suc, ◌+◌, ◌≤◌, ◌<◌, Bool, true, false, List, [], ◌∷◌, ◌++◌, length, take, drop, Some, None, refl, sym, ◌∙◌, ap, arith, append_assoc, length-append, length-drop}
use Rattle.std.specs.declared.option.Option.{Option}
use Rattle.std.proofs.lemmas.Bool.Decides.{nat_tests}
use Rattle.std.proofs.lemmas.List.{append-nil, take-take, take-append-drop, drop-drop}
use Rattle.std.proofs.Math.Seq.{take-append-add}
use Rattle.byteorder.specs.Endian.{big_bytes}
use Rattle.pgs_codec.specs.Frame.{number_field, framed}
use Rattle.pgs_world.specs.Disk.{IsTorn}
use Rattle.pgs_journal.specs.declared.format.Format.{Format}
use Rattle.pgs_journal.specs.Format.{is_open, head_body, record_number, record_body, open_records, opened, format_of, next_after, advanced, Holds}

-- the bytes up to the closed gate, and the gate
front : (next : Option ℕ) (epoch : ℕ) (payloads : List (List ℕ)) (end : ℕ) (image : List ℕ) → (h : Holds next epoch payloads end image) → take (end + 1) image ≡ opened (format_of next) epoch payloads ++ h.gate ∷ []
front next epoch payloads end image h =
    ap (λ (l : List ℕ). take (end + 1) l) h.bytes ∙ ap (λ n. take (n + 1) (opened (format_of next) epoch payloads ++ h.gate ∷ h.rest)) h.place ∙ take-append-add (opened (format_of next) epoch payloads) (h.gate ∷ h.rest) 1

-- they decide what an image holds
pub holds-front : (next : Option ℕ) (epoch : ℕ) (payloads : List (List ℕ)) (end : ℕ) (old new : List ℕ) → Holds next epoch payloads end old → take (end + 1) new ≡ take (end + 1) old → Holds next epoch payloads end new
holds-front next epoch payloads end old new h same =
    record {
      gate = h.gate;
      rest = drop (end + 1) new;
      bytes = sym (take-append-drop (end + 1) new) ∙ ap (λ (l : List ℕ). l ++ drop (end + 1) new) (same ∙ front next epoch payloads end old h) ∙ append_assoc (opened (format_of next) epoch payloads) (h.gate ∷ []) (drop (end + 1) new);
      closed = h.closed;
      place = h.place;
      follows = h.follows;
      numbered = h.numbered;
    }

-- the closed gate is inside
pub within : (next : Option ℕ) (epoch : ℕ) (payloads : List (List ℕ)) (end : ℕ) (image : List ℕ) → Holds next epoch payloads end image → end + 1 ≤ length image
within next epoch payloads end image h = omega (arith, ap length h.bytes, length-append (opened (format_of next) epoch payloads) (h.gate ∷ h.rest), h.place)

-- one record more
records-push : (format : Format) (number next : ℕ) (payloads : List (List ℕ)) (payload : List ℕ) → next ≡ number + length payloads → open_records format number (payloads ++ payload ∷ []) ≡ open_records format number payloads ++ 1 ∷ record_body format next payload
records-push format number next [] payload is =
    let same : number ≡ next = omega (arith, is) in ap (λ (l : List ℕ). 1 ∷ l) (append-nil (record_body format number payload)) ∙ ap (λ n. 1 ∷ record_body format n payload) same
records-push format number next (first ∷ payloads) payload is =
    ap (λ (l : List ℕ). 1 ∷ (record_body format number first ++ l)) (records-push format (suc number) next payloads payload (omega (arith, is)))
    ∙ ap (λ (l : List ℕ). 1 ∷ l) (sym (append_assoc (record_body format number first) (open_records format (suc number) payloads) (1 ∷ record_body format next payload)))

pub opened-push : (format : Format) (epoch : ℕ) (payloads : List (List ℕ)) (payload : List ℕ) → opened format epoch (payloads ++ payload ∷ []) ≡ opened format epoch payloads ++ 1 ∷ record_body format (length payloads + 1) payload
opened-push format epoch payloads payload =
    ap (λ (l : List ℕ). 1 ∷ (head_body format epoch ++ l)) (records-push format 1 (length payloads + 1) payloads payload (omega arith))
    ∙ ap (λ (l : List ℕ). 1 ∷ l) (sym (append_assoc (head_body format epoch) (open_records format 1 payloads) (1 ∷ record_body format (length payloads + 1) payload)))

-- a record and a closed gate are the frame of its payload
pub record-framed : (format : Format) (number : ℕ) (payload : List ℕ) → record_body format number payload ++ 0 ∷ [] ≡ framed (record_number format number) payload
record-framed format number payload =
    append_assoc (number_field (record_number format number)) (big_bytes 8 (length payload) ++ payload) (0 ∷ [])
    ∙ ap (λ (l : List ℕ). number_field (record_number format number) ++ l) (append_assoc (big_bytes 8 (length payload)) payload (0 ∷ []))

-- one record more is of the same format
format_of-advanced : (next : Option ℕ) → format_of (advanced next) ≡ format_of next
format_of-advanced None = refl
format_of-advanced (Some number) = refl

-- and the number after it follows
follows-more : (next : Option ℕ) (payloads : List (List ℕ)) (payload : List ℕ) → next ≡ next_after (format_of next) payloads → advanced next ≡ next_after (format_of (advanced next)) (payloads ++ payload ∷ [])
follows-more None payloads payload is = refl
follows-more (Some number) payloads payload is =
    let more : length payloads + 1 ≡ length (payloads ++ payload ∷ []) = omega (arith, length-append payloads (payload ∷ [])) in
    ap advanced is ∙ ap (λ n. Some (n + 1)) more

-- an open gate and a frame are one record more, and a closed gate
opened-more : (next : Option ℕ) (epoch : ℕ) (payloads : List (List ℕ)) (payload : List ℕ) → next ≡ next_after (format_of next) payloads
    → opened (format_of next) epoch payloads ++ 1 ∷ framed next payload ≡ opened (format_of (advanced next)) epoch (payloads ++ payload ∷ []) ++ 0 ∷ []
opened-more next epoch payloads payload is =
    let before = opened (format_of next) epoch payloads in
    let body = record_body (format_of next) (length payloads + 1) payload in
    ap (λ (o : Option ℕ). before ++ 1 ∷ framed o payload) is ∙ ap (λ (l : List ℕ). before ++ 1 ∷ l) (sym (record-framed (format_of next) (length payloads + 1) payload)) ∙ sym (append_assoc before (1 ∷ body) (0 ∷ []))
    ∙ ap (λ (l : List ℕ). l ++ 0 ∷ []) (sym (opened-push (format_of next) epoch payloads payload)) ∙ ap (λ (f : Format). opened f epoch (payloads ++ payload ∷ []) ++ 0 ∷ []) (sym (format_of-advanced next))

-- an open gate before the frame of a record
pub holds-more : (next : Option ℕ) (epoch : ℕ) (payloads : List (List ℕ)) (end : ℕ) (old : List ℕ) (payload rest image : List ℕ) → Holds next epoch payloads end old → image ≡ opened (format_of next) epoch payloads ++ 1 ∷ (framed next payload ++ rest)
    → Holds (advanced next) epoch (payloads ++ payload ∷ []) (end + length (framed next payload)) image
holds-more next epoch payloads end old payload rest image h is =
    let before = opened (format_of next) epoch payloads in
    let after = opened (format_of (advanced next)) epoch (payloads ++ payload ∷ []) in
    let more = opened-more next epoch payloads payload h.follows in
    record {
      gate = 0;
      rest = rest;
      bytes = is ∙ sym (append_assoc before (1 ∷ framed next payload) rest) ∙ ap (λ (l : List ℕ). l ++ rest) more ∙ append_assoc after (0 ∷ []) rest;
      closed = refl;
      place = omega (arith, h.place, ap length more, length-append before (1 ∷ framed next payload), length-append after (0 ∷ []));
      follows = follows-more next payloads payload h.follows;
      numbered = h.numbered;
    }

-- a byte that was written inside an image
pub one_byte : (at : ℕ) (old new : List ℕ) → IsTorn at 1 old new → at < length old → (x : ℕ) × (new ≡ take at old ++ x ∷ drop (at + 1) old)
one_byte at old new torn inside = some (drop at new) refl
  where
    some : (l : List ℕ) → drop at new ≡ l → (x : ℕ) × (new ≡ take at old ++ x ∷ drop (at + 1) old)
    some [] is = absurd (omega (arith, ap length is, length-drop at new, torn.no_shorter))
    some (x ∷ l) is = (
      x,
      sym (take-append-drop at new) ∙ ap (λ (m : List ℕ). m ++ drop at new) torn.before
          ∙ ap (λ (m : List ℕ). take at old ++ m) (is ∙ ap (λ (m : List ℕ). x ∷ m) (sym (ap (λ (m : List ℕ). drop 1 m) is) ∙ drop-drop 1 at new ∙ torn.after)),
    )

pub open_is_one : (gate : ℕ) → is_open gate ≡ true → gate ≡ 1
open_is_one gate is = grind (arith, nat_tests)

-- what an image holds where any byte may stand at the gate before the frame of a record
pub holds-either : (next : Option ℕ) (epoch : ℕ) (payloads : List (List ℕ)) (end : ℕ) (old : List ℕ) (payload rest image : List ℕ) (gate : ℕ) → Holds next epoch payloads end old → image ≡ opened (format_of next) epoch payloads ++ gate ∷ (framed next payload ++ rest)
    → Holds next epoch payloads end image ⊎ Holds (advanced next) epoch (payloads ++ payload ∷ []) (end + length (framed next payload)) image
holds-either next epoch payloads end old payload rest image gate h is = some (is_open gate) refl
  where
    some : (b : Bool) → is_open gate ≡ b → Holds next epoch payloads end image ⊎ Holds (advanced next) epoch (payloads ++ payload ∷ []) (end + length (framed next payload)) image
    some true opened_now = inr (holds-more next epoch payloads end old payload rest image h (is ∙ ap (λ x. opened (format_of next) epoch payloads ++ x ∷ (framed next payload ++ rest)) (open_is_one gate opened_now)))
    some false closed = inl (record { gate = gate; rest = framed next payload ++ rest; bytes = is; closed = closed; place = h.place; follows = h.follows; numbered = h.numbered })

-- the bytes before the gate
pub before_gate : (next : Option ℕ) (epoch : ℕ) (payloads : List (List ℕ)) (end : ℕ) (old new : List ℕ) → Holds next epoch payloads end old → take (end + 1) new ≡ take (end + 1) old → take end new ≡ opened (format_of next) epoch payloads
before_gate next epoch payloads end old new h same =
    sym (take-take end (end + 1) new (omega arith)) ∙ ap (λ (l : List ℕ). take end l) (same ∙ front next epoch payloads end old h)
    ∙ ap (λ n. take n (opened (format_of next) epoch payloads ++ h.gate ∷ [])) (h.place ∙ omega arith) ∙ take-append-add (opened (format_of next) epoch payloads) (h.gate ∷ []) 0 ∙ append-nil (opened (format_of next) epoch payloads)

-- The frame stands behind the gate, and then the gate is written.
pub appended : (next : Option ℕ) (epoch : ℕ) (payloads : List (List ℕ)) (end : ℕ) (first mid last : List ℕ) (payload rest : List ℕ) → Holds next epoch payloads end first → take (end + 1) mid ≡ take (end + 1) first → drop (end + 1) mid ≡ framed next payload ++ rest
    → IsTorn end 1 mid last → Holds next epoch payloads end last ⊎ Holds (advanced next) epoch (payloads ++ payload ∷ []) (end + length (framed next payload)) last
appended next epoch payloads end first mid last payload rest h same behind torn =
    let byte = one_byte end mid last torn (omega (arith, within next epoch payloads end mid (holds-front next epoch payloads end first mid h same))) in
    holds-either next epoch payloads end first payload rest last byte.0 h
    (byte.1 ∙ ap (λ (l : List ℕ). l ++ byte.0 ∷ drop (end + 1) mid) (before_gate next epoch payloads end first mid h same) ∙ ap (λ (l : List ℕ). opened (format_of next) epoch payloads ++ byte.0 ∷ l) behind)
