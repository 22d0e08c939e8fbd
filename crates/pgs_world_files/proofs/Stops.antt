-- What a stop leaves of a file goes on, call by call.
use Rattle.std.proofs.Common.{◌≡◌, ℕ, ◌+◌, ◌-◌, ◌≤◌, Bool, true, false, List, length, take, drop, Option, Some, None, Result, Ok, Err, inl, inr, refl, sym, ap, subst, ◌∙◌, arith, length-drop}
use Rattle.std.proofs.lemmas.List.{take-take, drop-drop}
use Rattle.std.specs.declared.io.Error.{Error}
use Rattle.pgs_world.specs.Disk.{IsTorn, IsCutShort}
use Rattle.pgs_world_streams.specs.Given.{PlacedCall, BareCall}
use Rattle.pgs_world_streams.specs.Past.{Past, GoesOn, IsSame}
use Rattle.pgs_world_streams.specs.Tries.{AreInterrupted, ReadIsTried, WriteIsTried}
use Rattle.pgs_world_streams.specs.Tries.AreInterrupted.{no_try, one_more}
use Rattle.pgs_world_streams.specs.Whole.{HasRead, HasWritten}
use Rattle.pgs_world_streams.specs.Whole.HasRead.{read_none, read_some}
use Rattle.pgs_world_streams.specs.Whole.HasWritten.{wrote_none, wrote_some}
use Rattle.pgs_world_streams.proofs.Moments.{rest_on, go_on}
use Rattle.pgs_world_files.specs.Handles.{LengthIs, ReadIs, WriteIs, CallIs, IfOpen, AtMoment}
use Rattle.pgs_world_files.specs.Laws.{area_is_past}
use Rattle.pgs_world_files.specs.Stops.{HasStops, past_in}

pub same_none : (c : List ℕ) → IsSame c c
same_none c = refl

pub torn_none : (at count : ℕ) (c : List ℕ) → IsTorn at count c c
torn_none at count c = record { before = refl; after = refl; no_shorter = omega arith; no_longer = omega arith }

pub short_none : (len : ℕ) (c : List ℕ) → IsCutShort len c c
short_none len c = record { front = refl; no_shorter = omega arith; no_longer = omega arith }

-- a part of a range is written, and then the range
torn_behind : (at size done count : ℕ) (e d c : List ℕ) → done + count ≤ size → IsTorn at size e d → IsTorn (at + done) count d c → IsTorn at size e c
torn_behind at size done count e d c fits first second =
    record {
      before = sym (take-take at (at + done) c (omega arith)) ∙ ap (take at) second.before ∙ take-take at (at + done) d (omega arith) ∙ first.before;
      after = ends c ∙ ap (drop (size - (done + count))) second.after ∙ sym (ends d) ∙ first.after;
      no_shorter = omega (arith, first.no_shorter, second.no_shorter);
      no_longer = omega (arith, first.no_longer, second.no_longer);
    }
  where
    ends : (l : List ℕ) → drop (at + size) l ≡ drop (size - (done + count)) (drop (at + done + count) l)
    ends l =
        let e : at + size ≡ at + done + count + (size - (done + count)) = omega (arith, fits) in
        ap (λ n. drop n l) e ∙ sym (drop-drop (size - (done + count)) (at + done + count) l)

module _ {H : Type 0} (contents : H → List ℕ) (past : H → Past) (lengths : ℕ → H → Result ℕ Error → H → Type 0) (reads writes : ℕ → PlacedCall H)
    (cuts : ℕ → H → ℕ → Bool → H → Type 0) (syncs : ℕ → BareCall H) (law : HasStops contents past lengths reads writes cuts syncs) (t : ℕ) where
  -- a call more that leaves nothing new
  same_on : (old mid new : H) → GoesOn IsSame t (past old) (past mid) → GoesOn IsSame t (past mid) (past new) → GoesOn IsSame t (past old) (past new)
  same_on old mid new p q = go_on IsSame IsSame IsSame t (past old) (past mid) (past new) (λ d c same. same) (λ e d c was now first second. second ∙ first) p q

  module _ (start : H) where
    reads_on : (at : ℕ) (mid : H) (tries : ℕ) (new : H) → GoesOn IsSame t (past start) (past mid)
        → AreInterrupted (λ before answer after. (left : List ℕ) × reads t before at left answer after) mid tries new → GoesOn IsSame t (past start) (past new)
    reads_on at mid _ _ so no_try = so
    reads_on at mid _ new so (one_more {tries = tries} {answer = answer} {before = before} earlier gave was) =
        let there = reads_on at mid tries before so earlier in
        same_on start before new there (law.read t before new at gave.0 answer there.until gave.1)

    read_tried : (at : ℕ) (buf : List ℕ) (answer : Result ℕ Error) (mid new : H) → GoesOn IsSame t (past start) (past mid)
        → ReadIsTried (reads t) mid at buf answer new → GoesOn IsSame t (past start) (past new)
    read_tried at buf answer mid new so tried =
        let there = reads_on at mid tried.tries tried.mid so tried.interrupted in
        same_on start tried.mid new there (law.read t tried.mid new at buf answer there.until tried.gave)

    -- so many bytes of a piece were written
    record IsSo (at : ℕ) (piece : List ℕ) (done : ℕ) (now : H) : Type 0 where
      goes : GoesOn (IsTorn at (length piece)) t (past start) (past now)
      within : done ≤ length piece

    write_once : (at : ℕ) (piece : List ℕ) (done : ℕ) (mid new : H) (answer : Result ℕ Error) → IsSo at piece done mid → writes t mid (at + done) (drop done piece) answer new
        → GoesOn (IsTorn at (length piece)) t (past start) (past new)
    write_once at piece done mid new answer so gave =
        let rest = length (drop done piece) in
        let fits : done + rest ≤ length piece = omega (arith, length-drop done piece, so.within) in
        go_on (IsTorn at (length piece)) (IsTorn (at + done) rest) (IsTorn at (length piece)) t (past start) (past mid) (past new) (λ d c torn. torn)
        (λ e d c was now first second. torn_behind at (length piece) done rest e d c fits first second) so.goes
        (law.write t mid new (at + done) (drop done piece) answer so.goes.until gave)

    writes_on : (at : ℕ) (piece : List ℕ) (done : ℕ) (mid : H) (tries : ℕ) (new : H) → IsSo at piece done mid
        → AreInterrupted (λ before answer after. writes t before (at + done) (drop done piece) answer after) mid tries new → IsSo at piece done new
    writes_on at piece done mid _ _ so no_try = so
    writes_on at piece done mid _ new so (one_more {tries = tries} {answer = answer} {before = before} earlier gave was) =
        let there = writes_on at piece done mid tries before so earlier in
        record { goes = write_once at piece done before new answer there gave; within = so.within }

    write_tried : (at : ℕ) (piece : List ℕ) (done : ℕ) (answer : Result ℕ Error) (mid new : H) → IsSo at piece done mid
        → WriteIsTried (writes t) mid (at + done) (drop done piece) answer new → GoesOn (IsTorn at (length piece)) t (past start) (past new)
    write_tried at piece done answer mid new so tried =
        write_once at piece done tried.mid new answer (writes_on at piece done mid tried.tries tried.mid so tried.interrupted) tried.gave

    module _ (fresh : (past start).until ≤ t) where
      rest_same : GoesOn IsSame t (past start) (past start)
      rest_same = rest_on IsSame t (past start) same_none (law.is_past start) fresh

      read_front : (at : ℕ) (got : List ℕ) (after : H) → HasRead (reads t) start at got after → GoesOn IsSame t (past start) (past after)
      read_front at got after read_none = rest_same
      read_front at got after (read_some {bytes = first} {buf = buf} {count = count} {before = before} reading tried some) =
          read_tried (at + length first) buf (Ok count) before after (read_front at first before reading) tried

      write_front : (at : ℕ) (piece : List ℕ) (done : ℕ) (after : H) → HasWritten (writes t) start at piece done after → IsSo at piece done after
      write_front at piece done after wrote_none =
          record { goes = rest_on (IsTorn at (length piece)) t (past start) (torn_none at (length piece)) (law.is_past start) fresh; within = omega arith }
      write_front at piece done after (wrote_some {done = first} {count = count} {before = before} writing tried some) =
          let so = write_front at piece first before writing in
          let few : count ≤ length (drop first piece) = law.fits t tried.mid after (at + first) (drop first piece) count tried.gave in
          record { goes = write_tried at piece first (Ok count) before after so tried; within = omega (arith, few, so.within, length-drop first piece) }

      read_one : {A F : Type 0} (at : ℕ) (buf : List ℕ) (new : H) (answer : Result A F) → ReadIs (reads t) start at buf answer new → GoesOn IsSame t (past start) (past new)
      read_one at buf new (Ok done) given = read_front at buf new given
      read_one at buf new (Err fault) (inl given) = subst (λ file. GoesOn IsSame t (past start) (past file)) (sym given.1) rest_same
      read_one at buf new (Err fault) (inr given) =
          read_tried (at + given.done) (drop given.done buf) given.answer given.before new (read_front at (take given.done buf) given.before given.front) given.tried

      write_one : {A F : Type 0} (at : ℕ) (piece : List ℕ) (new : H) (answer : Result A F) → WriteIs (writes t) start at piece answer new → GoesOn (IsTorn at (length piece)) t (past start) (past new)
      write_one at piece new (Ok done) given = (write_front at piece (length piece) new given.1).goes
      write_one at piece new (Err fault) (inl given) =
          subst (λ file. GoesOn (IsTorn at (length piece)) t (past start) (past file)) (sym given.1) (rest_on (IsTorn at (length piece)) t (past start) (torn_none at (length piece)) (law.is_past start) fresh)
      write_one at piece new (Err fault) (inr given) =
          write_tried at piece given.done given.answer given.before new (write_front at piece given.done given.before given.front) given.tried

      length_one : {F : Type 0} (new : H) (answer : Result ℕ F) → LengthIs (lengths t) start answer new → GoesOn IsSame t (past start) (past new)
      length_one new (Ok count) given = law.asked t start new (Ok count) (omega (arith, fresh)) given.0
      length_one new (Err fault) (inl given) = law.asked t start new (Ok given.0) (omega (arith, fresh)) given.1
      length_one new (Err fault) (inr given) = law.asked t start new (Err given.0) (omega (arith, fresh)) given.1

      cut_one : {A F : Type 0} (len : ℕ) (new : H) (answer : Result A F) → CallIs (λ old succeeds after. cuts t old len succeeds after) start answer new → GoesOn (IsCutShort len) t (past start) (past new)
      cut_one len new (Ok done) given = law.cut t start new len true (omega (arith, fresh)) given
      cut_one len new (Err fault) given = law.cut t start new len false (omega (arith, fresh)) given

      sync_one : {A F : Type 0} (new : H) (answer : Result A F) → CallIs (syncs t) start answer new → GoesOn IsSame t (past start) (past new)
      sync_one new (Ok done) given = law.sync t start new true (omega (arith, fresh)) given
      sync_one new (Err fault) given = law.sync t start new false (omega (arith, fresh)) given

  -- the same of an area, which may have no file, and of a call at the last moment
  module _ {A F : Type 0} (S : List ℕ → List ℕ → Type 0) (same : (c : List ℕ) → S c c) (gives : H → Result A F → H → Type 0)
      (one : (old new : H) (answer : Result A F) → (past old).until ≤ t → gives old answer new → GoesOn S t (past old) (past new)) where
    rest_area : (old new : Option H) → (past_in past old).until ≤ t → new ≡ old → GoesOn S t (past_in past old) (past_in past new)
    rest_area old new fresh kept =
        subst (λ handle. GoesOn S t (past_in past old) (past_in past handle)) (sym kept) (rest_on S t (past_in past old) same (area_is_past past law.is_past old) fresh)

    open_on : (old new : Option H) (answer : Result A F) → (past_in past old).until ≤ t → IfOpen gives old answer new → GoesOn S t (past_in past old) (past_in past new)
    open_on (Some old) (Some new) answer fresh given = one old new answer fresh given
    open_on (Some old) None answer fresh given = absurd given
    open_on None new (Ok done) fresh given = absurd given
    open_on None new (Err fault) fresh given = rest_area None new fresh given

    pub area_on : (old new : Option H) (answer : Result A F) → (past_in past old).until ≤ t → AtMoment t gives old answer new → GoesOn S t (past_in past old) (past_in past new)
    area_on old new answer fresh (inl given) = open_on old new answer fresh given
    area_on old new answer fresh (inr given) = rest_area old new fresh given.1

  pub length_on : {F : Type 0} (old new : Option H) (answer : Result ℕ F) → (past_in past old).until ≤ t → AtMoment t (LengthIs (lengths t)) old answer new → GoesOn IsSame t (past_in past old) (past_in past new)
  length_on old new answer fresh given =
      area_on IsSame same_none (LengthIs (lengths t)) (λ before after made le gave. length_one before le after made gave) old new answer fresh given

  module _ {A F : Type 0} (old new : Option H) (answer : Result A F) (fresh : (past_in past old).until ≤ t) where
    pub read_on : (at : ℕ) (buf : List ℕ) → AtMoment t (λ before made after. ReadIs (reads t) before at buf made after) old answer new → GoesOn IsSame t (past_in past old) (past_in past new)
    read_on at buf given =
        area_on IsSame same_none (λ before made after. ReadIs (reads t) before at buf made after) (λ before after made le gave. read_one before le at buf after made gave) old new answer fresh given

    pub write_on : (at : ℕ) (piece : List ℕ) → AtMoment t (λ before made after. WriteIs (writes t) before at piece made after) old answer new → GoesOn (IsTorn at (length piece)) t (past_in past old) (past_in past new)
    write_on at piece given =
        area_on (IsTorn at (length piece)) (torn_none at (length piece)) (λ before made after. WriteIs (writes t) before at piece made after)
        (λ before after made le gave. write_one before le at piece after made gave) old new answer fresh given

    pub cut_on : (len : ℕ) → AtMoment t (CallIs (λ before succeeds after. cuts t before len succeeds after)) old answer new → GoesOn (IsCutShort len) t (past_in past old) (past_in past new)
    cut_on len given =
        area_on (IsCutShort len) (short_none len) (CallIs (λ before succeeds after. cuts t before len succeeds after)) (λ before after made le gave. cut_one before le len after made gave) old new answer fresh given

    pub sync_on : AtMoment t (CallIs (syncs t)) old answer new → GoesOn IsSame t (past_in past old) (past_in past new)
    sync_on given = area_on IsSame same_none (CallIs (syncs t)) (λ before after made le gave. sync_one before le after made gave) old new answer fresh given
