-- The file and the output in memory keep the laws of what a stop may leave.
use Rattle.std.specs.Prelude.{◌≡◌, ◌⊎◌, ℕ, ◌+◌, ◌<◌, ◌≤◌, Bool, true, false, List, [], ◌∷◌, ◌++◌, length, take, drop, Result, Ok, Err, refl}
use Rattle.std.proofs.Common.{inl, inr, sym, ap, subst, ◌∙◌, arith, append_assoc, append-nil, length-append, length-take-le, length-drop, le_refl}
use Rattle.std.proofs.lemmas.List.{take_at, drop_at, take-append-drop, take-take, take_all}
use Rattle.std.proofs.Math.Seq.{take-add}
use Rattle.std.specs.declared.io.Error.{Error}
use Rattle.pgs_world.specs.Disk.{written_over, IsTorn, IsCutShort}
use Rattle.pgs_world_streams.specs.Past.{IsPast, GoesOn, IsSame}
use Rattle.pgs_world_streams.specs.Written.{HasWriterStops, IsLonger}
use Rattle.pgs_world_files.specs.Contents.{IsOver}
use Rattle.pgs_world_files.specs.NamedLaws.{IsNamedOver, HasNamedStops}
use Rattle.pgs_world_files.specs.Stops.{HasStops}
use Rattle.tests_world.specs.declared.stopping.Was.{Was}
use Rattle.tests_world.specs.declared.stopping.Kept.{Kept}
use Rattle.tests_world.specs.Stopping.{left_by, left_in, past_by, past_of, IsStill, IsChanged, LengthOf, ReadOf, WriteOf, CutOf, SyncOf, NameOf, ReopenOf, AddOf, told_of}

kept_is_past : (kept : Kept) → IsPast (past_of kept)
kept_is_past kept = record { settled = λ t c le left. settled t c le left; now = λ t c le is. inl (omega (arith, le), is) }
  where
    settled : (t : ℕ) (c : List ℕ) → kept.until ≤ t → (past_of kept).left t c → c ≡ kept.bytes.items
    settled t c le (inl left) = left.1
    settled t c le (inr left) = absurd (omega (arith, le, left.0))

same_past : (xs ys : List ℕ) (m n : ℕ) (ps qs : List Was) → xs ≡ ys → m ≡ n → ps ≡ qs → past_by xs m ps ≡ past_by ys n qs
same_past xs ys m n ps qs a b c = ap (λ l. past_by l m ps) a ∙ ap (λ k. past_by ys k ps) b ∙ ap (past_by ys n) c

still_on : (S : List ℕ → List ℕ → Type 0) → ((c : List ℕ) → S c c) → (t : ℕ) (old new : Kept) → old.until ≤ t + 1 → IsStill old new → GoesOn S t (past_of old) (past_of new)
still_on S same t old new le still =
    subst (GoesOn S t (past_of old)) (sym (same_past new.bytes.items old.bytes.items new.until old.until new.past.items old.past.items still.bytes still.until still.past))
    (record {
      until = le;
      earlier = λ u c lt left. left;
      kept = λ u c lt left. left;
      during = λ c left. inl left;
      after = λ c left. (c, left, same c);
      reached = λ c left. inl (le, left);
    })

changed_on : (S : List ℕ → List ℕ → Type 0) (t : ℕ) (old new : Kept) (bytes : List ℕ) → S old.bytes.items bytes → old.until ≤ t + 1 → IsChanged t bytes old new → GoesOn S t (past_of old) (past_of new)
changed_on S t old new bytes step le changed =
    subst (GoesOn S t (past_of old)) (sym (same_past new.bytes.items bytes new.until (t + 1) new.past.items (changed.was ∷ old.past.items) changed.are changed.until changed.past))
    (record {
      until = omega arith;
      earlier = λ u c lt left. earlier u c lt left;
      kept = λ u c lt left. inr (omega (arith, lt), subst (λ l. left_by changed.was.until l (left_in old.past.items) u c) (sym changed.was_bytes) (subst (λ n. left_by n old.bytes.items (left_in old.past.items) u c) (sym changed.was_until) left));
      during = λ c left. during c left;
      after = λ c is. (old.bytes.items, refl, subst (S old.bytes.items) (sym is) step);
      reached = λ c is. inl (omega arith, is);
    })
  where
    before : (u : ℕ) (c : List ℕ) → left_in (changed.was ∷ old.past.items) u c → (past_of old).left u c
    before u c left =
        subst (λ n. left_by n old.bytes.items (left_in old.past.items) u c) changed.was_until
        (subst (λ l. left_by changed.was.until l (left_in old.past.items) u c) changed.was_bytes left)

    earlier : (u : ℕ) (c : List ℕ) → u < t → left_by (t + 1) bytes (left_in (changed.was ∷ old.past.items)) u c → (past_of old).left u c
    earlier u c lt (inl left) = absurd (omega (arith, lt, left.0))
    earlier u c lt (inr left) = before u c left.1

    during : (c : List ℕ) → left_by (t + 1) bytes (left_in (changed.was ∷ old.past.items)) t c → (past_of old).left t c ⊎ ((d : List ℕ) × (d ≡ old.bytes.items) × S d c)
    during c (inl left) = inr (old.bytes.items, refl, subst (S old.bytes.items) (sym left.1) step)
    during c (inr left) = inl (before t c left.1)

same_none : (c : List ℕ) → IsSame c c
same_none c = refl

torn_none : (at count : ℕ) (c : List ℕ) → IsTorn at count c c
torn_none at count c = record { before = refl; after = refl; no_shorter = omega arith; no_longer = omega arith }

short_none : (len : ℕ) (c : List ℕ) → IsCutShort len c c
short_none len c = record { front = refl; no_shorter = omega arith; no_longer = omega arith }

longer_none : (piece c : List ℕ) → IsLonger piece c c
longer_none piece c = record { front = []; back = piece; parts = refl; added = sym (append-nil c) }

torn_written : (bytes piece : List ℕ) (at : ℕ) → at ≤ length bytes → IsTorn at (length piece) bytes (written_over bytes at piece)
torn_written bytes piece at inside =
    let front = take at bytes in
    let rest = drop (at + length piece) bytes in
    let size : length (take at bytes) ≡ at = length-take-le at bytes inside in
    let both : length (take at bytes ++ piece) ≡ at + length piece = length-append (take at bytes) piece ∙ ap (λ n. n + length piece) size in
    let all : length (written_over bytes at piece) ≡ length (take at bytes ++ piece) + length (drop (at + length piece) bytes) = length-append (take at bytes ++ piece) (drop (at + length piece) bytes) in
    let left = length-drop (at + length piece) bytes in
    record {
      before = ap (take at) (append_assoc front piece rest) ∙ take_at front (piece ++ rest) at size;
      after = drop_at (front ++ piece) rest (at + length piece) both;
      no_shorter = omega (arith, all, both, left);
      no_longer = omega (arith, all, both, left, inside);
    }

short_cut : (bytes : List ℕ) (len : ℕ) → len ≤ length bytes → IsCutShort len bytes (take len bytes)
short_cut bytes len inside =
    let size = length-take-le len bytes inside in
    record { front = take-take len len bytes (le_refl len); no_shorter = omega (arith, size); no_longer = omega (arith, size, inside) }

write_on : (t : ℕ) (old new : Kept) (at : ℕ) (piece : List ℕ) (answer : Result ℕ Error) → old.until ≤ t + 1 → WriteOf t old at piece answer new → GoesOn (IsTorn at (length piece)) t (past_of old) (past_of new)
write_on t old new at piece (Ok count) le gave =
    changed_on (IsTorn at (length piece)) t old new (written_over old.bytes.items at piece) (torn_written old.bytes.items piece at gave.1) le gave.2
write_on t old new at piece (Err error) le gave = still_on (IsTorn at (length piece)) (torn_none at (length piece)) t old new le gave

cut_on : (t : ℕ) (old new : Kept) (len : ℕ) (succeeds : Bool) → old.until ≤ t + 1 → CutOf t old len succeeds new → GoesOn (IsCutShort len) t (past_of old) (past_of new)
cut_on t old new len true le gave = changed_on (IsCutShort len) t old new (take len old.bytes.items) (short_cut old.bytes.items len gave.0) le gave.1
cut_on t old new len false le gave = still_on (IsCutShort len) (short_none len) t old new le gave

add_on : (t : ℕ) (old new : Kept) (piece : List ℕ) (answer : Result ℕ Error) → old.until ≤ t + 1 → AddOf t old piece answer new → GoesOn (IsLonger piece) t (past_of old) (past_of new)
add_on t old new piece (Ok count) le gave =
    changed_on (IsLonger piece) t old new (old.bytes.items ++ piece) (record { front = piece; back = []; parts = sym (append-nil piece); added = refl }) le gave.1
add_on t old new piece (Err error) le gave = still_on (IsLonger piece) (longer_none piece) t old new le gave

pub kept_stops : HasStops (λ kept. kept.bytes.items) past_of LengthOf ReadOf WriteOf CutOf SyncOf
kept_stops =
    record {
      is_past = kept_is_past;
      shown = λ kept. refl;
      asked = λ t old new answer le gave. still_on IsSame same_none t old new le gave.0;
      read = λ t old new at buf answer le gave. still_on IsSame same_none t old new le gave.0;
      sync = λ t old new succeeds le gave. still_on IsSame same_none t old new le gave;
      write = write_on;
      cut = cut_on;
      fits = λ t old new at piece count gave. omega (arith, gave.0);
      synced = λ t old new c gave left. left;
    }

pub kept_over : (t : ℕ) → IsOver (λ kept. kept.bytes.items) (LengthOf t) (ReadOf t) (WriteOf t) (CutOf t) (SyncOf t)
kept_over t =
    record {
      counted = λ old new count gave. gave.1;
      read = λ old new at buf count gave. gave.1;
      fits = λ old new at piece count gave. omega (arith, gave.0);
      written = λ old new at piece count gave inside. gave.2.are ∙ ap (written_over old.bytes.items at) (sym (take_all count piece (omega (arith, gave.0))));
      write_fails = λ old new at piece error gave. gave.bytes;
      cut = λ old new len gave inside. gave.1.are;
      length_keeps = λ old new answer gave. gave.0.bytes;
      read_keeps = λ old new at buf answer gave. gave.0.bytes;
      sync_keeps = λ old new succeeds gave. gave.bytes;
    }

-- the byte that stands at a place, written there
again_written : (bytes byte : List ℕ) (at : ℕ) → length byte ≡ 1 → byte ≡ take 1 (drop at bytes) → written_over bytes at byte ≡ bytes
again_written bytes byte at size stands =
    ap (λ n. take at bytes ++ byte ++ drop (at + n) bytes) size ∙ ap (λ (l : List ℕ). take at bytes ++ l ++ drop (at + 1) bytes) stands
    ∙ ap (λ (l : List ℕ). l ++ drop (at + 1) bytes) (sym (take-add at 1 bytes)) ∙ take-append-drop (at + 1) bytes

again_on : (t : ℕ) (old new : Kept) (at : ℕ) (byte : List ℕ) (answer : Result ℕ Error) → old.until ≤ t + 1 → length byte ≡ 1
    → byte ≡ take 1 (drop at old.bytes.items) → WriteOf t old at byte answer new → GoesOn IsSame t (past_of old) (past_of new)
again_on t old new at byte (Ok count) le size stands gave =
    changed_on IsSame t old new (written_over old.bytes.items at byte) (again_written old.bytes.items byte at size stands) le gave.2
again_on t old new at byte (Err error) le size stands gave = still_on IsSame same_none t old new le gave

pub named_over : (t : ℕ) → IsNamedOver (λ kept. kept.bytes.items) (LengthOf t) (ReadOf t) (WriteOf t) (CutOf t) (SyncOf t) (NameOf t) (ReopenOf t)
named_over t =
    record {
      over = kept_over t;
      name_keeps = λ old new len succeeds gave. gave.bytes;
      reopen_keeps = λ old new gave. gave.bytes;
    }

pub named_stops : HasNamedStops (λ kept. kept.bytes.items) past_of LengthOf ReadOf WriteOf CutOf SyncOf NameOf ReopenOf
named_stops =
    record {
      over = named_over;
      handle = kept_stops;
      name = λ t old new len succeeds le gave. still_on IsSame same_none t old new le gave;
      name_leaves = λ t old new len succeeds c gave left. left ∙ gave.bytes;
      reopen = λ t old new le gave. still_on IsSame same_none t old new le gave;
      again = again_on;
    }

pub output_stops : HasWriterStops told_of past_of AddOf SyncOf
output_stops =
    record {
      is_past = kept_is_past;
      shown = λ kept. refl;
      all = λ kept c left. left;
      write = add_on;
      takes = λ t old new piece count gave. gave.1.are ∙ ap (λ (l : List ℕ). old.bytes.items ++ l) (sym (take_all count piece (omega (arith, gave.0))));
      write_fails = λ t old new piece error gave. gave.bytes;
      flush = λ t old new succeeds le gave. still_on IsSame same_none t old new le gave;
    }
