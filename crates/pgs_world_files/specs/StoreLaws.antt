-- A file of a store tells what the file with a name that it is tells, though its writes and cuts ask for the length first, its syncs look at
-- the name, and a byte of each block is written again behind a sync that failed.
use Rattle.std.specs.Prelude.{◌≡◌, ℕ, ◌+◌, ◌*◌, ◌≤◌, min, Bool, true, false, List, ◌++◌, length, take, drop, Result, Ok, Err, refl}
use Rattle.std.specs.Int.{div_ceil}
use Rattle.std.proofs.Common.{inl, inr, sym, ap, subst, ◌∙◌, arith, ⊎_elim, length-take, length-drop}
use Rattle.std.proofs.lemmas.List.{take-take, take-append-drop, take_all, take_min}
use Rattle.std.proofs.Math.Seq.{take-add}
use Rattle.std.specs.declared.io.Error.{Error}
use Rattle.pgs_world.specs.Disk.{written_over, IsTorn, IsCutShort}
use Rattle.pgs_world_streams.specs.Given.{PlacedCall, BareCall}
use Rattle.pgs_world_streams.specs.Past.{Past, GoesOn, IsSame}
use Rattle.pgs_world_streams.proofs.Moments.{go_on}
use Rattle.pgs_world_files.specs.Contents.{IsOver}
use Rattle.pgs_world_files.specs.Named.{LengthCall, NameCall, LengthStands, IsLookedAt, KnowsTheSame, IsWritten, IsCut, SyncIs}
use Rattle.pgs_world_files.specs.NamedLaws.{IsNamedOver, HasNamedStops}
use Rattle.pgs_world_files.specs.Rewriting.{IsByteRewritten, HasRewritten, BlocksAreRewritten, IsRewritten}
use Rattle.pgs_world_files.specs.Rewriting.IsByteRewritten.{not_read, rewritten}
use Rattle.pgs_world_files.specs.Rewriting.HasRewritten.{no_block, one_more}
use Rattle.pgs_world_files.specs.Stops.{HasStops}
use Rattle.pgs_world_files.specs.declared.store_file.StoreFile.{StoreFile}
use Rattle.pgs_world_files.specs.declared.store_file.Unsynced.{Unsynced}
use Rattle.pgs_world_files.specs.declared.store_file.Unsynced.TheVariants.{Nothing, BehindEnd, Within}

-- the first bytes are as many as they are
front_size : (n : ℕ) (l : List ℕ) → take n l ≡ take (length (take n l)) l
front_size n l = sym (take_min n l) ∙ ap (λ k. take k l) (sym (length-take n l))

-- a byte that was read at a place stands there
byte_stands : (byte bytes : List ℕ) (at : ℕ) → length byte ≡ 1 → take 1 byte ≡ take (length (take 1 byte)) (drop at bytes)
    → byte ≡ take 1 (drop at bytes)
byte_stands byte bytes at size read =
    let all : take 1 byte ≡ byte = take_all 1 byte (omega (arith, size)) in
    sym all ∙ read ∙ ap (λ n. take n (drop at bytes)) (ap length all ∙ size)

-- and there is a byte
stands_inside : (byte bytes : List ℕ) (at : ℕ) → length byte ≡ 1 → byte ≡ take 1 (drop at bytes) → at ≤ length bytes
stands_inside byte bytes at size stands =
    let some : min 1 (length (drop at bytes)) ≡ 1 = sym (length-take 1 (drop at bytes)) ∙ ap length (sym stands) ∙ size in
    omega (arith, some, length-drop at bytes)

-- bytes that stand at a place are written there
written_same : (bytes piece : List ℕ) (at : ℕ) → piece ≡ take (length piece) (drop at bytes) → written_over bytes at piece ≡ bytes
written_same bytes piece at stands =
    ap (λ (l : List ℕ). take at bytes ++ l ++ drop (at + length piece) bytes) stands
    ∙ ap (λ (l : List ℕ). l ++ drop (at + length piece) bytes) (sym (take-add at (length piece) bytes)) ∙ take-append-drop (at + length piece) bytes

-- the byte that stands at a place is written there, or not
written_again : (bytes byte : List ℕ) (at count : ℕ) → count ≤ length byte → length byte ≡ 1 → byte ≡ take 1 (drop at bytes)
    → written_over bytes at (take count byte) ≡ bytes
written_again bytes byte at count few size stands =
    let front : take count byte ≡ take count (drop at bytes) = ap (take count) stands ∙ take-take count 1 (drop at bytes) (omega (arith, few, size)) in
    written_same bytes (take count byte) at (front ∙ front_size count (drop at bytes) ∙ ap (λ (l : List ℕ). take (length l) (drop at bytes)) (sym front))

module _ {F : Type 0} (contents : F → List ℕ) (lengths : LengthCall F) (reads writes : PlacedCall F) (cuts : F → ℕ → Bool → F → Type 0)
    (syncs : BareCall F) (names : NameCall F) (reopens : F → F → Type 0) (law : IsNamedOver contents lengths reads writes cuts syncs names reopens) where
  pub length_keeps : (known : ℕ) (old mid : F) (stands : Bool) → LengthStands lengths known old stands mid → contents mid ≡ contents old
  length_keeps known old mid true gave = law.over.length_keeps old mid (Ok known) gave
  length_keeps known old mid false (inl gave) = law.over.length_keeps old mid (Err gave.0) gave.1
  length_keeps known old mid false (inr gave) = law.over.length_keeps old mid (Ok gave.0) gave.1

  pub look_keeps : (unsynced : Unsynced) (known : ℕ) (mid new : F) → IsLookedAt names unsynced known mid new → contents new ≡ contents mid
  look_keeps Nothing known mid new gave = law.name_keeps mid new known true gave
  look_keeps BehindEnd known mid new same = ap contents same
  look_keeps Within known mid new gave = law.name_keeps mid new known true gave

  pub stands_there : (old mid : F) (at : ℕ) (byte : List ℕ) → length byte ≡ 1 → reads old at byte (Ok 1) mid → byte ≡ take 1 (drop at (contents mid))
  stands_there old mid at byte size gave =
      byte_stands byte (contents old) at size (law.over.read old mid at byte 1 gave)
      ∙ ap (λ (l : List ℕ). take 1 (drop at l)) (sym (law.over.read_keeps old mid at byte (Ok 1) gave))

  again_keeps : (mid new : F) (at : ℕ) (byte : List ℕ) (answer : Result ℕ Error) → length byte ≡ 1 → byte ≡ take 1 (drop at (contents mid))
      → writes mid at byte answer new → contents new ≡ contents mid
  again_keeps mid new at byte (Ok count) size stands gave =
      law.over.written mid new at byte count gave (stands_inside byte (contents mid) at size stands)
      ∙ written_again (contents mid) byte at count (law.over.fits mid new at byte count gave) size stands
  again_keeps mid new at byte (Err error) size stands gave = law.over.write_fails mid new at byte error gave

  byte_keeps : (old : F) (at : ℕ) (new : F) → IsByteRewritten reads writes old at new → contents new ≡ contents old
  byte_keeps old at new (not_read {buf = buf} {answer = answer} gave none) = law.over.read_keeps old new at buf answer gave
  byte_keeps old at new (rewritten {byte = byte} {answer = answer} {mid = mid} size gave wrote) =
      again_keeps mid new at byte answer size (stands_there old mid at byte size gave) wrote ∙ law.over.read_keeps old mid at byte (Ok 1) gave

  blocks_keep : (old : F) (blocks : ℕ) (new : F) → HasRewritten reads writes old blocks new → contents new ≡ contents old
  blocks_keep old _ _ no_block = refl
  blocks_keep old _ new (one_more {blocks = blocks} {before = before} earlier one) =
      byte_keeps before (blocks * 512) new one ∙ blocks_keep old blocks before earlier

  asked_keep : (asked : F) (answer : Result ℕ Error) (new : F) → BlocksAreRewritten reads writes asked answer new → contents new ≡ contents asked
  asked_keep asked (Ok len) new blocks = blocks_keep asked (div_ceil len 512) new blocks
  asked_keep asked (Err error) new same = ap contents same

  rewriting_keeps : (old new : F) → IsRewritten reopens lengths reads writes old new → contents new ≡ contents old
  rewriting_keeps old new is =
      asked_keep is.asked is.answer new is.blocks ∙ law.over.length_keeps is.opened is.asked is.answer is.length ∙ law.reopen_keeps old is.opened is.reopened

  sync_keeps : (old new : StoreFile F) (succeeds : Bool) → SyncIs syncs names reopens lengths reads writes old succeeds new → contents new.file ≡ contents old.file
  sync_keeps old new true (mid, synced, looked, known, rest) =
      look_keeps old.unsynced old.known mid new.file looked ∙ law.over.sync_keeps old.file mid true synced
  sync_keeps old new false (same, inl (mid, synced, is)) = rewriting_keeps mid new.file is ∙ law.over.sync_keeps old.file mid false synced
  sync_keeps old new false (same, inr (mid, synced, name)) = law.name_keeps mid new.file old.known false name ∙ law.over.sync_keeps old.file mid true synced

  write_over : (old new : StoreFile F) (at : ℕ) (piece : List ℕ) (count : ℕ) → IsWritten lengths writes old at piece (Ok count) new
      → at ≤ length (contents old.file) → contents new.file ≡ written_over (contents old.file) at (take count piece)
  write_over old new at piece count (inl (mid, stands, wrote, knows)) inside =
      let same = length_keeps old.known old.file mid true stands in
      law.over.written mid new.file at piece count wrote (subst (λ (l : List ℕ). at ≤ length l) (sym same) inside)
      ∙ ap (λ (l : List ℕ). written_over l at (take count piece)) same
  write_over old new at piece count (inr (stands, nothing, same)) inside = absurd nothing

  failed_over : (old new : StoreFile F) (at : ℕ) (piece : List ℕ) (error : Error) → IsWritten lengths writes old at piece (Err error) new
      → contents new.file ≡ contents old.file
  failed_over old new at piece error (inl (mid, stands, wrote, knows)) =
      law.over.write_fails mid new.file at piece error wrote ∙ length_keeps old.known old.file mid true stands
  failed_over old new at piece error (inr (stands, nothing, same)) = length_keeps old.known old.file new.file false stands

  fits_over : (old new : StoreFile F) (at : ℕ) (piece : List ℕ) (count : ℕ) → IsWritten lengths writes old at piece (Ok count) new → count ≤ length piece
  fits_over old new at piece count (inl (mid, stands, wrote, knows)) = law.over.fits mid new.file at piece count wrote
  fits_over old new at piece count (inr (stands, nothing, same)) = absurd nothing

  cut_over : (old new : StoreFile F) (len : ℕ) → IsCut lengths cuts old len true new → len ≤ length (contents old.file)
      → contents new.file ≡ take len (contents old.file)
  cut_over old new len (mid, stands, cut, known, rest) inside =
      let same = length_keeps old.known old.file mid true stands in
      law.over.cut mid new.file len cut (subst (λ (l : List ℕ). len ≤ length l) (sym same) inside) ∙ ap (λ (l : List ℕ). take len l) same

  pub store_over : IsOver (λ (store : StoreFile F). contents store.file) (λ old answer new. lengths old.file answer new.file × KnowsTheSame old new)
      (λ old at buf answer new. reads old.file at buf answer new.file × KnowsTheSame old new) (IsWritten lengths writes) (IsCut lengths cuts)
      (SyncIs syncs names reopens lengths reads writes)
  store_over =
      record {
        counted = λ old new count gave. law.over.counted old.file new.file count gave.0;
        read = λ old new at buf count gave. law.over.read old.file new.file at buf count gave.0;
        fits = fits_over;
        written = write_over;
        write_fails = failed_over;
        cut = cut_over;
        length_keeps = λ old new answer gave. law.over.length_keeps old.file new.file answer gave.0;
        read_keeps = λ old new at buf answer gave. law.over.read_keeps old.file new.file at buf answer gave.0;
        sync_keeps = sync_keeps;
      }

-- calls that leave nothing new, and then one more call
behind_same : (S : List ℕ → List ℕ → Type 0) → ((c : List ℕ) → S c c) → (t : ℕ) (old mid new : Past) → GoesOn IsSame t old mid → GoesOn S t mid new
    → GoesOn S t old new
behind_same S same t old mid new =
    go_on IsSame S S t old mid new (λ d c is. subst (S d) (sym is) (same d)) (λ e d c was now is step. subst (λ x. S x c) is step)

-- what leaves nothing new does any step that may do nothing
at_rest : (S : List ℕ → List ℕ → Type 0) → ((c : List ℕ) → S c c) → (t : ℕ) (old new : Past) → GoesOn IsSame t old new → GoesOn S t old new
at_rest S same t old new goes =
    record {
      until = goes.until;
      earlier = goes.earlier;
      kept = goes.kept;
      during = λ c left. ⊎_elim (λ was. inl was) (λ step. inr (step.0, step.1, subst (S step.0) (sym step.2) (same step.0))) (goes.during c left);
      after = λ c left. let step = goes.after c left in (step.0, step.1, subst (S step.0) (sym step.2) (same step.0));
      reached = goes.reached;
    }

same_on : (t : ℕ) (old mid new : Past) → GoesOn IsSame t old mid → GoesOn IsSame t mid new → GoesOn IsSame t old new
same_on t old mid new p q = behind_same IsSame (λ c. refl) t old mid new p q

torn_none : (at count : ℕ) (c : List ℕ) → IsTorn at count c c
torn_none at count c = record { before = refl; after = refl; no_shorter = omega arith; no_longer = omega arith }

short_none : (len : ℕ) (c : List ℕ) → IsCutShort len c c
short_none len c = record { front = refl; no_shorter = omega arith; no_longer = omega arith }

module _ {F : Type 0} (contents : F → List ℕ) (past : F → Past) (lengths : ℕ → LengthCall F) (reads writes : ℕ → PlacedCall F)
    (cuts : ℕ → F → ℕ → Bool → F → Type 0) (syncs : ℕ → BareCall F) (names : ℕ → NameCall F) (reopens : ℕ → F → F → Type 0)
    (law : HasNamedStops contents past lengths reads writes cuts syncs names reopens) where
  module _ (t : ℕ) where
    stands_on : (known : ℕ) (old mid : F) (stands : Bool) → (past old).until ≤ t + 1 → LengthStands (lengths t) known old stands mid → GoesOn IsSame t (past old) (past mid)
    stands_on known old mid true le gave = law.handle.asked t old mid (Ok known) le gave
    stands_on known old mid false le (inl gave) = law.handle.asked t old mid (Err gave.0) le gave.1
    stands_on known old mid false le (inr gave) = law.handle.asked t old mid (Ok gave.0) le gave.1

    write_on : (old new : StoreFile F) (at : ℕ) (piece : List ℕ) (answer : Result ℕ Error) → (past old.file).until ≤ t + 1
        → IsWritten (lengths t) (writes t) old at piece answer new → GoesOn (IsTorn at (length piece)) t (past old.file) (past new.file)
    write_on old new at piece answer le (inl (mid, stands, wrote, knows)) =
        let asked = stands_on old.known old.file mid true le stands in
        behind_same (IsTorn at (length piece)) (torn_none at (length piece)) t (past old.file) (past mid) (past new.file) asked
        (law.handle.write t mid new.file at piece answer asked.until wrote)
    write_on old new at piece answer le (inr (stands, nothing, same)) =
        at_rest (IsTorn at (length piece)) (torn_none at (length piece)) t (past old.file) (past new.file) (stands_on old.known old.file new.file false le stands)

    cut_behind : (old new : StoreFile F) (mid : F) (len : ℕ) (succeeds : Bool) → (past old.file).until ≤ t + 1
        → LengthStands (lengths t) old.known old.file true mid → cuts t mid len succeeds new.file → GoesOn (IsCutShort len) t (past old.file) (past new.file)
    cut_behind old new mid len succeeds le stands cut =
        let asked = stands_on old.known old.file mid true le stands in
        behind_same (IsCutShort len) (short_none len) t (past old.file) (past mid) (past new.file) asked
        (law.handle.cut t mid new.file len succeeds asked.until cut)

    cut_on : (old new : StoreFile F) (len : ℕ) (succeeds : Bool) → (past old.file).until ≤ t + 1 → IsCut (lengths t) (cuts t) old len succeeds new
        → GoesOn (IsCutShort len) t (past old.file) (past new.file)
    cut_on old new len true le (mid, stands, cut, known, rest) = cut_behind old new mid len true le stands cut
    cut_on old new len false le (same, inl stands) =
        at_rest (IsCutShort len) (short_none len) t (past old.file) (past new.file) (stands_on old.known old.file new.file false le stands)
    cut_on old new len false le (same, inr (mid, stands, cut)) = cut_behind old new mid len false le stands cut

    -- behind calls of this moment that left nothing new
    module _ (start : F) where
      look_on : (unsynced : Unsynced) (known : ℕ) (mid new : F) → GoesOn IsSame t (past start) (past mid) → IsLookedAt (names t) unsynced known mid new
          → GoesOn IsSame t (past start) (past new)
      look_on Nothing known mid new so gave = same_on t (past start) (past mid) (past new) so (law.name t mid new known true so.until gave)
      look_on BehindEnd known mid new so same = subst (λ file. GoesOn IsSame t (past start) (past file)) (sym same) so
      look_on Within known mid new so gave = same_on t (past start) (past mid) (past new) so (law.name t mid new known true so.until gave)

      byte_on : (old : F) (at : ℕ) (new : F) → GoesOn IsSame t (past start) (past old) → IsByteRewritten (reads t) (writes t) old at new
          → GoesOn IsSame t (past start) (past new)
      byte_on old at new so (not_read {buf = buf} {answer = answer} gave none) =
          same_on t (past start) (past old) (past new) so (law.handle.read t old new at buf answer so.until gave)
      byte_on old at new so (rewritten {byte = byte} {answer = answer} {mid = mid} size gave wrote) =
          let there = same_on t (past start) (past old) (past mid) so (law.handle.read t old mid at byte (Ok 1) so.until gave) in
          let stands = stands_there contents (lengths t) (reads t) (writes t) (cuts t) (syncs t) (names t) (reopens t) (law.over t) old mid at byte size gave in
          same_on t (past start) (past mid) (past new) there (law.again t mid new at byte answer there.until size stands wrote)

      blocks_on : (old : F) (blocks : ℕ) (new : F) → GoesOn IsSame t (past start) (past old) → HasRewritten (reads t) (writes t) old blocks new
          → GoesOn IsSame t (past start) (past new)
      blocks_on old _ _ so no_block = so
      blocks_on old _ new so (one_more {blocks = blocks} {before = before} earlier one) =
          byte_on before (blocks * 512) new (blocks_on old blocks before so earlier) one

      asked_on : (asked : F) (answer : Result ℕ Error) (new : F) → GoesOn IsSame t (past start) (past asked)
          → BlocksAreRewritten (reads t) (writes t) asked answer new → GoesOn IsSame t (past start) (past new)
      asked_on asked (Ok len) new so blocks = blocks_on asked (div_ceil len 512) new so blocks
      asked_on asked (Err error) new so same = subst (λ file. GoesOn IsSame t (past start) (past file)) (sym same) so

      rewriting_on : (old new : F) → GoesOn IsSame t (past start) (past old) → IsRewritten (reopens t) (lengths t) (reads t) (writes t) old new
          → GoesOn IsSame t (past start) (past new)
      rewriting_on old new so is =
          let opened = same_on t (past start) (past old) (past is.opened) so (law.reopen t old is.opened so.until is.reopened) in
          let asked = same_on t (past start) (past is.opened) (past is.asked) opened (law.handle.asked t is.opened is.asked is.answer opened.until is.length) in
          asked_on is.asked is.answer new asked is.blocks

    sync_on : (old new : StoreFile F) (succeeds : Bool) → (past old.file).until ≤ t + 1
        → SyncIs (syncs t) (names t) (reopens t) (lengths t) (reads t) (writes t) old succeeds new → GoesOn IsSame t (past old.file) (past new.file)
    sync_on old new true le (mid, synced, looked, known, rest) =
        look_on old.file old.unsynced old.known mid new.file (law.handle.sync t old.file mid true le synced) looked
    sync_on old new false le (same, inl (mid, synced, is)) = rewriting_on old.file mid new.file (law.handle.sync t old.file mid false le synced) is
    sync_on old new false le (same, inr (mid, synced, name)) =
        let so = law.handle.sync t old.file mid true le synced in
        same_on t (past old.file) (past mid) (past new.file) so (law.name t mid new.file old.known false so.until name)

    look_leaves : (unsynced : Unsynced) (known : ℕ) (mid new : F) (c : List ℕ) → IsLookedAt (names t) unsynced known mid new → (past new).may_leave c
        → (past mid).may_leave c
    look_leaves Nothing known mid new c gave left = law.name_leaves t mid new known true c gave left
    look_leaves BehindEnd known mid new c same left = subst (λ file. (past file).may_leave c) same left
    look_leaves Within known mid new c gave left = law.name_leaves t mid new known true c gave left

    synced_on : (old new : StoreFile F) (c : List ℕ) → SyncIs (syncs t) (names t) (reopens t) (lengths t) (reads t) (writes t) old true new
        → (past new.file).may_leave c → c ≡ contents new.file
    synced_on old new c (mid, synced, looked, known, rest) left =
        law.handle.synced t old.file mid c synced (look_leaves old.unsynced old.known mid new.file c looked left)
        ∙ sym (look_keeps contents (lengths t) (reads t) (writes t) (cuts t) (syncs t) (names t) (reopens t) (law.over t) old.unsynced old.known mid new.file looked)

    fits_on : (old new : StoreFile F) (at : ℕ) (piece : List ℕ) (count : ℕ) → IsWritten (lengths t) (writes t) old at piece (Ok count) new → count ≤ length piece
    fits_on old new at piece count (inl (mid, stands, wrote, knows)) = law.handle.fits t mid new.file at piece count wrote
    fits_on old new at piece count (inr (stands, nothing, same)) = absurd nothing

  pub store_stops : HasStops (λ (store : StoreFile F). contents store.file) (λ store. past store.file)
      (λ t old answer new. lengths t old.file answer new.file × KnowsTheSame old new)
      (λ t old at buf answer new. reads t old.file at buf answer new.file × KnowsTheSame old new) (λ t. IsWritten (lengths t) (writes t))
      (λ t. IsCut (lengths t) (cuts t)) (λ t. SyncIs (syncs t) (names t) (reopens t) (lengths t) (reads t) (writes t))
  store_stops =
      record {
        is_past = λ store. law.handle.is_past store.file;
        shown = λ store. law.handle.shown store.file;
        asked = λ t old new answer le gave. law.handle.asked t old.file new.file answer le gave.0;
        read = λ t old new at buf answer le gave. law.handle.read t old.file new.file at buf answer le gave.0;
        sync = sync_on;
        write = write_on;
        cut = cut_on;
        fits = fits_on;
        synced = synced_on;
      }
