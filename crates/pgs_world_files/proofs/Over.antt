-- What the answers of a file that tells its bytes say of them, call by call.
use Rattle.std.proofs.Common.{◌≡◌, ℕ, ◌+◌, ◌-◌, ◌≤◌, Bool, true, false, List, [], ◌∷◌, ◌++◌, length, take, drop, Option, Some, None, Result, Ok, Err, inl, inr, IsTrue, refl, sym, ap, subst, ◌∙◌, append_assoc, append-nil, add-zero, arith, length-append, length-take-le, length-drop}
use Rattle.std.proofs.lemmas.Bool.{false≢true}
use Rattle.std.proofs.lemmas.List.{take_at, drop_at, drop-drop, take-append-drop}
use Rattle.std.proofs.Math.Seq.{take-add}
use Rattle.std.specs.declared.io.Error.{Error}
use Rattle.pgs_world.specs.Disk.{written_over}
use Rattle.pgs_world_streams.specs.Given.{PlacedCall, BareCall}
use Rattle.pgs_world_streams.specs.Tries.{AreInterrupted, WasInterrupted, ReadIsTried, WriteIsTried}
use Rattle.pgs_world_streams.specs.Tries.AreInterrupted.{no_try, one_more}
use Rattle.pgs_world_streams.specs.Whole.{HasRead, HasWritten}
use Rattle.pgs_world_streams.specs.Whole.HasRead.{read_none, read_some}
use Rattle.pgs_world_streams.specs.Whole.HasWritten.{wrote_none, wrote_some}
use Rattle.pgs_world_files.specs.Contents.{IsOver}
use Rattle.pgs_world_files.specs.Counted.{bytes_in}
use Rattle.pgs_world_files.specs.Handles.{LengthIs, ReadIs, WriteIs, CallIs, IfOpen}

-- nothing was written
pub written_none : (bytes : List ℕ) (at : ℕ) → written_over bytes at [] ≡ bytes
written_none bytes at =
    ap (λ (l : List ℕ). l ++ drop (at + 0) bytes) (append-nil (take at bytes)) ∙ ap (λ n. take at bytes ++ drop n bytes) (add-zero at)
    ∙ take-append-drop at bytes

module _ (bytes piece : List ℕ) (at : ℕ) (inside : at ≤ length bytes) where
  size : length (take at bytes) ≡ at
  size = length-take-le at bytes inside

  front_size : length (take at bytes ++ piece) ≡ at + length piece
  front_size = length-append (take at bytes) piece ∙ ap (λ n. n + length piece) size

  -- a place behind what was written
  pub behind_written : at + length piece ≤ length (written_over bytes at piece)
  behind_written =
      let e : length (written_over bytes at piece) ≡ length (take at bytes ++ piece) + length (drop (at + length piece) bytes) = length-append (take at bytes ++ piece) (drop (at + length piece) bytes) in
      omega (arith, e, front_size)

  -- bytes that are written behind what was written
  pub written_on : (more : List ℕ) → written_over (written_over bytes at piece) (at + length piece) more ≡ written_over bytes at (piece ++ more)
  written_on more =
      let rest = drop (at + length piece) bytes in
      let front = take_at (take at bytes ++ piece) rest (at + length piece) front_size in
      let back : drop (at + length piece + length more) (written_over bytes at piece) ≡ drop (length more) rest =
      sym (drop-drop (length more) (at + length piece) (written_over bytes at piece))
      ∙ ap (drop (length more)) (drop_at (take at bytes ++ piece) rest (at + length piece) front_size) in
      let same : drop (length more) rest ≡ drop (at + length (piece ++ more)) bytes =
      drop-drop (length more) (at + length piece) bytes ∙ ap (λ n. drop n bytes) (omega (arith, length-append piece more)) in
      ap (λ (l : List ℕ). l ++ more ++ drop (at + length piece + length more) (written_over bytes at piece)) front
      ∙ ap (λ (l : List ℕ). take at bytes ++ piece ++ more ++ l) (back ∙ same)
      ∙ ap (λ (l : List ℕ). l ++ drop (at + length (piece ++ more)) bytes) (append_assoc (take at bytes) piece more)

module _ {H : Type 0} (bytes : H → List ℕ) (lengths : H → Result ℕ Error → H → Type 0) (reads writes : PlacedCall H) (cuts : H → ℕ → Bool → H → Type 0)
    (syncs : BareCall H) where
  module _ (over : IsOver bytes lengths reads writes cuts syncs) where
    -- calls that were interrupted
    reads_keep : (at : ℕ) (old : H) (tries : ℕ) (new : H) → AreInterrupted (λ before answer after. (left : List ℕ) × reads before at left answer after) old tries new → bytes new ≡ bytes old
    reads_keep at old _ _ no_try = refl
    reads_keep at old _ new (one_more {tries = tries} {answer = answer} {before = mid} earlier gave was) =
        over.read_keeps mid new at gave.0 answer gave.1 ∙ reads_keep at old tries mid earlier

    write_keeps : (at : ℕ) (piece : List ℕ) (old new : H) (answer : Result ℕ Error) → writes old at piece answer new → WasInterrupted answer → bytes new ≡ bytes old
    write_keeps at piece old new (Ok count) gave was = absurd was
    write_keeps at piece old new (Err error) gave was = over.write_fails old new at piece error gave

    writes_keep : (at : ℕ) (piece : List ℕ) (old : H) (tries : ℕ) (new : H) → AreInterrupted (λ before answer after. writes before at piece answer after) old tries new → bytes new ≡ bytes old
    writes_keep at piece old _ _ no_try = refl
    writes_keep at piece old _ new (one_more {tries = tries} {answer = answer} {before = mid} earlier gave was) =
        write_keeps at piece mid new answer gave was ∙ writes_keep at piece old tries mid earlier

    -- the last of calls of which the others were interrupted
    tried_keeps : (at : ℕ) (buf : List ℕ) (answer : Result ℕ Error) (old new : H) → ReadIsTried reads old at buf answer new → bytes new ≡ bytes old
    tried_keeps at buf answer old new tried = over.read_keeps tried.mid new at buf answer tried.gave ∙ reads_keep at old tried.tries tried.mid tried.interrupted

    tried_reads : (at : ℕ) (buf : List ℕ) (count : ℕ) (old new : H) → ReadIsTried reads old at buf (Ok count) new → take count buf ≡ take (length (take count buf)) (drop at (bytes old))
    tried_reads at buf count old new tried =
        over.read tried.mid new at buf count tried.gave ∙ ap (λ (l : List ℕ). take (length (take count buf)) (drop at l)) (reads_keep at old tried.tries tried.mid tried.interrupted)

    tried_writes : (at : ℕ) (piece : List ℕ) (count : ℕ) (old new : H) → WriteIsTried writes old at piece (Ok count) new → at ≤ length (bytes old) → bytes new ≡ written_over (bytes old) at (take count piece)
    tried_writes at piece count old new tried inside =
        let same = writes_keep at piece old tried.tries tried.mid tried.interrupted in
        over.written tried.mid new at piece count tried.gave (subst (λ (l : List ℕ). at ≤ length l) (sym same) inside) ∙ ap (λ (l : List ℕ). written_over l at (take count piece)) same

    module _ (start : H) (at : ℕ) where
      read_keeps : (got : List ℕ) (after : H) → HasRead reads start at got after → bytes after ≡ bytes start
      read_keeps got after read_none = refl
      read_keeps got after (read_some {bytes = first} {buf = buf} {count = count} {before = before} reading tried some) =
          tried_keeps (at + length first) buf (Ok count) before after tried ∙ read_keeps first before reading

      reads_there : (got : List ℕ) (after : H) → HasRead reads start at got after → got ≡ take (length got) (drop at (bytes start))
      reads_there got after read_none = refl
      reads_there got after (read_some {bytes = first} {buf = buf} {count = count} {before = before} reading tried some) =
          let more = take count buf in
          let there : more ≡ take (length more) (drop (length first) (drop at (bytes start))) =
          tried_reads (at + length first) buf count before after tried ∙ ap (λ (l : List ℕ). take (length more) (drop (at + length first) l)) (read_keeps first before reading)
          ∙ ap (take (length more)) (sym (drop-drop (length first) at (bytes start))) in
          ap (λ (l : List ℕ). l ++ more) (reads_there first before reading) ∙ ap (λ (l : List ℕ). take (length first) (drop at (bytes start)) ++ l) there
          ∙ sym (take-add (length first) (length more) (drop at (bytes start))) ∙ ap (λ n. take n (drop at (bytes start))) (sym (length-append first more))

      module _ (piece : List ℕ) (inside : at ≤ length (bytes start)) where
        pub record Wrote (done : ℕ) (after : H) : Type 0 where
          pub within : done ≤ length piece
          pub is : bytes after ≡ written_over (bytes start) at (take done piece)

        writes_there : (done : ℕ) (after : H) → HasWritten writes start at piece done after → Wrote done after
        writes_there done after wrote_none = record { within = omega arith; is = sym (written_none (bytes start) at) }
        writes_there done after (wrote_some {done = d} {count = count} {before = before} writing tried some) =
            let was = writes_there d before writing in
            let size : length (take d piece) ≡ d = length-take-le d piece was.within in
            let few : count ≤ length (drop d piece) = over.fits tried.mid after (at + d) (drop d piece) count tried.gave in
            let left : length (drop d piece) ≡ length piece - d = length-drop d piece in
            let behind : at + d ≤ length (bytes before) =
            subst (λ n. at + n ≤ length (bytes before)) size (subst (λ (l : List ℕ). at + length (take d piece) ≤ length l) (sym was.is) (behind_written (bytes start) (take d piece) at inside)) in
            record {
              within = omega (arith, was.within);
              is = tried_writes (at + d) (drop d piece) count before after tried behind ∙ ap (λ (l : List ℕ). written_over l (at + d) (take count (drop d piece))) was.is
                  ∙ ap (λ n. written_over (written_over (bytes start) at (take d piece)) (at + n) (take count (drop d piece))) (sym size)
                  ∙ written_on (bytes start) (take d piece) at inside (take count (drop d piece)) ∙ ap (written_over (bytes start) at) (sym (take-add d count piece));
            }

  -- the calls that leave the bytes
  pub length_stays : {F : Type 0} (tells : Bool) → (IsTrue tells → IsOver bytes lengths reads writes cuts syncs) → (old new : Option H) (answer : Result ℕ F) → IfOpen (LengthIs lengths) old answer new → bytes_in tells bytes new ≡ bytes_in tells bytes old
  length_stays false law old new answer given = refl
  length_stays true law None new (Ok count) given = absurd given
  length_stays true law None new (Err fault) given = ap (bytes_in true bytes) given
  length_stays true law (Some old) None answer given = absurd given
  length_stays true law (Some old) (Some new) (Ok count) given = (law refl).length_keeps old new (Ok count) given.0
  length_stays true law (Some old) (Some new) (Err fault) (inl given) = (law refl).length_keeps old new (Ok given.0) given.1
  length_stays true law (Some old) (Some new) (Err fault) (inr given) = (law refl).length_keeps old new (Err given.0) given.1

  pub read_stays : {A F : Type 0} (tells : Bool) → (IsTrue tells → IsOver bytes lengths reads writes cuts syncs) → (at : ℕ) (buf : List ℕ) (old new : Option H) (answer : Result A F) → IfOpen (λ old answer new. ReadIs reads old at buf answer new) old answer new → bytes_in tells bytes new ≡ bytes_in tells bytes old
  read_stays false law at buf old new answer given = refl
  read_stays true law at buf None new (Ok done) given = absurd given
  read_stays true law at buf None new (Err fault) given = ap (bytes_in true bytes) given
  read_stays true law at buf (Some old) None answer given = absurd given
  read_stays true law at buf (Some old) (Some new) (Ok done) given = read_keeps (law refl) old at buf new given
  read_stays true law at buf (Some old) (Some new) (Err fault) (inl given) = ap bytes given.1
  read_stays true law at buf (Some old) (Some new) (Err fault) (inr given) =
      tried_keeps (law refl) (at + given.done) (drop given.done buf) given.answer given.before new given.tried
      ∙ read_keeps (law refl) old at (take given.done buf) given.before given.front

  pub sync_stays : {A F : Type 0} (tells : Bool) → (IsTrue tells → IsOver bytes lengths reads writes cuts syncs) → (old new : Option H) (answer : Result A F) → IfOpen (CallIs syncs) old answer new → bytes_in tells bytes new ≡ bytes_in tells bytes old
  sync_stays false law old new answer given = refl
  sync_stays true law None new (Ok done) given = absurd given
  sync_stays true law None new (Err fault) given = ap (bytes_in true bytes) given
  sync_stays true law (Some old) None answer given = absurd given
  sync_stays true law (Some old) (Some new) (Ok done) given = (law refl).sync_keeps old new true given
  sync_stays true law (Some old) (Some new) (Err fault) given = (law refl).sync_keeps old new false given

  -- what each answer is of them
  pub length_told : (F : Type 0) (tells : Bool) → (IsTrue tells → IsOver bytes lengths reads writes cuts syncs) → (old new : Option H) (count : ℕ) → IfOpen (LengthIs {F = F} lengths) old (Ok count) new → IsTrue tells → count ≡ length (bytes_in tells bytes old)
  length_told F false law old new count given tells = absurd (false≢true tells)
  length_told F true law None new count given tells = absurd given
  length_told F true law (Some old) None count given tells = absurd given
  length_told F true law (Some old) (Some new) count given tells = (law refl).counted old new count given.0

  pub read_told : {A : Type 0} (F : Type 0) (tells : Bool) → (IsTrue tells → IsOver bytes lengths reads writes cuts syncs) → (at : ℕ) (buf : List ℕ) (old new : Option H) (done : A) → IfOpen (λ old answer new. ReadIs {F = F} reads old at buf answer new) old (Ok done) new → IsTrue tells → buf ≡ take (length buf) (drop at (bytes_in tells bytes old))
  read_told F false law at buf old new done given tells = absurd (false≢true tells)
  read_told F true law at buf None new done given tells = absurd given
  read_told F true law at buf (Some old) None done given tells = absurd given
  read_told F true law at buf (Some old) (Some new) done given tells = reads_there (law refl) old at buf new given

  pub write_told : {A : Type 0} (F : Type 0) (tells : Bool) → (IsTrue tells → IsOver bytes lengths reads writes cuts syncs) → (at : ℕ) (piece : List ℕ) (old new : Option H) (done : A) → IfOpen (λ old answer new. WriteIs {F = F} writes old at piece answer new) old (Ok done) new → (IsTrue tells → at ≤ length (bytes_in tells bytes old)) → IsTrue tells → bytes_in tells bytes new ≡ written_over (bytes_in tells bytes old) at piece
  write_told F false law at piece old new done given inside tells = absurd (false≢true tells)
  write_told F true law at piece None new done given inside tells = absurd given
  write_told F true law at piece (Some old) None done given inside tells = absurd given
  write_told F true law at piece (Some old) (Some new) done given inside tells =
      (writes_there (law refl) old at piece (inside refl) (length piece) new given.1).is ∙ ap (written_over (bytes old) at) (take_all_of piece)
    where
      take_all_of : (xs : List ℕ) → take (length xs) xs ≡ xs
      take_all_of [] = refl
      take_all_of (x ∷ xs) = ap (λ (l : List ℕ). x ∷ l) (take_all_of xs)

  pub cut_told : {A : Type 0} (F : Type 0) (tells : Bool) → (IsTrue tells → IsOver bytes lengths reads writes cuts syncs) → (len : ℕ) (old new : Option H) (done : A) → IfOpen (CallIs {F = F} (λ old succeeds new. cuts old len succeeds new)) old (Ok done) new → (IsTrue tells → len ≤ length (bytes_in tells bytes old)) → IsTrue tells → bytes_in tells bytes new ≡ take len (bytes_in tells bytes old)
  cut_told F false law len old new done given inside tells = absurd (false≢true tells)
  cut_told F true law len None new done given inside tells = absurd given
  cut_told F true law len (Some old) None done given inside tells = absurd given
  cut_told F true law len (Some old) (Some new) done given inside tells = (law refl).cut old new len given (inside refl)
