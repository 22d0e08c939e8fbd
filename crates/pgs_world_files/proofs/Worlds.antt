-- What a call on an area of the world over files leaves of the world.
use Rattle.std.proofs.Common.{◌≡◌, ◌+◌, ℕ, ◌≤◌, List, [], Option, Result, Ok, Err, length, take, drop, inl, inr, sym, ap, ◌∙◌, subst, IsTrue, IfOk, OnOk, OnErr, le_refl, arith}
use Rattle.std.specs.Option.{unwrap_or}
use Rattle.std.proofs.lemmas.Bool.{false≢true}
use Rattle.pgs_world.specs.declared.area.Area.{Area}
use Rattle.pgs_world.specs.declared.area.Area.TheVariants.{A, B}
use Rattle.pgs_world.specs.Calls.{IsAreaCall, IsPutCall}
use Rattle.pgs_world.specs.Count.{Rose, raised}
use Rattle.pgs_world.specs.Disk.{written_over, IsSameBeside, IsTorn, IsCutShort, Writes, Cuts, PutsFront}
use Rattle.pgs_world.specs.Moment.{Passes, StopsBy, IsQuiet, IsSynced}
use Rattle.pgs_world.specs.World.{part, other}
use Rattle.pgs_world_streams.specs.Given.{PlainCall, BareCall}
use Rattle.pgs_world_streams.specs.Past.{GoesOn, IsSame}
use Rattle.pgs_world_streams.specs.Pieces.{PutIs}
use Rattle.pgs_world_files.specs.declared.area_files.AreaFiles.{AreaFiles}
use Rattle.pgs_world_files.specs.declared.file_world.FileWorld.{FileWorld}
use Rattle.pgs_world_files.specs.Contents.{IsOver}
use Rattle.pgs_world_files.specs.Counted.{Told, Bytes, bytes_in, bytes_of, shown_of, moment_of, seen}
use Rattle.pgs_world_files.specs.Failing.{FileCalls}
use Rattle.pgs_world_files.specs.Handles.{LengthIs, ReadIs, WriteIs, CallIs, IfOpen, AtMoment, handle_in}
use Rattle.pgs_world_files.specs.Laws.{AreLaws}
use Rattle.pgs_world_files.specs.Stops.{past_in}
use Rattle.pgs_world_files.proofs.Over.{length_stays, read_stays, sync_stays, length_told, read_told, write_told, cut_told}
use Rattle.pgs_world_files.proofs.Passing.{AreCounted, passes_area, stops_area, quiet_area, call_area, synced_called, passes_put, stops_put, rose_seen, shows_seen}
use Rattle.pgs_world_files.proofs.Stops.{torn_none, short_none, length_on, read_on, write_on, cut_on, sync_on}
use Rattle.pgs_world_files.proofs.Views.{part_is, bytes_stay, beside_stays}

-- the world after the call, which began at this moment: its files are those that the call left, and its counts didn't fall
pub record Called {W H : Type 0} (told : Told W H) (area : Area) (old new : FileWorld W H) (mid : AreaFiles H) (moment : ℕ) : Type 0 where
  pub begun : moment ≡ moment_of told.output_past told.file_past old
  pub areas : new.areas ≡ mid
  pub beside : handle_in (other area) mid ≡ handle_in (other area) old.areas
  pub writer : new.writer ≡ old.writer
  pub calls : moment ≤ new.counts.calls
  pub rose : Rose moment new.counts.calls
  pub area_faults : old.counts.area_faults ≤ new.counts.area_faults
  pub put_faults : new.counts.put_faults ≡ old.counts.put_faults
  pub puts : new.counts.puts ≡ old.counts.puts

-- what the files say of their bytes at each moment
abbrev pub OverLaw : {W H : Type 0} → Told W H → FileCalls H → Type 0
OverLaw told files =
    IsTrue told.tells_bytes → (t : ℕ) → IsOver told.bytes (files.lengths t) (files.reads t) (files.writes t) (files.cuts t) (files.syncs t)

-- what follows from a call on a file follows from one at a moment, where it also holds of no call
at_moment : {H A F P : Type 0} (t : ℕ) (gives : H → Result A F → H → Type 0) (old : Option H) (answer : Result A F) (new : Option H)
    → (IfOpen gives old answer new → P) → (new ≡ old → P) → AtMoment t gives old answer new → P
at_moment t gives old answer new made none (inl given) = made given
at_moment t gives old answer new made none (inr given) = none given.1

-- and of a call that succeeded
at_made : {H A P : Type 0} (F : Type 0) (t : ℕ) (gives : H → Result A F → H → Type 0) (old : Option H) (done : A) (new : Option H)
    → (IfOpen gives old (Ok done) new → P) → AtMoment t gives old (Ok done) new → P
at_made F t gives old done new made (inl given) = made given
at_made F t gives old done new made (inr given) = absurd (false≢true given.2)

module _ {W H : Type 0} (told : Told W H) (files : FileCalls H) (writes : ℕ → PlainCall W) (flushes : ℕ → BareCall W)
    (over : OverLaw told files) (law : IsTrue told.tells_stops → AreLaws told files writes flushes)
    (area : Area) (old new : FileWorld W H) (mid : AreaFiles H) (moment : ℕ) (called : Called told area old new mid moment) where
  abbrev from : Option H
  from = handle_in area old.areas

  abbrev to : Option H
  to = handle_in area mid

  abbrev bytes : Option H → List ℕ
  bytes = bytes_in told.tells_bytes told.bytes

  beside_new : handle_in (other area) new.areas ≡ handle_in (other area) old.areas
  beside_new = ap (handle_in (other area)) called.areas ∙ called.beside

  counts : AreCounted told old new
  counts =
      record {
        calls = subst (λ t. t ≤ new.counts.calls) called.begun called.calls;
        rose = subst (λ t. Rose t new.counts.calls) called.begun called.rose;
        area_faults = called.area_faults;
        put_faults = subst (λ n. old.counts.put_faults ≤ n) (sym called.put_faults) (le_refl old.counts.put_faults);
        puts = subst (λ n. old.counts.puts ≤ n) (sym called.puts) (le_refl old.counts.puts);
      }

  -- the file goes on, as seen from the world
  goes_of : (S : List ℕ → List ℕ → Type 0) → (IsTrue told.tells_stops → (past_in told.file_past from).until ≤ moment → GoesOn S moment (past_in told.file_past from) (past_in told.file_past to))
      → IsTrue told.tells_stops → GoesOn S (moment_of told.output_past told.file_past old) (past_in told.file_past from) (past_in told.file_past (handle_in area new.areas))
  goes_of S goes honest =
      subst (λ t. GoesOn S t (past_in told.file_past from) (past_in told.file_past (handle_in area new.areas))) called.begun
      (subst (λ f. GoesOn S moment (past_in told.file_past from) (past_in told.file_past (handle_in area f))) (sym called.areas)
      (goes honest (subst (λ t. (past_in told.file_past from).until ≤ t) (sym called.begun) (until_of area))))
    where
      until_of : (area : Area) → (past_in told.file_past (handle_in area old.areas)).until ≤ moment_of told.output_past told.file_past old
      until_of A = omega arith
      until_of B = omega arith

  pub beside_called : IsSameBeside area (seen told old).shown (seen told new).shown
  beside_called =
      beside_stays told.tells_bytes told.bytes area old.areas new.areas (seen told old).shown.output (seen told new).shown.output
      (ap (λ writer. unwrap_or (told.written writer) []) called.writer) beside_new

  shown_same : bytes to ≡ bytes from → (seen told new).shown ≡ (seen told old).shown
  shown_same kept =
      ap (λ (b : Bytes). shown_of b (told.written new.writer)) (bytes_stay told.tells_bytes told.bytes area old.areas new.areas (ap (λ f. bytes (handle_in area f)) called.areas ∙ kept) beside_new)
      ∙ ap (λ w. shown_of (bytes_of told.tells_bytes told.bytes old.areas) (told.written w)) called.writer

  quiet_called : bytes to ≡ bytes from
      → (IsTrue told.tells_stops → (past_in told.file_past from).until ≤ moment → GoesOn IsSame moment (past_in told.file_past from) (past_in told.file_past to))
      → IsQuiet (seen told old) (seen told new)
  quiet_called kept goes =
      quiet_area told files writes flushes law old new counts area beside_new called.writer (goes_of IsSame goes) (shown_same kept)

  -- of each call on an area
  pub call_called : {A F : Type 0} (answer result : Result A F) → result ≡ answer → OnErr answer (new.counts.area_faults ≡ raised old.counts.area_faults) → OnOk answer (new.counts.area_faults ≡ old.counts.area_faults)
      → IsAreaCall (seen told old) result (seen told new)
  call_called answer result is cause no_cause =
      subst (λ r. IsAreaCall (seen told old) r (seen told new)) (sym is)
      (call_area told files writes flushes law old new counts answer cause no_cause called.puts called.put_faults)

  -- the bytes of the area after the call, by what became of its file's
  part_called : (of : List ℕ → List ℕ) → bytes to ≡ of (bytes from) → part area (seen told new).shown ≡ of (part area (seen told old).shown)
  part_called of became =
      part_is told.tells_bytes told.bytes area new.areas (seen told new).shown.output
      ∙ ap (λ f. bytes (handle_in area f)) called.areas ∙ became
      ∙ ap of (sym (part_is told.tells_bytes told.bytes area old.areas (seen told old).shown.output))

  part_old : part area (seen told old).shown ≡ bytes from
  part_old = part_is told.tells_bytes told.bytes area old.areas (seen told old).shown.output

  inside_of : (size : ℕ) → (IsTrue told.tells_bytes → size ≤ length (part area (seen told old).shown)) → IsTrue told.tells_bytes → size ≤ length (bytes from)
  inside_of size inside tells = subst (λ (l : List ℕ). size ≤ length l) part_old (inside tells)

  module _ {F : Type 0} (answer result : Result ℕ F) (given : AtMoment moment (LengthIs (files.lengths moment)) from answer to) where
    pub quiet_length : IsQuiet (seen told old) (seen told new)
    quiet_length =
        quiet_called
        (at_moment moment (LengthIs (files.lengths moment)) from answer to
        (length_stays told.bytes (files.lengths moment) (files.reads moment) (files.writes moment) (files.cuts moment) (files.syncs moment) told.tells_bytes (λ tells. over tells moment) from to answer)
        (λ kept. ap bytes kept) given)
        (λ honest fresh. length_on told.bytes told.file_past files.lengths files.reads files.writes files.cuts files.syncs (law honest).file moment from to answer fresh given)

    length_of : (answer : Result ℕ F) → AtMoment moment (LengthIs (files.lengths moment)) from answer to → IfOk answer (λ count. IsTrue told.tells_bytes → count ≡ length (part area (seen told old).shown))
    length_of (Err fault) gave = tt
    length_of (Ok count) gave = λ tells.
        at_made F moment (LengthIs (files.lengths moment)) from count to
        (λ made. length_told told.bytes (files.lengths moment) (files.reads moment) (files.writes moment) (files.cuts moment) (files.syncs moment) F told.tells_bytes (λ tells. over tells moment) from to count made tells ∙ ap length (sym part_old)) gave

    pub length_called : result ≡ answer → IfOk result (λ count. IsTrue told.tells_bytes → count ≡ length (part area (seen told old).shown))
    length_called is = subst (λ r. IfOk r (λ count. IsTrue told.tells_bytes → count ≡ length (part area (seen told old).shown))) (sym is) (length_of answer given)

  module _ {A F : Type 0} (answer result : Result A F) where
    module _ (at : ℕ) (buf : List ℕ) (given : AtMoment moment (λ old answer new. ReadIs (files.reads moment) old at buf answer new) from answer to) where
      pub quiet_read : IsQuiet (seen told old) (seen told new)
      quiet_read =
          quiet_called
          (at_moment moment (λ old answer new. ReadIs (files.reads moment) old at buf answer new) from answer to
          (read_stays told.bytes (files.lengths moment) (files.reads moment) (files.writes moment) (files.cuts moment) (files.syncs moment) told.tells_bytes (λ tells. over tells moment) at buf from to answer)
          (λ kept. ap bytes kept) given)
          (λ honest fresh. read_on told.bytes told.file_past files.lengths files.reads files.writes files.cuts files.syncs (law honest).file moment from to answer fresh at buf given)

      read_of : (answer : Result A F) → AtMoment moment (λ old answer new. ReadIs (files.reads moment) old at buf answer new) from answer to
          → OnOk answer (IsTrue told.tells_bytes → buf ≡ take (length buf) (drop at (part area (seen told old).shown)))
      read_of (Err fault) gave = tt
      read_of (Ok done) gave = λ tells.
          at_made F moment (λ old answer new. ReadIs (files.reads moment) old at buf answer new) from done to
          (λ made. read_told told.bytes (files.lengths moment) (files.reads moment) (files.writes moment) (files.cuts moment) (files.syncs moment) F told.tells_bytes (λ tells. over tells moment) at buf from to done made tells
          ∙ ap (λ (l : List ℕ). take (length buf) (drop at l)) (sym part_old)) gave

      pub read_called : (size : ℕ) → length buf ≡ size → result ≡ answer → OnOk result (IsTrue told.tells_bytes → buf ≡ take size (drop at (part area (seen told old).shown)))
      read_called size sized is =
          subst (λ n. OnOk result (IsTrue told.tells_bytes → buf ≡ take n (drop at (part area (seen told old).shown)))) sized
          (subst (λ r. OnOk r (IsTrue told.tells_bytes → buf ≡ take (length buf) (drop at (part area (seen told old).shown)))) (sym is) (read_of answer given))

    module _ (at : ℕ) (piece : List ℕ) (given : AtMoment moment (λ old answer new. WriteIs (files.writes moment) old at piece answer new) from answer to) where
      write_goes : IsTrue told.tells_stops → (past_in told.file_past from).until ≤ moment → GoesOn (IsTorn at (length piece)) moment (past_in told.file_past from) (past_in told.file_past to)
      write_goes honest fresh = write_on told.bytes told.file_past files.lengths files.reads files.writes files.cuts files.syncs (law honest).file moment from to answer fresh at piece given

      pub passes_write : Passes (seen told old) (seen told new)
      passes_write =
          passes_area told files writes flushes law old new counts area beside_new called.writer (IsTorn at (length piece)) (torn_none at (length piece)) (goes_of (IsTorn at (length piece)) write_goes)

      pub stops_write : StopsBy (Writes area at (length piece)) (seen told old) (seen told new)
      stops_write =
          stops_area told files writes flushes law old new counts area beside_new called.writer (IsTorn at (length piece)) (torn_none at (length piece)) (goes_of (IsTorn at (length piece)) write_goes)
          (Writes area at (length piece)) (λ d c torn same. record { torn = torn; same = same })

      write_of : (answer : Result A F) → (IsTrue told.tells_bytes → at ≤ length (part area (seen told old).shown)) → AtMoment moment (λ old answer new. WriteIs (files.writes moment) old at piece answer new) from answer to
          → OnOk answer (IsTrue told.tells_bytes → part area (seen told new).shown ≡ written_over (part area (seen told old).shown) at piece)
      write_of (Err fault) inside gave = tt
      write_of (Ok done) inside gave = λ tells.
          part_called (λ (l : List ℕ). written_over l at piece)
          (at_made F moment (λ old answer new. WriteIs (files.writes moment) old at piece answer new) from done to
          (λ made. write_told told.bytes (files.lengths moment) (files.reads moment) (files.writes moment) (files.cuts moment) (files.syncs moment) F told.tells_bytes (λ tells. over tells moment) at piece from to done made (inside_of at inside) tells) gave)

      pub write_called : result ≡ answer → (IsTrue told.tells_bytes → at ≤ length (part area (seen told old).shown))
          → OnOk result (IsTrue told.tells_bytes → part area (seen told new).shown ≡ written_over (part area (seen told old).shown) at piece)
      write_called is inside =
          subst (λ r. OnOk r (IsTrue told.tells_bytes → part area (seen told new).shown ≡ written_over (part area (seen told old).shown) at piece)) (sym is) (write_of answer inside given)

    module _ (len : ℕ) (given : AtMoment moment (CallIs (λ old succeeds new. files.cuts moment old len succeeds new)) from answer to) where
      cut_goes : IsTrue told.tells_stops → (past_in told.file_past from).until ≤ moment → GoesOn (IsCutShort len) moment (past_in told.file_past from) (past_in told.file_past to)
      cut_goes honest fresh = cut_on told.bytes told.file_past files.lengths files.reads files.writes files.cuts files.syncs (law honest).file moment from to answer fresh len given

      pub passes_cut : Passes (seen told old) (seen told new)
      passes_cut = passes_area told files writes flushes law old new counts area beside_new called.writer (IsCutShort len) (short_none len) (goes_of (IsCutShort len) cut_goes)

      pub stops_cut : StopsBy (Cuts area len) (seen told old) (seen told new)
      stops_cut =
          stops_area told files writes flushes law old new counts area beside_new called.writer (IsCutShort len) (short_none len) (goes_of (IsCutShort len) cut_goes)
          (Cuts area len) (λ d c short same. record { short = short; same = same })

      cut_of : (answer : Result A F) → (IsTrue told.tells_bytes → len ≤ length (part area (seen told old).shown)) → AtMoment moment (CallIs (λ old succeeds new. files.cuts moment old len succeeds new)) from answer to
          → OnOk answer (IsTrue told.tells_bytes → part area (seen told new).shown ≡ take len (part area (seen told old).shown))
      cut_of (Err fault) inside gave = tt
      cut_of (Ok done) inside gave = λ tells.
          part_called (take len)
          (at_made F moment (CallIs (λ old succeeds new. files.cuts moment old len succeeds new)) from done to
          (λ made. cut_told told.bytes (files.lengths moment) (files.reads moment) (files.writes moment) (files.cuts moment) (files.syncs moment) F told.tells_bytes (λ tells. over tells moment) len from to done made (inside_of len inside) tells) gave)

      pub cut_called : result ≡ answer → (IsTrue told.tells_bytes → len ≤ length (part area (seen told old).shown))
          → OnOk result (IsTrue told.tells_bytes → part area (seen told new).shown ≡ take len (part area (seen told old).shown))
      cut_called is inside =
          subst (λ r. OnOk r (IsTrue told.tells_bytes → part area (seen told new).shown ≡ take len (part area (seen told old).shown))) (sym is) (cut_of answer inside given)

    module _ (given : AtMoment moment (CallIs (files.syncs moment)) from answer to) where
      pub quiet_sync : IsQuiet (seen told old) (seen told new)
      quiet_sync =
          quiet_called
          (at_moment moment (CallIs (files.syncs moment)) from answer to
          (sync_stays told.bytes (files.lengths moment) (files.reads moment) (files.writes moment) (files.cuts moment) (files.syncs moment) told.tells_bytes (λ tells. over tells moment) from to answer)
          (λ kept. ap bytes kept) given)
          (λ honest fresh. sync_on told.bytes told.file_past files.lengths files.reads files.writes files.cuts files.syncs (law honest).file moment from to answer fresh given)

      pub durable_sync : result ≡ answer → OnOk result (IsSynced area (seen told new))
      durable_sync is = synced_called told files writes flushes law moment area from mid new called.areas answer result is given

-- A put, which began at this moment: its files are as they were, and its counts didn't fall.
pub record CalledPut {W H : Type 0} (told : Told W H) (old new : FileWorld W H) (moment : ℕ) : Type 0 where
  pub begun : moment ≡ moment_of told.output_past told.file_past old
  pub areas : new.areas ≡ old.areas
  pub calls : moment ≤ new.counts.calls
  pub rose : Rose moment new.counts.calls
  pub area_faults : new.counts.area_faults ≡ old.counts.area_faults
  pub put_faults : old.counts.put_faults ≤ new.counts.put_faults
  pub puts : old.counts.puts ≤ new.counts.puts

module _ {W H : Type 0} (told : Told W H) (files : FileCalls H) (writes : ℕ → PlainCall W) (flushes : ℕ → BareCall W) (law : IsTrue told.tells_stops → AreLaws told files writes flushes)
    (old new : FileWorld W H) (moment : ℕ) (called : CalledPut told old new moment) where
  put_counts : AreCounted told old new
  put_counts =
      record {
        calls = subst (λ t. t ≤ new.counts.calls) called.begun called.calls;
        rose = subst (λ t. Rose t new.counts.calls) called.begun called.rose;
        area_faults = subst (λ n. old.counts.area_faults ≤ n) (sym called.area_faults) (le_refl old.counts.area_faults);
        put_faults = called.put_faults;
        puts = called.puts;
      }

  module _ (piece : List ℕ) {A F : Type 0} (result : Result A F) (given : PutIs (writes moment) (flushes moment) old.counts.puts moment old.writer piece result new.writer) where
    put_given : PutIs (writes (moment_of told.output_past told.file_past old)) (flushes (moment_of told.output_past told.file_past old)) old.counts.puts (moment_of told.output_past told.file_past old) old.writer piece result new.writer
    put_given = subst (λ t. PutIs (writes t) (flushes t) old.counts.puts t old.writer piece result new.writer) called.begun given

    pub passes_called_put : Passes (seen told old) (seen told new)
    passes_called_put = passes_put told files writes flushes law old new put_counts called.areas piece result old.counts.puts put_given

    pub stops_called_put : StopsBy (PutsFront piece) (seen told old) (seen told new)
    stops_called_put = stops_put told files writes flushes law old new put_counts called.areas piece result old.counts.puts put_given

  pub call_called_put : {A F : Type 0} (result : Result A F) → OnErr result (new.counts.put_faults ≡ raised old.counts.put_faults) → OnOk result (new.counts.put_faults ≡ old.counts.put_faults)
      → OnOk result (new.counts.puts ≡ old.counts.puts + 1) → OnErr result (new.counts.puts ≡ old.counts.puts) → IsPutCall (seen told old) result (seen told new)
  call_called_put result cause no_cause counted not_counted =
      record {
        moment = rose_seen told files writes flushes law old new put_counts;
        image = shows_seen told files writes flushes law new;
        a = ap (λ f. (bytes_of told.tells_bytes told.bytes f).a) called.areas;
        b = ap (λ f. (bytes_of told.tells_bytes told.bytes f).b) called.areas;
        cause = cause;
        no_cause = no_cause;
        faults_stay = called.put_faults;
        counted = counted;
        not_counted = not_counted;
        no_area = called.area_faults;
      }
