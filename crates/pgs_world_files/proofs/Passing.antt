-- How the world over files and a writer goes on, where each of its parts does.
use Rattle.std.proofs.Common.{◌≡◌, ⊎_elim, ℕ, ◌≤◌, true, List, [], Option, Some, None, Result, Ok, Err, inl, inr, refl, sym, subst, ◌∙◌, IsTrue, OnOk, OnErr, arith}
use Rattle.std.specs.Option.{unwrap_or}
use Rattle.std.proofs.lemmas.Bool.{false≢true}
use Rattle.pgs_world.specs.declared.area.Area.{Area}
use Rattle.pgs_world.specs.declared.area.Area.TheVariants.{A, B}
use Rattle.pgs_world.specs.World.{Triple, part, other}
use Rattle.pgs_world.specs.Calls.{IsAreaCall}
use Rattle.pgs_world.specs.Count.{Rose, RoseByOne}
use Rattle.pgs_world.specs.Disk.{IsSameBeside, PutsFront}
use Rattle.pgs_world.specs.Moment.{IsTimed, Passes, StopsBy, IsQuiet, ShowsOne, IsSynced}
use Rattle.pgs_world_streams.specs.Given.{PlainCall, BareCall}
use Rattle.pgs_world_streams.specs.Past.{GoesOn, IsSame}
use Rattle.pgs_world_streams.specs.Pieces.{PieceIs, PutIs}
use Rattle.pgs_world_streams.specs.Written.{IsLonger}
use Rattle.pgs_world_streams.proofs.Moments.{rest_on, piece_on, longer_none}
use Rattle.pgs_world_files.specs.declared.area_files.AreaFiles.{AreaFiles}
use Rattle.pgs_world_files.specs.declared.file_world.FileWorld.{FileWorld}
use Rattle.pgs_world_files.specs.Counted.{Told, bytes_in, bytes_of, pasts_of, moment_of, seen, timed_view}
use Rattle.pgs_world_files.specs.Failing.{FileCalls}
use Rattle.pgs_world_files.specs.Handles.{CallIs, IfOpen, AtMoment, handle_in}
use Rattle.pgs_world_files.specs.Joined.{Pasts, MayLeaveAll, ArePasts}
use Rattle.pgs_world_files.specs.Laws.{AreLaws, are_pasts}
use Rattle.pgs_world_files.specs.Stops.{past_in}
use Rattle.pgs_world_files.proofs.Joined.{Step, AllGoOn, all_from, all_since, all_kept}
use Rattle.pgs_world_files.proofs.Stops.{same_none}
use Rattle.pgs_world_files.proofs.Views.{bytes_told}

-- no count falls, and the call is counted behind its moment
pub record AreCounted {W H : Type 0} (told : Told W H) (old new : FileWorld W H) : Type 0 where
  pub calls : moment_of told.output_past told.file_past old ≤ new.counts.calls
  pub rose : Rose (moment_of told.output_past told.file_past old) new.counts.calls
  pub area_faults : old.counts.area_faults ≤ new.counts.area_faults
  pub put_faults : old.counts.put_faults ≤ new.counts.put_faults
  pub puts : old.counts.puts ≤ new.counts.puts

-- the step of a call on an area, for each of them
abbrev pub in_a : Area → Step → Step
in_a A S = S
in_a B S = IsSame

abbrev pub in_b : Area → Step → Step
in_b A S = IsSame
in_b B S = S

in_a_none : (area : Area) (S : Step) → ((c : List ℕ) → S c c) → (c : List ℕ) → in_a area S c c
in_a_none A S same c = same c
in_a_none B S same c = refl

in_b_none : (area : Area) (S : Step) → ((c : List ℕ) → S c c) → (c : List ℕ) → in_b area S c c
in_b_none A S same c = refl
in_b_none B S same c = same c

steps_of : (area : Area) (S : Step) (d c : Triple) → in_a area S d.a c.a → in_b area S d.b c.b → c.output ≡ d.output → S (part area d) (part area c) × IsSameBeside area d c
steps_of A S d c a b output = (a, record { beside = b; output = output })
steps_of B S d c a b output = (b, record { beside = a; output = output })

same_may : (area : Area) (pasts : Pasts) (d c : Triple) → MayLeaveAll pasts d → in_a area IsSame d.a c.a → in_b area IsSame d.b c.b → c.output ≡ d.output → MayLeaveAll pasts c
same_may A pasts d c may a b output =
    record { a = subst pasts.a.may_leave (sym a) may.a; b = subst pasts.b.may_leave (sym b) may.b; output = subst pasts.output.may_leave (sym output) may.output }
same_may B pasts d c may a b output =
    record { a = subst pasts.a.may_leave (sym a) may.a; b = subst pasts.b.may_leave (sym b) may.b; output = subst pasts.output.may_leave (sym output) may.output }

module _ {W H : Type 0} (told : Told W H) (files : FileCalls H) (writes : ℕ → PlainCall W) (flushes : ℕ → BareCall W)
    (law : IsTrue told.tells_stops → AreLaws told files writes flushes) where
  are : IsTrue told.tells_stops → (world : FileWorld W H) → ArePasts (pasts_of told.output_past told.file_past world) (unwrap_or (told.written world.writer) [])
  are tells world = are_pasts told files writes flushes (law tells) world

  pub timed_seen : (world : FileWorld W H) → IsTimed (seen told world)
  timed_seen world =
      timed_view told.tells_bytes (bytes_of told.tells_bytes told.bytes world.areas) told.tells_output (told.written world.writer) told.tells_stops
      (pasts_of told.output_past told.file_past world) world.counts (λ tells. are tells world)

  -- it shows one of those that a stop may leave
  shown_in : AreLaws told files writes flushes → (handle : Option H) → (past_in told.file_past handle).may_leave (bytes_in true told.bytes handle)
  shown_in laws (Some file) = laws.file.shown file
  shown_in laws None = refl

  pub shows_seen : (world : FileWorld W H) → ShowsOne (seen told world)
  shows_seen world honest = (
    record { a = bytes_in true told.bytes world.areas.a.handle; b = bytes_in true told.bytes world.areas.b.handle; output = unwrap_or (told.written world.writer) [] },
    (honest, record { a = shown_in (law honest) world.areas.a.handle; b = shown_in (law honest) world.areas.b.handle; output = (are honest world).shown }),
    record { bytes = λ tells area. part_told tells area; output = λ tells. refl },
  )
    where
      part_told : (tells : IsTrue told.tells_bytes) (area : Area)
          → part area (record { a = bytes_in true told.bytes world.areas.a.handle; b = bytes_in true told.bytes world.areas.b.handle; output = unwrap_or (told.written world.writer) [] })
          ≡ part area (seen told world).shown
      part_told tells A = bytes_told told.tells_bytes told.bytes tells world.areas.a.handle
      part_told tells B = bytes_told told.tells_bytes told.bytes tells world.areas.b.handle

  -- behind a sync of an area a stop leaves what it shows
  synced_file : {A : Type 0} (F : Type 0) (t : ℕ) (tells : IsTrue told.tells_bytes) (honest : IsTrue told.tells_stops) (old new : Option H) (done : A) → IfOpen {F = F} (CallIs (files.syncs t)) old (Ok done) new
      → (c : List ℕ) → (past_in told.file_past new).may_leave c → c ≡ bytes_in told.tells_bytes told.bytes new
  synced_file F t tells honest None new done given c left = absurd given
  synced_file F t tells honest (Some old) None done given c left = absurd given
  synced_file F t tells honest (Some old) (Some new) done given c left =
      (law honest).file.synced t old new c given left ∙ bytes_told told.tells_bytes told.bytes tells (Some new)

  synced_part : (area : Area) (world : FileWorld W H) → ((c : List ℕ) → (past_in told.file_past (handle_in area world.areas)).may_leave c → c ≡ bytes_in told.tells_bytes told.bytes (handle_in area world.areas))
      → (c : Triple) → MayLeaveAll (pasts_of told.output_past told.file_past world) c → part area c ≡ part area (seen told world).shown
  synced_part A world each c left = each c.a left.a
  synced_part B world each c left = each c.b left.b

  synced_seen : {A F : Type 0} (t : ℕ) (area : Area) (old : Option H) (world : FileWorld W H) (answer : Result A F) → AtMoment t (CallIs (files.syncs t)) old answer (handle_in area world.areas)
      → OnOk answer (IsSynced area (seen told world))
  synced_seen t area old world (Err fault) given = tt
  synced_seen {F = F} t area old world (Ok done) (inl given) = λ honest tells c left.
      synced_part area world (λ l may. synced_file F t tells honest old (handle_in area world.areas) done given l may) c left.1
  synced_seen t area old world (Ok done) (inr given) = absurd (false≢true given.2)

  pub synced_called : {A F : Type 0} (t : ℕ) (area : Area) (old : Option H) (mid : AreaFiles H) (world : FileWorld W H) → world.areas ≡ mid → (answer result : Result A F) → result ≡ answer
      → AtMoment t (CallIs (files.syncs t)) old answer (handle_in area mid) → OnOk result (IsSynced area (seen told world))
  synced_called t area old mid world areas answer result is given =
      subst (λ r. OnOk r (IsSynced area (seen told world))) (sym is)
      (synced_seen t area old world answer (subst (λ of. AtMoment t (CallIs (files.syncs t)) old answer (handle_in area of)) (sym areas) given))

  module _ (old new : FileWorld W H) (counts : AreCounted told old new) where
    abbrev was : Pasts
    was = pasts_of told.output_past told.file_past old

    abbrev now : Pasts
    now = pasts_of told.output_past told.file_past new

    abbrev t : ℕ
    t = moment_of told.output_past told.file_past old

    later : t ≤ moment_of told.output_past told.file_past new
    later = omega (arith, counts.calls)

    pub rose_seen : Rose t (moment_of told.output_past told.file_past new)
    rose_seen = omega (arith, counts.calls, counts.rose)

    module _ (Sa Sb So : Step) (same_a : (c : List ℕ) → Sa c c) (same_b : (c : List ℕ) → Sb c c) (same_o : (c : List ℕ) → So c c)
        (goes : IsTrue told.tells_stops → AllGoOn Sa Sb So t was now) where
      pub passes_seen : Passes (seen told old) (seen told new)
      passes_seen =
          record {
            honest = refl;
            tells_bytes = refl;
            tells_output = refl;
            later = later;
            area_faults = counts.area_faults;
            put_faults = counts.put_faults;
            puts = counts.puts;
            since = λ u c le left. ⊎_elim (λ before. inl (left.0, before)) (λ since. inr (left.0, since))
                (all_since was now (unwrap_or (told.written old.writer) []) (unwrap_or (told.written new.writer) []) (are left.0 old) (are left.0 new) old.counts.calls Sa Sb So same_a same_b same_o (goes left.0)
                (moment_of told.output_past told.file_past new) u c left.1);
            past = λ u c le left. (
              left.0,
              all_kept was now (unwrap_or (told.written old.writer) []) (unwrap_or (told.written new.writer) []) (are left.0 old) (are left.0 new) old.counts.calls Sa Sb So same_a same_b same_o (goes left.0)
                  (moment_of told.output_past told.file_past new) u c later left.1,
            );
            timed = timed_seen new;
          }

      from_seen : (honest : IsTrue told.tells_stops) (c : Triple) → (seen told new).left_since t c → (d : Triple) × MayLeaveAll was d × Sa d.a c.a × Sb d.b c.b × So d.output c.output
      from_seen honest c left =
          all_from was now (unwrap_or (told.written old.writer) []) (unwrap_or (told.written new.writer) []) (are honest old) (are honest new) old.counts.calls Sa Sb So same_a same_b same_o (goes honest)
          (moment_of told.output_past told.file_past new) c left.1

      pub stops_seen : (step : Triple → Triple → Type 0) → ((d c : Triple) → Sa d.a c.a → Sb d.b c.b → So d.output c.output → step d c) → StopsBy step (seen told old) (seen told new)
      stops_seen step of honest c left =
          let from = from_seen honest c left in
          (from.0, (honest, from.1), of from.0 c from.2 from.3 from.4)

    -- a call on an area
    module _ (area : Area) (beside : handle_in (other area) new.areas ≡ handle_in (other area) old.areas) (writer : new.writer ≡ old.writer) (S : Step) (same : (c : List ℕ) → S c c)
        (goes : IsTrue told.tells_stops → GoesOn S t (past_in told.file_past (handle_in area old.areas)) (past_in told.file_past (handle_in area new.areas))) where
      output_rests : IsTrue told.tells_stops → GoesOn IsSame t was.output now.output
      output_rests honest =
          subst (λ w. GoesOn IsSame t (told.output_past old.writer) (told.output_past w)) (sym writer) (rest_on IsSame t was.output same_none (are honest old).output (omega arith))

      area_goes : IsTrue told.tells_stops → AllGoOn (in_a area S) (in_b area S) IsSame t was now
      area_goes honest = in_area area beside (goes honest)
        where
          in_area : (area : Area) → handle_in (other area) new.areas ≡ handle_in (other area) old.areas
              → GoesOn S t (past_in told.file_past (handle_in area old.areas)) (past_in told.file_past (handle_in area new.areas)) → AllGoOn (in_a area S) (in_b area S) IsSame t was now
          in_area A kept on =
              record {
                a = on;
                b = subst (λ h. GoesOn IsSame t was.b (past_in told.file_past h)) (sym kept) (rest_on IsSame t was.b same_none (are honest old).b (omega arith));
                output = output_rests honest;
              }
          in_area B kept on =
              record {
                a = subst (λ h. GoesOn IsSame t was.a (past_in told.file_past h)) (sym kept) (rest_on IsSame t was.a same_none (are honest old).a (omega arith));
                b = on;
                output = output_rests honest;
              }

      pub passes_area : Passes (seen told old) (seen told new)
      passes_area = passes_seen (in_a area S) (in_b area S) IsSame (in_a_none area S same) (in_b_none area S same) same_none area_goes

      pub stops_area : (step : Triple → Triple → Type 0) → ((d c : Triple) → S (part area d) (part area c) → IsSameBeside area d c → step d c) → StopsBy step (seen told old) (seen told new)
      stops_area step of =
          stops_seen (in_a area S) (in_b area S) IsSame (in_a_none area S same) (in_b_none area S same) same_none area_goes step
          (λ d c a b output. let two = steps_of area S d c a b output in of d c two.0 two.1)

    -- a call on an area that leaves nothing new
    pub quiet_area : (area : Area) → handle_in (other area) new.areas ≡ handle_in (other area) old.areas → new.writer ≡ old.writer
        → (IsTrue told.tells_stops → GoesOn IsSame t (past_in told.file_past (handle_in area old.areas)) (past_in told.file_past (handle_in area new.areas)))
        → (seen told new).shown ≡ (seen told old).shown → IsQuiet (seen told old) (seen told new)
    quiet_area area beside writer goes shown =
        record {
          passes = passes_area area beside writer IsSame same_none goes;
          shown = shown;
          stops = λ honest c left.
              let from = from_seen (in_a area IsSame) (in_b area IsSame) IsSame (in_a_none area IsSame same_none) (in_b_none area IsSame same_none) same_none
              (area_goes area beside writer IsSame same_none goes) honest c left in
              (honest, same_may area was from.0 c from.1 from.2 from.3 from.4);
        }

    -- of each call on an area
    pub call_area : {A F : Type 0} (result : Result A F) → OnErr result (RoseByOne old.counts.area_faults new.counts.area_faults) → OnOk result (new.counts.area_faults ≡ old.counts.area_faults)
        → new.counts.puts ≡ old.counts.puts → new.counts.put_faults ≡ old.counts.put_faults → IsAreaCall (seen told old) result (seen told new)
    call_area result cause no_cause puts put_faults =
        record { moment = rose_seen; image = shows_seen new; cause = cause; no_cause = no_cause; no_put = record { puts = puts; put_faults = put_faults } }

    -- a put
    module _ (areas : new.areas ≡ old.areas) (piece : List ℕ) {A F : Type 0} (result : Result A F) (puts : ℕ)
        (given : PutIs (writes t) (flushes t) puts t old.writer piece result new.writer) where
      output_goes : IsTrue told.tells_stops → GoesOn (IsLonger piece) t was.output now.output
      output_goes honest = of_put result given
        where
          laws : AreLaws told files writes flushes
          laws = law honest

          of_piece : (answer : Result A F) → PieceIs (writes t) (flushes t) old.writer piece answer new.writer → GoesOn (IsLonger piece) t was.output now.output
          of_piece answer gave = piece_on told.written told.output_past writes flushes laws.writer t old.writer piece (omega arith) answer new.writer gave

          of_put : (answer : Result A F) → PutIs (writes t) (flushes t) puts t old.writer piece answer new.writer → GoesOn (IsLonger piece) t was.output now.output
          of_put (Ok done) gave = of_piece (Ok done) gave
          of_put (Err fault) (inl gave) =
              subst (λ w. GoesOn (IsLonger piece) t (told.output_past old.writer) (told.output_past w)) (sym gave.1)
              (rest_on (IsLonger piece) t was.output (longer_none piece) (are honest old).output (omega arith))
          of_put (Err fault) (inr gave) = of_piece (Err fault) gave

      put_goes : IsTrue told.tells_stops → AllGoOn IsSame IsSame (IsLonger piece) t was now
      put_goes honest =
          record {
            a = subst (λ files. GoesOn IsSame t was.a (past_in told.file_past files.a.handle)) (sym areas) (rest_on IsSame t was.a same_none (are honest old).a (omega arith));
            b = subst (λ files. GoesOn IsSame t was.b (past_in told.file_past files.b.handle)) (sym areas) (rest_on IsSame t was.b same_none (are honest old).b (omega arith));
            output = output_goes honest;
          }

      pub passes_put : Passes (seen told old) (seen told new)
      passes_put = passes_seen IsSame IsSame (IsLonger piece) same_none same_none (longer_none piece) put_goes

      pub stops_put : StopsBy (PutsFront piece) (seen told old) (seen told new)
      stops_put =
          stops_seen IsSame IsSame (IsLonger piece) same_none same_none (longer_none piece) put_goes (PutsFront piece)
          (λ d c a b longer. record { a = a; b = b; front = longer.front; back = longer.back; parts = longer.parts; added = longer.added })
