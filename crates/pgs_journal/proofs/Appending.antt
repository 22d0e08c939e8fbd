-- What a stop leaves of an area during the two writes of a record.
use Rattle.std.proofs.Common.{◌≡◌, inl, inr, ℕ, ◌+◌, ◌≤◌, ◌<◌, ◌^◌, true, false, List, [], ◌∷◌, ◌++◌, IsTrue, length, take, drop, Some, None, Result, Ok, Err, refl, sym, ◌∙◌, ap, subst, arith, append_assoc, length-take}
use Rattle.std.specs.declared.option.Option.{Option}
use Rattle.std.specs.Result.{IsErr}
use Rattle.std.proofs.lemmas.List.{drop_at}
use Rattle.std.proofs.Math.Seq.{take-append_seam}
use Rattle.pgs_codec.specs.Frame.{framed}
use Rattle.pgs_world.specs.declared.area.Area.{Area}
use Rattle.pgs_world.specs.declared.fault.AreaFault.{AreaFault}
use Rattle.pgs_world.specs.Count.{RoseByOne}
use Rattle.pgs_world.specs.Disk.{written_over, IsSameBeside, Writes}
use Rattle.pgs_world.specs.Moment.{Passes, StopsBy, ShowsOne, IsSynced, MakesNoPut}
use Rattle.pgs_world.specs.World.{Triple, View, part}
use Rattle.pgs_journal.specs.Appended.{none_appended, more_appended, GoesOn}
use Rattle.pgs_journal.specs.Appending.{IsRecordAppended}
use Rattle.pgs_journal.specs.declared.journal.Journal.{Journal}
use Rattle.pgs_journal.specs.Format.{opened, format_of, advanced, IsNextWithin, Holds}
use Rattle.pgs_journal.specs.Stops.{Turns, Appends}
use Rattle.pgs_journal.proofs.Composing.{stops_then, beside_on}
use Rattle.pgs_journal.proofs.Images.{holds-front, holds-more, before_gate, appended}

-- bytes that were written behind the first so many
module _ (at : ℕ) (old piece : List ℕ) (inside : at ≤ length old) where
  size : length (take at old) ≡ at
  size = omega (arith, length-take at old)

  pub front-written : take at (written_over old at piece) ≡ take at old
  front-written =
      ap (λ (l : List ℕ). take at l) (append_assoc (take at old) piece (drop (at + length piece) old))
      ∙ ap (λ n. take n (take at old ++ (piece ++ drop (at + length piece) old))) (sym size) ∙ take-append_seam (take at old) (piece ++ drop (at + length piece) old)

  pub back-written : drop at (written_over old at piece) ≡ piece ++ drop (at + length piece) old
  back-written =
      ap (λ (l : List ℕ). drop at l) (append_assoc (take at old) piece (drop (at + length piece) old))
      ∙ drop_at (take at old) (piece ++ drop (at + length piece) old) at size

-- the number after the next stays within the end: a frame takes at least one byte
pub advanced-within : (next : Option ℕ) (end : ℕ) (frame payload : List ℕ) → frame ≡ framed next payload → IsNextWithin next end → IsNextWithin (advanced next) (end + length frame)
advanced-within None end frame payload is most = tt
advanced-within (Some number) end frame payload is most = omega (arith, most, ap length is)

module _ (area : Area) (next : Option ℕ) (epoch end : ℕ) (frame payload : List ℕ) (is : frame ≡ framed next payload) where
  pub first_write : (d c : Triple) → Writes area (end + 1) (length frame) d c → Turns area (Appends next epoch end payload) d c
  first_write d c write =
      record { image = λ payloads h. inl (holds-front next epoch payloads end (part area d) (part area c) h write.torn.before); same = write.same }

  pub first_step : end < 2 ^ 40 → (d c : Triple) → Writes area (end + 1) (length frame) d c → Turns area (GoesOn next epoch end) d c
  first_step below d c write =
      record {
        image = λ payloads h.
            more_appended (record { next = next; epoch = epoch; payloads = payloads; end = end; holds = h; below = below; write = inl (length frame, write.torn) }) none_appended;
        same = write.same;
      }

  module _ (old mid : List ℕ) (written : mid ≡ written_over old (end + 1) frame) (inside : end + 1 ≤ length old) where
    behind : drop (end + 1) mid ≡ framed next payload ++ drop (end + 1 + length frame) old
    behind = ap (λ (l : List ℕ). drop (end + 1) l) written ∙ back-written (end + 1) old frame inside ∙ ap (λ (l : List ℕ). l ++ drop (end + 1 + length frame) old) is

    pub second_write : (d e c : Triple) → Writes area (end + 1) (length frame) d e → part area e ≡ mid → Writes area end 1 e c → Turns area (Appends next epoch end payload) d c
    second_write d e c one synced two =
        record {
          image = λ payloads h.
              appended next epoch payloads end (part area d) (part area e) (part area c) payload (drop (end + 1 + length frame) old) h one.torn.before
              (ap (λ (l : List ℕ). drop (end + 1) l) synced ∙ behind) two.torn;
          same = beside_on area d e c one.same two.same;
        }

    -- the writes that a reading beside it may meet
    pub second_step : end < 2 ^ 40 → end + length frame < 2 ^ 40 → (d e c : Triple) → Writes area (end + 1) (length frame) d e → part area e ≡ mid → Writes area end 1 e c → Turns area (GoesOn next epoch end) d c
    second_step below fits d e c one synced two =
        record {
          image = λ payloads h.
              more_appended (record { next = next; epoch = epoch; payloads = payloads; end = end; holds = h; below = below; write = inl (length frame, one.torn) })
              (more_appended
              (record {
                next = next;
                epoch = epoch;
                payloads = payloads;
                end = end;
                holds = holds-front next epoch payloads end (part area d) (part area e) h one.torn.before;
                below = below;
                write =
                    inr (
                      record {
                        payload = payload;
                        stands =
                            ap (λ (l : List ℕ). take (length (framed next payload)) l) (ap (λ (l : List ℕ). drop (end + 1) l) synced ∙ behind)
                            ∙ take-append_seam (framed next payload) (drop (end + 1 + length frame) old);
                        below = subst (λ (l : List ℕ). end + length l < 2 ^ 40) is fits;
                      },
                      two.torn,
                    );
              })
              none_appended);
          same = beside_on area d e c one.same two.same;
        }

    -- after both the area holds the record
    pub holds-both : (payloads : List (List ℕ)) (new : List ℕ) → Holds next epoch payloads end old → new ≡ written_over mid end (1 ∷ []) → Holds (advanced next) epoch (payloads ++ payload ∷ []) (end + length frame) new
    holds-both payloads new h opened_now =
        subst (λ (l : List ℕ). Holds (advanced next) epoch (payloads ++ payload ∷ []) (end + length l) new) (sym is)
        (holds-more next epoch payloads end old payload (drop (end + 1 + length frame) old) new h
        (opened_now ∙ append_assoc (take end mid) (1 ∷ []) (drop (end + 1) mid)
        ∙ ap (λ (l : List ℕ). l ++ 1 ∷ drop (end + 1) mid) (before_gate next epoch payloads end old mid h (ap (λ (l : List ℕ). take (end + 1) l) written ∙ front-written (end + 1) old frame inside))
        ∙ ap (λ (l : List ℕ). opened (format_of next) epoch payloads ++ 1 ∷ l) behind))

    -- what a stop leaves during both writes
    module _ (first middle last : View) (told : IsTrue first.tells_bytes) (shown : part area middle.shown ≡ mid) (synced : IsSynced area middle) (p : Passes first middle) (q : Passes middle last)
        (one : StopsBy (Writes area (end + 1) (length frame)) first middle) (two : StopsBy (Writes area end 1) middle last) where
      both_stops : (step : List ℕ → List ℕ → Type 0) → ((d c : Triple) → Writes area (end + 1) (length frame) d c → Turns area step d c)
          → ((d e c : Triple) → Writes area (end + 1) (length frame) d e → part area e ≡ mid → Writes area end 1 e c → Turns area step d c) → StopsBy (Turns area step) first last
      both_stops step early late honest =
          stops_then first middle last (Writes area (end + 1) (length frame)) (Writes area end 1) (Turns area step) p q early
          (λ d e c write left then. late d e c write (synced (p.honest ∙ honest) (p.tells_bytes ∙ told) e left ∙ shown) then) one two honest

      pub append_stops : StopsBy (Turns area (Appends next epoch end payload)) first last
      append_stops = both_stops (Appends next epoch end payload) first_write second_write

      pub append_writes : end < 2 ^ 40 → end + length frame < 2 ^ 40 → StopsBy (Turns area (GoesOn next epoch end)) first last
      append_writes below fits = both_stops (GoesOn next epoch end) (first_step below) (second_step below fits)

-- a write failed
pub not_appended : {T : Type 0} (j : Journal) (frame : List ℕ) (result : Result T AreaFault) (failed : Type 0) (old new : View) → IsErr result
    → ((payload : List ℕ) → frame ≡ framed j.next payload → IsTrue old.tells_bytes → StopsBy (Turns j.area (Appends j.next j.epoch j.end payload)) old new)
    → (IsTrue old.tells_bytes → StopsBy (Turns j.area (GoesOn j.next j.epoch j.end)) old new) → StopsBy (IsSameBeside j.area) old new → IsSameBeside j.area old.shown new.shown → Passes old new → ShowsOne new
    → RoseByOne old.area_faults new.area_faults → failed → MakesNoPut old new → IsRecordAppended j j frame result failed old new
not_appended j frame (Ok done) failed old new err stops writes stops_beside beside passes image cause last no_put = absurd (let no : false ≡ true = err in cc)
not_appended j frame (Err fault) failed old new err stops writes stops_beside beside passes image cause last no_put =
    record {
      holds = λ payload payloads is held. tt;
      synced = tt;
      settled = tt;
      area = refl;
      epoch = refl;
      end = tt;
      next = tt;
      within = tt;
      next_within = tt;
      kept = refl;
      stops = stops;
      writes = writes;
      stops_beside = stops_beside;
      beside = beside;
      passes = passes;
      image = image;
      faults = record { cause = cause; last = last; no_cause = tt };
      no_put = no_put;
    }
