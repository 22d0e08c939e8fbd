-- What a stop leaves of an area while a store is made in it.
use Rattle.std.proofs.Common.{◌≡◌, ◌⊎◌, inl, inr, ⊎_elim, ℕ, ◌+◌, ◌≤◌, ◌<◌, Bool, true, false, not, ◌||◌, nat_lt, IsTrue, List, [], ◌∷◌, ◌++◌, length, take, drop, Some, Result, Ok, Err, refl, sym, ◌∙◌, ap, subst, arith, append_assoc, length-append}
use Rattle.std.specs.Result.{IsErr}
use Rattle.std.proofs.lemmas.Bool.Decides.{nat_tests}
use Rattle.std.proofs.lemmas.List.{append-nil, take_all, drop_all, take-take, drop_at}
use Rattle.pgs_world.specs.Count.{RoseByOne}
use Rattle.pgs_world.specs.declared.area.Area.{Area}
use Rattle.pgs_world.specs.declared.fault.AreaFault.{AreaFault}
use Rattle.pgs_world.specs.Disk.{written_over, IsTorn, IsSameBeside, Writes, Cuts}
use Rattle.pgs_world.specs.Moment.{Passes, StopsBy, IsQuiet, ShowsOne, IsSynced, MakesNoPut}
use Rattle.pgs_world.specs.World.{Triple, View, part}
use Rattle.pgs_world.proofs.Moments.{passes_on, quiet_stops, synced_quiet}
use Rattle.pgs_journal.specs.Area.{opens, is_empty_or_open, is_no_store}
use Rattle.pgs_journal.specs.Creating.{IsStoreMade}
use Rattle.pgs_journal.specs.declared.format.Format.TheVariants.{Second}
use Rattle.pgs_journal.specs.declared.journal.Journal.{Journal}
use Rattle.pgs_journal.specs.Format.{is_open, is_epoch, head_body, open_records, Holds, IsFrames}
use Rattle.pgs_journal.specs.Stops.{Turns, Closes, KeepsGate, Creates}
use Rattle.pgs_journal.proofs.Composing.{stops_then, stops_weaker, beside_none, beside_on, beside_then}
use Rattle.pgs_journal.proofs.Images.{one_byte, open_is_one}
use Rattle.pgs_journal.proofs.Written.{few_in}

or_true : (b : Bool) → (b || true) ≡ true
or_true true = refl
or_true false = refl

-- a closed gate makes no store
pub no_store_closed : (image : List ℕ) → opens image ≡ false → is_no_store image ≡ true
no_store_closed image closed = ap (λ (b : Bool). nat_lt (length image) 17 || not b) closed ∙ or_true (nat_lt (length image) 17)

-- nor do fewer than 17 bytes
no_store_short : (image : List ℕ) → length image < 17 → is_no_store image ≡ true
no_store_short image short = ap (λ (b : Bool). b || not (opens image)) (less (length image) short)
  where
    less : (n : ℕ) → n < 17 → nat_lt n 17 ≡ true
    less n lt = grind (arith, nat_tests)

pub opens_first : (image : List ℕ) → opens image ≡ opens (take 1 image)
opens_first [] = refl
opens_first (gate ∷ bytes) = refl

-- the first byte decides whether the gate is open
pub same_gate : (old new : List ℕ) → KeepsGate old new → opens new ≡ opens old
same_gate old new same = opens_first new ∙ ap opens same ∙ sym (opens_first old)

-- a write of a closed gate, torn
pub closes_torn : (old new : List ℕ) → is_empty_or_open old ≡ true → IsTorn 0 1 old new → Closes old new
closes_torn [] new must torn = inr (no_store_short new (omega (arith, torn.no_longer)))
closes_torn (gate ∷ bytes) new must torn =
    let byte = one_byte 0 (gate ∷ bytes) new torn (omega arith) in
    some byte.0 byte.1 (is_open byte.0) refl
  where
    some : (x : ℕ) → new ≡ x ∷ bytes → (b : Bool) → is_open x ≡ b → Closes (gate ∷ bytes) new
    some x is true opened_now = inl (is ∙ ap (λ y. y ∷ bytes) (open_is_one x opened_now ∙ sym (open_is_one gate must)))
    some x is false closed = inr (no_store_closed new (ap opens is ∙ closed))

-- bytes written at the end
pub written_at_end : (at : ℕ) (old piece : List ℕ) → length old ≡ at → written_over old at piece ≡ old ++ piece
written_at_end at old piece is =
    ap (λ (l : List ℕ). l ++ piece ++ drop (at + length piece) old) (take_all at old (omega (arith, is)))
    ∙ ap (λ (l : List ℕ). old ++ piece ++ l) (drop_all (at + length piece) old (omega (arith, is))) ∙ append-nil (old ++ piece)

-- the store that stands behind an open gate
pub holds-new : (epoch : ℕ) (payloads : List (List ℕ)) (next : ℕ) (first image : List ℕ) → IsTrue (is_epoch epoch) → IsFrames payloads next first → image ≡ 1 ∷ (head_body Second epoch ++ 1 ∷ first) → Holds (Some (length payloads + 1)) epoch payloads (16 + length first) image
holds-new epoch payloads next first image numbered frames is =
    record {
      gate = 0;
      rest = [];
      bytes = is ∙ ap (λ (l : List ℕ). 1 ∷ (head_body Second epoch ++ l)) frames.spelled ∙ ap (λ (l : List ℕ). 1 ∷ l) (sym (append_assoc (head_body Second epoch) (open_records Second 1 payloads) (0 ∷ [])));
      closed = refl;
      place = omega (arith, ap length frames.spelled, length-append (open_records Second 1 payloads) (0 ∷ []));
      follows = refl;
      numbered = numbered;
    }

-- a store stands in the area but for the byte at its gate, which may be any
pub record IsUnopened (epoch : ℕ) (first image : List ℕ) : Type 0 where
  pub gate : List ℕ
  pub one : length gate ≡ 1
  pub bytes : image ≡ gate ++ (head_body Second epoch ++ 1 ∷ first)

-- what stands behind that byte
behind_gate : (epoch : ℕ) (first image : List ℕ) (unopened : IsUnopened epoch first image) → drop 1 image ≡ head_body Second epoch ++ 1 ∷ first
behind_gate epoch first image unopened = ap (λ (l : List ℕ). drop 1 l) unopened.bytes ∙ drop_at unopened.gate (head_body Second epoch ++ 1 ∷ first) 1 unopened.one

-- a write at its gate, torn
pub opens_torn : (epoch : ℕ) (payloads : List (List ℕ)) (next : ℕ) (first old new : List ℕ) → IsTrue (is_epoch epoch) → IsFrames payloads next first → IsUnopened epoch first old → IsTorn 0 1 old new
    → (is_no_store new ≡ true) ⊎ Holds (Some (length payloads + 1)) epoch payloads (16 + length first) new
opens_torn epoch payloads next first old new numbered frames unopened torn =
    let byte = one_byte 0 old new torn (omega (arith, ap length unopened.bytes, length-append unopened.gate (head_body Second epoch ++ 1 ∷ first), unopened.one)) in
    some byte.0 (byte.1 ∙ ap (λ (l : List ℕ). byte.0 ∷ l) (behind_gate epoch first old unopened)) (is_open byte.0) refl
  where
    some : (x : ℕ) → new ≡ x ∷ (head_body Second epoch ++ 1 ∷ first) → (b : Bool) → is_open x ≡ b → (is_no_store new ≡ true) ⊎ Holds (Some (length payloads + 1)) epoch payloads (16 + length first) new
    some x is true opened_now = inr (holds-new epoch payloads next first new numbered frames (is ∙ ap (λ y. y ∷ (head_body Second epoch ++ 1 ∷ first)) (open_is_one x opened_now)))
    some x is false closed = inl (no_store_closed new (ap opens is ∙ closed))

-- the store once its gate was written
pub holds-opened : (epoch : ℕ) (payloads : List (List ℕ)) (next : ℕ) (first old new : List ℕ) → IsTrue (is_epoch epoch) → IsFrames payloads next first → IsUnopened epoch first old → new ≡ written_over old 0 (1 ∷ [])
    → Holds (Some next) epoch payloads (16 + length first) new
holds-opened epoch payloads next first old new numbered frames unopened written =
    subst (λ n. Holds (Some n) epoch payloads (16 + length first) new) (sym frames.follows)
    (holds-new epoch payloads next first new numbered frames (written ∙ ap (λ (l : List ℕ). 1 ∷ l) (behind_gate epoch first old unopened)))

-- the number behind the records of these frames stays within the end: each takes at least one byte
pub frames-within : (payloads : List (List ℕ)) (next : ℕ) (first : List ℕ) → IsFrames payloads next first → next ≤ 16 + length first
frames-within payloads next first frames = omega (arith, frames.follows, few_in Second 1 payloads, ap length frames.spelled, length-append (open_records Second 1 payloads) (0 ∷ []))

pub gate_on : (area : Area) (d e c : Triple) → Turns area KeepsGate d e → Turns area KeepsGate e c → Turns area KeepsGate d c
gate_on area d e c one two = record { image = two.image ∙ one.image; same = beside_on area d e c one.same two.same }

-- a write behind the gate keeps it
pub gate_write : (area : Area) (at count : ℕ) (d c : Triple) → 1 ≤ at → Writes area at count d c → Turns area KeepsGate d c
gate_write area at count d c behind write =
    record {
      image = sym (take-take 1 at (part area c) behind) ∙ ap (λ (l : List ℕ). take 1 l) write.torn.before ∙ take-take 1 at (part area d) behind;
      same = write.same;
    }

-- the steps after the first: each leaves no store or the new one
module _ (area : Area) (epoch : ℕ) (payloads : List (List ℕ)) (end : ℕ) where
  pub first_step : (d c : Triple) → Turns area Closes d c → Turns area (Creates epoch payloads end) d c
  first_step d c closes = record { image = ⊎_elim (λ same. inl same) (λ none. inr (inl none)) closes.image; same = closes.same }

  pub next_step : (old mid new : View) (step : Triple → Triple → Type 0) → ((e c : Triple) → step e c → IsSameBeside area e c)
      → (IsTrue mid.honest → (e c : Triple) → mid.may_leave e → step e c → (is_no_store (part area c) ≡ true) ⊎ Holds (Some (length payloads + 1)) epoch payloads end (part area c))
      → Passes old mid → Passes mid new → StopsBy (Turns area (Creates epoch payloads end)) old mid → StopsBy step mid new → StopsBy (Turns area (Creates epoch payloads end)) old new
  next_step old mid new step same makes p q before after honest c left =
      stops_then old mid new (Turns area (Creates epoch payloads end)) step (Turns area (Creates epoch payloads end)) p q (λ d t first. first)
      (λ d e t first left then. record { image = inr (makes (p.honest ∙ honest) e t left then); same = beside_on area d e t first.same (same e t then) }) before after honest c left

-- a step that keeps a closed gate
pub keeps_closed : (area : Area) (shown : Triple) (e c : Triple) (P : Type 0) → opens (part area shown) ≡ false → part area e ≡ part area shown → KeepsGate (part area e) (part area c) → (is_no_store (part area c) ≡ true) ⊎ P
keeps_closed area shown e c P closed is keeps = inl (no_store_closed (part area c) (same_gate (part area e) (part area c) keeps ∙ ap opens is ∙ closed))

-- a write at the gate of an area that is empty or open
closing : (area : Area) (shown d c : Triple) → is_empty_or_open (part area shown) ≡ true → part area d ≡ part area shown → Writes area 0 1 d c → Turns area Closes d c
closing area shown d c must is write = record { image = closes_torn (part area d) (part area c) (ap is_empty_or_open is ∙ must) write.torn; same = write.same }

-- a read that tells that the gate has to be closed, and the write that closes it
pub closing_stops : (area : Area) (old mid new : View) → IsQuiet old mid → Passes mid new → is_empty_or_open (part area old.shown) ≡ true → StopsBy (Writes area 0 1) mid new
    → IsTrue old.tells_bytes → IsSynced area old → StopsBy (Turns area Closes) old new
closing_stops area old mid new quiet passes must stops told synced =
    quiet_stops old mid new (Turns area Closes) (λ t. record { image = inl refl; same = beside_none area t }) quiet passes
    (λ honest t left.
    let from = stops honest t left in (
      from.0,
      from.1,
      closing area old.shown from.0 t must (synced_quiet area old mid quiet synced honest (quiet.passes.tells_bytes ∙ told) from.0 from.1 ∙ ap (λ (s : Triple). part area s) quiet.shown) from.2,
    ))

-- the same of what is beside the area
pub closing_beside : (area : Area) (old mid new : View) → IsQuiet old mid → Passes mid new → StopsBy (Writes area 0 1) mid new → StopsBy (IsSameBeside area) old new
closing_beside area old mid new quiet passes stops =
    quiet_stops old mid new (IsSameBeside area) (beside_none area) quiet passes (stops_weaker mid new (Writes area 0 1) (IsSameBeside area) (λ d t write. write.same) stops)

-- the head and the records, behind one byte
pub store_written : (epoch : ℕ) (first old mid new head : List ℕ) → length old ≡ 1 → head ≡ head_body Second epoch ++ 1 ∷ [] → mid ≡ written_over old 1 head → new ≡ written_over mid 17 first → new ≡ old ++ (head_body Second epoch ++ 1 ∷ first)
store_written epoch first old mid new head one is written then =
    let front = written ∙ written_at_end 1 old head one ∙ ap (λ (l : List ℕ). old ++ l) is in
    then ∙ written_at_end 17 mid first (omega (arith, ap length front, length-append old (head_body Second epoch ++ 1 ∷ []), one)) ∙ ap (λ (l : List ℕ). l ++ first) front
    ∙ append_assoc old (head_body Second epoch ++ 1 ∷ []) first

-- two writes behind the gate keep it
pub both_writes : (area : Area) (head first : ℕ) (old mid new : View) → Passes old mid → Passes mid new → StopsBy (Writes area 1 head) old mid → StopsBy (Writes area 17 first) mid new → StopsBy (Turns area KeepsGate) old new
both_writes area head first old mid new p q one two =
    stops_then old mid new (Writes area 1 head) (Writes area 17 first) (Turns area KeepsGate) p q (λ d c write. gate_write area 1 head d c (omega arith) write)
    (λ d e c write left then. gate_on area d e c (gate_write area 1 head d e (omega arith) write) (gate_write area 17 first e c (omega arith) then)) one two

-- ---- the steps of making a store

-- what holds after each of them, whatever it answered
pub record IsUnderWay (area : Area) (epoch next : ℕ) (first : List ℕ) (old new : View) : Type 0 where
  pub stops : (payloads : List (List ℕ)) → IsFrames payloads next first → IsTrue old.tells_bytes → IsSynced area old → StopsBy (Turns area (Creates epoch payloads (16 + length first))) old new
  pub stops_beside : StopsBy (IsSameBeside area) old new
  pub beside : IsSameBeside area old.shown new.shown
  pub passes : Passes old new
  pub no_put : MakesNoPut old new

-- the gate was closed
pub closed_first : (area : Area) (epoch next : ℕ) (first : List ℕ) {old new : View} → (IsTrue old.tells_bytes → IsSynced area old → StopsBy (Turns area Closes) old new)
    → StopsBy (IsSameBeside area) old new → IsSameBeside area old.shown new.shown → Passes old new → MakesNoPut old new → IsUnderWay area epoch next first old new
closed_first area epoch next first {old} {new} stops stops_beside beside passes no_put =
    record {
      stops = λ payloads frames told synced.
          stops_weaker old new (Turns area Closes) (Turns area (Creates epoch payloads (16 + length first))) (first_step area epoch payloads (16 + length first)) (stops told synced);
      stops_beside = stops_beside;
      beside = beside;
      passes = passes;
      no_put = no_put;
    }

module _ {area : Area} {epoch next : ℕ} {first : List ℕ} where
  -- a step more, which makes no store or the new one
  then_step : {old mid new : View} (step : Triple → Triple → Type 0) → ((e c : Triple) → step e c → IsSameBeside area e c)
      → ((payloads : List (List ℕ)) → IsFrames payloads next first → IsTrue old.tells_bytes → IsSynced area old → IsTrue mid.honest → (e c : Triple) → mid.may_leave e → step e c
      → (is_no_store (part area c) ≡ true) ⊎ Holds (Some (length payloads + 1)) epoch payloads (16 + length first) (part area c))
      → IsUnderWay area epoch next first old mid → Passes mid new → StopsBy step mid new → IsSameBeside area mid.shown new.shown → MakesNoPut mid new → IsUnderWay area epoch next first old new
  then_step {old} {mid} {new} step same makes before passes stops beside no_put =
      record {
        stops = λ payloads frames told synced.
            next_step area epoch payloads (16 + length first) old mid new step same (makes payloads frames told synced) before.passes passes (before.stops payloads frames told synced) stops;
        stops_beside = beside_then area old mid new before.passes passes before.stops_beside (stops_weaker mid new step (IsSameBeside area) same stops);
        beside = beside_on area old.shown mid.shown new.shown before.beside beside;
        passes = passes_on old mid new before.passes passes;
        no_put = record { puts = no_put.puts ∙ before.no_put.puts; put_faults = no_put.put_faults ∙ before.no_put.put_faults };
      }

  -- one that keeps the closed gate
  pub kept_then : {old mid new : View} → (IsSynced area old → IsSynced area mid) → (IsTrue old.tells_bytes → opens (part area mid.shown) ≡ false)
      → IsUnderWay area epoch next first old mid → Passes mid new → StopsBy (Turns area KeepsGate) mid new → IsSameBeside area mid.shown new.shown → MakesNoPut mid new → IsUnderWay area epoch next first old new
  kept_then {old} {mid} {new} synced closed before =
      then_step (Turns area KeepsGate) (λ e c turns. turns.same)
      (λ payloads frames told was honest e c left turns.
      keeps_closed area mid.shown e c (Holds (Some (length payloads + 1)) epoch payloads (16 + length first) (part area c)) (closed told)
      (synced was honest (before.passes.tells_bytes ∙ told) e left) turns.image)
      before

  -- the cut behind the closed gate
  pub cut_then : {old mid new : View} → (IsSynced area old → IsSynced area mid) → (IsTrue old.tells_bytes → opens (part area mid.shown) ≡ false)
      → IsUnderWay area epoch next first old mid → Passes mid new → StopsBy (Cuts area 1) mid new → IsSameBeside area mid.shown new.shown → MakesNoPut mid new → IsUnderWay area epoch next first old new
  cut_then {old} {mid} {new} synced closed before passes stops =
      kept_then synced closed before passes (stops_weaker mid new (Cuts area 1) (Turns area KeepsGate) (λ e c cut. record { image = cut.short.front; same = cut.same }) stops)

  -- the write of the gate before the new store
  pub opened_then : {old mid new : View} → IsTrue (is_epoch epoch) → IsSynced area mid → (IsTrue old.tells_bytes → IsUnopened epoch first (part area mid.shown))
      → IsUnderWay area epoch next first old mid → Passes mid new → StopsBy (Writes area 0 1) mid new → IsSameBeside area mid.shown new.shown → MakesNoPut mid new → IsUnderWay area epoch next first old new
  opened_then {old} {mid} {new} numbered synced unopened before =
      then_step (Writes area 0 1) (λ e c write. write.same)
      (λ payloads frames told was honest e c left write.
      opens_torn epoch payloads next first (part area e) (part area c) numbered frames
      (subst (IsUnopened epoch first) (sym (synced honest (before.passes.tells_bytes ∙ told) e left)) (unopened told)) write.torn)
      before

  -- a step that failed
  pub not_made : (result : Result Journal AreaFault) (failed : Type 0) {faults : ℕ} {old new : View} → IsErr result → IsUnderWay area epoch next first old new → ShowsOne new
      → faults ≡ old.area_faults → RoseByOne faults new.area_faults → failed → IsStoreMade area epoch next first result failed old new
  not_made (Ok journal) failed err under_way image none cause last = absurd (let no : false ≡ true = err in cc)
  not_made (Err fault) failed {faults} {old} {new} err under_way image none cause last =
      record {
        holds = λ payloads frames. tt;
        settled = tt;
        journal = tt;
        within = tt;
        next_within = tt;
        stops = under_way.stops;
        stops_beside = under_way.stops_beside;
        beside = under_way.beside;
        step =
            record {
              passes = under_way.passes;
              image = image;
              faults = record { cause = subst (λ n. RoseByOne n new.area_faults) none cause; last = last; no_cause = tt };
              no_put = under_way.no_put;
            };
      }
