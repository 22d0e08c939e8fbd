-- What a taker says of a line that it took.
use Rattle.std.proofs.Common.{◌≡◌, ◌∙◌, inl, inr, ⊎_elim, ℕ, ◌+◌, ◌<◌, ◌^◌, Bool, true, false, List, [], ◌∷◌, ◌++◌, Option, Some, None, Result, Ok, Err, OnOk, IfErr, IsTrue, refl, sym, ap, subst, arith}
use Rattle.std.proofs.lemmas.Bool.{false≢true}
use Rattle.std.proofs.lemmas.List.{append-nil}
use Rattle.pgs_feed.specs.Deliveries.{ListKind}
use Rattle.pgs_run_lines.specs.declared.stop.Stop.{Stop}
use Rattle.pgs_run_lines.specs.declared.stop.Stop.TheVariants as stops
use Rattle.pgs_run_lines.specs.Driving.{IsEndAt, LineLeads}
use Rattle.pgs_run_lines.specs.Ending.{Ends, Shows}
use Rattle.pgs_run_lines.specs.Machine.{RunState, Going, Scene, AtEnd, extent_of}
use Rattle.pgs_run_lines.specs.Pieces.{shown_of}
use Rattle.pgs_world.specs.Moment.{EachSince}
use Rattle.pgs_world.specs.World.{Triple, View}
use Rattle.pgs_world.proofs.Moments.{each_weaker}
use Rattle.pgs_command.specs.declared.status.Status.{Status}
use Rattle.pgs_run_apply.specs.Applying.{Applies, AreReached, IsLeft, MayStop, applying, is_all}
use Rattle.pgs_run_apply.specs.Outcome.{Outcome, IsFault, IsLeftBy, IsReached, Takes, come_to, outcome_of, skipping}
use Rattle.pgs_run_apply.specs.State.{ApplyState, HoldsStore, status_after}
use Rattle.pgs_run_apply.proofs.Following.{counted, outcome_one}
use Rattle.pgs_run_apply.specs.RuleLaws.{past_as, saved_as}

by_fault : (P : Stop Status → Type 0) → P stops.DiskFault → P stops.PutFault → P stops.Memory → (stop : Stop Status) → IsFault stop → P stop
by_fault P disk put memory (stops.Ended status) fault = absurd fault
by_fault P disk put memory stops.ReadFault fault = absurd fault
by_fault P disk put memory stops.DiskFault fault = disk
by_fault P disk put memory stops.PutFault fault = put
by_fault P disk put memory stops.Memory fault = memory

-- ---- one line as a list of lines

-- it was done, or not
all_done : (kind : ListKind) (s : ApplyState) (line : List ℕ) (all : Bool) (stop : Option (Stop Status)) (old new : Scene kind.Feeds) → IsReached kind (outcome_of s line) stop old new → AreReached kind s (line ∷ []) all stop old new
all_done kind s line all stop old new reached =
    record { until = line ∷ []; later = []; parts = refl; whole = λ done. refl; reached = subst (λ (o : Outcome). IsReached kind o stop old new) (sym (outcome_one s line)) reached }

none_done : (kind : ListKind) (s : ApplyState) (line : List ℕ) (stop : Option (Stop Status)) (old new : Scene kind.Feeds) → IsReached kind (skipping s) stop old new → AreReached kind s (line ∷ []) false stop old new
none_done kind s line stop old new reached = record { until = []; later = line ∷ []; parts = refl; whole = λ all. absurd (false≢true all); reached = reached }

fault_reached : (kind : ListKind) (s : ApplyState) (line : List ℕ) (stop : Stop Status) (old new : Scene kind.Feeds) → IsFault stop → IsReached kind (come_to s (outcome_of s line) (Some stop)) (Some stop) old new
    → AreReached kind s (line ∷ []) (is_all (Some stop)) (Some stop) old new
fault_reached kind s line stop old new =
    by_fault (λ (x : Stop Status). IsReached kind (come_to s (outcome_of s line) (Some x)) (Some x) old new → AreReached kind s (line ∷ []) (is_all (Some x)) (Some x) old new)
    (none_done kind s line (Some stops.DiskFault) old new) (all_done kind s line false (Some stops.PutFault) old new) (none_done kind s line (Some stops.Memory) old new) stop

one_left : (s : ApplyState) (line : List ℕ) (tells : Bool) (out : List ℕ) (c : Triple) → IsLeftBy s (outcome_of s line) tells out c → IsLeft s (line ∷ []) tells out c
one_left s line tells out c left =
    let same : IsTrue tells → out ≡ out ++ [] = λ told. sym (append-nil out) in
    record {
      until = [];
      later = line ∷ [];
      parts = refl;
      state = ⊎_elim (λ saved. inl (saved_as c tells tells (λ told. told) s out (out ++ []) same saved))
          (λ past. inr (record { line = line; more = []; next = refl; past = past_as c tells tells (λ told. told) (outcome_of s line) out (out ++ []) same past })) left;
    }

left_since : (s : ApplyState) (line : List ℕ) (old new : View)
    → (IsTrue old.honest → IsTrue old.tells_bytes → EachSince (IsLeftBy s (outcome_of s line) old.tells_output old.shown.output) old new)
    → IsTrue old.honest → IsTrue old.tells_bytes → EachSince (IsLeft s (line ∷ []) old.tells_output old.shown.output) old new
left_since s line old new stops honest told =
    each_weaker old new (IsLeftBy s (outcome_of s line) old.tells_output old.shown.output) (IsLeft s (line ∷ []) old.tells_output old.shown.output)
    (one_left s line old.tells_output old.shown.output) (stops honest told)

-- ---- an ended line

leads_fault : (at : RunState ApplyState Status) (stop : Stop Status) → IsFault stop → IsEndAt at stop
leads_fault at stop fault = by_fault (IsEndAt at) tt tt tt stop fault

pub may_fault : (stop : Stop Status) → IsFault stop → MayStop stop
may_fault stop fault = by_fault MayStop tt tt tt stop fault

module _ {T : Type 0} (kind : ListKind) (s now : ApplyState) (line : List ℕ) where
  pub line_leads : (result : Result T (Stop Status)) (old new : Scene kind.Feeds) → Takes kind s (outcome_of s line) result now old new → LineLeads applying s line now result
  line_leads (Ok done) old new takes = ap Going (sym takes.leads)
  line_leads (Err stop) old new takes = leads_fault (Going (outcome_of s line).state) stop takes.may

  pub line_room : (result : Result T (Stop Status)) (old new : Scene kind.Feeds) → Takes kind s (outcome_of s line) result now old new → OnOk result ((lines : ℕ) → s.number + (lines + 1) < 2 ^ 64 → now.number + lines < 2 ^ 64)
  line_room (Ok done) old new takes = λ lines room.
      let is : now.number ≡ (outcome_of s line).state.number = ap (λ (t : ApplyState). t.number) takes.leads in
      let few = counted s line in
      omega (arith, is, few, room)
  line_room (Err stop) old new takes = tt

  pub line_holds : (result : Result T (Stop Status)) (old new : Scene kind.Feeds) → Takes kind s (outcome_of s line) result now old new → OnOk result (HoldsStore now new.view)
  line_holds (Ok done) old new takes = subst (λ (t : ApplyState). HoldsStore t new.view) (sym takes.leads) (takes.reached.holds refl)
  line_holds (Err stop) old new takes = tt

  pub line_allows : (result : Result T (Stop Status)) (old new : Scene kind.Feeds) → Takes kind s (outcome_of s line) result now old new → Applies kind s (line ∷ []) (extent_of result) old new
  line_allows (Ok done) old new takes = record {
    passes = takes.passes;
    reached = all_done kind s line true None old new takes.reached;
    stops = left_since s line old.view new.view takes.stops;
    beside = takes.beside;
  }
  line_allows (Err stop) old new takes = record {
    passes = takes.passes;
    reached = fault_reached kind s line stop old new takes.may takes.reached;
    stops = left_since s line old.view new.view takes.stops;
    beside = takes.beside;
  }

  pub line_may : (result : Result T (Stop Status)) (old new : Scene kind.Feeds) → Takes kind s (outcome_of s line) result now old new → IfErr result MayStop
  line_may (Ok done) old new takes = tt
  line_may (Err stop) old new takes = may_fault stop takes.may

  -- ---- the rest of the input

  -- it was taken, and the run ends
  pub end_allows : (done : T) (status : Status) (old new : Scene kind.Feeds) → Takes kind s (outcome_of s line) (Ok done) now old new → Applies kind s [] (AtEnd line (stops.Ended status)) old new
  end_allows done status old new takes = record {
    passes = takes.passes;
    reached = all_done kind s line true (Some (stops.Ended status)) old new (record { holds = takes.reached.holds; put = takes.reached.put; given = takes.reached.given; delivered = takes.reached.delivered });
    stops = left_since s line old.view new.view takes.stops;
    beside = takes.beside;
  }

  pub end_ends : (done : T) (status : Status) (old new : Scene kind.Feeds) → Takes kind s (outcome_of s line) (Ok done) now old new → status ≡ status_after now.refused
      → Ends (shown_of old.view) (applying.rest s line) (stops.Ended status) (shown_of new.view)
  end_ends done status old new takes is = (takes.shows, ap (λ (t : ApplyState). status_after t.refused) (sym takes.leads) ∙ sym is)

  -- or it stopped the run
  pub stop_allows : (stop : Stop Status) (old new : Scene kind.Feeds) → Takes {T = T} kind s (outcome_of s line) (Err stop) now old new → Applies kind s [] (AtEnd line stop) old new
  stop_allows stop old new takes = record {
    passes = takes.passes;
    reached = fault_reached kind s line stop old new takes.may takes.reached;
    stops = left_since s line old.view new.view takes.stops;
    beside = takes.beside;
  }

  pub stop_ends : (stop : Stop Status) (old new : Scene kind.Feeds) → Takes {T = T} kind s (outcome_of s line) (Err stop) now old new → Ends (shown_of old.view) (applying.rest s line) stop (shown_of new.view)
  stop_ends stop old new takes =
      let start = shown_of old.view in
      by_fault (λ (x : Stop Status). Shows start (outcome_of s line).pieces x (shown_of new.view) → Ends start (applying.rest s line) x (shown_of new.view))
      (λ shows. shows) (λ shows. shows) (λ shows. shows) stop takes.may takes.shows
