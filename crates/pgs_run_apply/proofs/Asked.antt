-- What a line comes to by what the store answered.
use Rattle.std.proofs.Common.{◌≡◌, ◌∙◌, inl, inr, ⊎_elim, ℕ, ◌+◌, Bool, true, true≢false, List, [], ◌∷◌, Result, Ok, Err, IsTrue, refl, sym, ap, subst}
use Rattle.std.proofs.lemmas.List.{append-nil}
use Rattle.pgs_base.specs.declared.limits.Limits.{Limits}
use Rattle.pgs_base.specs.Graph.{Graph}
use Rattle.pgs_codec.specs.declared.command.Command.TheVariants.{Txn as Transaction}
use Rattle.pgs_feed.specs.Given.{AreGiven}
use Rattle.pgs_feed.specs.Deliveries.{IsDelivered, ListKind}
use Rattle.pgs_feed.proofs.Deliveries.{delivered_one}
use Rattle.pgs_feed.proofs.Given.{given_none}
use Rattle.pgs_graph.specs.declared.operation.Txn.{Txn}
use Rattle.pgs_run_lines.specs.declared.stop.Stop.{Stop}
use Rattle.pgs_run_lines.specs.declared.stop.Stop.TheVariants as stops
use Rattle.pgs_run_lines.specs.Machine.{scene_of}
use Rattle.pgs_run_lines.specs.Pieces.{Shown, ShowsAll, shown_of}
use Rattle.pgs_run_lines.proofs.Showing.{shows_none}
use Rattle.pgs_store.specs.Applies.{decided}
use Rattle.pgs_store.specs.Stored.{StoreState, IsAppliedIn, IsSavedIn, committed, longer}
use Rattle.pgs_store.specs.World.{StaysBeside}
use Rattle.pgs_violation.specs.declared.rejection.Rejection.{Rejection}
use Rattle.pgs_violation.specs.Decision.{decide}
use Rattle.pgs_violation.specs.Violations.{verdict}
use Rattle.pgs_world.specs.Count.{RoseByOne}
use Rattle.pgs_world.specs.Moment.{EachSince, IsTimed}
use Rattle.pgs_world.specs.declared.area.Area.{Area}
use Rattle.pgs_world.specs.World.{Triple, View, other}
use Rattle.pgs_answer.specs.Lines.{committed_line, feed_line}
use Rattle.pgs_answer.specs.Refusals.{rejection_text}
use Rattle.pgs_command.specs.declared.status.Status.{Status}
use Rattle.pgs_command.specs.Images.{KeepsArea}
use Rattle.pgs_command.proofs.Images.{area_beside}
use Rattle.pgs_run_input.specs.Session.{standard, decision_on}
use Rattle.pgs_run_store.proofs.Shown.{same_shown, same_faults}
use Rattle.pgs_run_apply.specs.Asking.{Asks, IsDoneBy, is_early}
use Rattle.pgs_run_apply.specs.Outcome.{IsPast, IsLeftBy, Takes, refusing, deciding}
use Rattle.pgs_run_apply.specs.Seen.{state_with}
use Rattle.pgs_run_apply.specs.State.{ApplyState, HoldsStore}
use Rattle.pgs_run_apply.proofs.Taken.{PutsPiece, take_none, take_put}

-- within the limits of the program a store decides as lines are told
same_decision : (s : ApplyState) (txn : Txn) → s.guard.limits ≡ standard → decision_on (verdict s.guard.schema) s.guard.graph txn ≡ decided s.guard txn
unfolding decision_on
same_decision s txn limits = ap (λ (l : Limits). decide l (verdict s.guard.schema) s.guard.graph txn) (sym limits)

-- ---- at every moment of the call

applied_left : (s : ApplyState) (txn : Txn) (decision : Result Graph Rejection) (tells : Bool) (out : List ℕ) (c : Triple)
    → decision ≡ decided s.guard txn → (IsTrue tells → c.output ≡ out) → IsAppliedIn s.guard s.journal txn c
    → IsLeftBy s (deciding s txn decision) tells out c
applied_left s txn decision tells out c same is applied =
    ⊎_elim (λ before. inl (is, before))
    (λ after. inr (subst (λ (d : Result Graph Rejection). IsPast (deciding s txn d) tells out c) (sym (same ∙ after.1)) (past after.0 after.2))) applied
  where
    past : (graph : Graph) → IsSavedIn (committed s.guard graph) (longer s.journal (Transaction txn)) c → IsPast (deciding s txn (Ok graph)) tells out c
    past graph saved = record {
      front = [];
      back = committed_line (s.number + 1) (s.guard.commits + 1);
      piece = refl;
      saved = ((λ output. is output ∙ sym (append-nil out)), saved);
    }

asked_left : (s : ApplyState) (txn : Txn) (decision : Result Graph Rejection) (old mid : View) → decision ≡ decided s.guard txn → IsTimed old
    → (IsTrue old.honest → IsTrue old.tells_bytes → EachSince (IsAppliedIn s.guard s.journal txn) old mid) → StaysBeside s.journal.area old mid
    → IsTrue old.honest → IsTrue old.tells_bytes → EachSince (IsLeftBy s (deciding s txn decision) old.tells_output old.shown.output) old mid
asked_left s txn decision old mid same timed stops beside honest told = λ c left.
    let from = beside.stops honest c left in
    applied_left s txn decision old.tells_output old.shown.output c same (λ output. from.2.output ∙ timed.output honest output from.0 from.1)
    (stops honest told c left)

-- a call that wrote one area at most shows the same
shown_beside : (area : Area) (old mid : View) → StaysBeside area old mid → shown_of mid ≡ shown_of old
shown_beside area old mid beside = same_shown old mid beside.passes.tells_output beside.shown.output beside.no_put.puts

-- the other area is left alone
kept_beside : (area : Area) (old mid : View) → StaysBeside area old mid → KeepsArea (other area) old mid
kept_beside area old mid beside = area_beside area old mid beside.passes beside.shown beside.stops

-- ---- the store's answers

module _ (kind : ListKind) (before : StoreState) (number : ℕ) (refused : Bool) (txn : Txn) where
  abbrev at : ApplyState
  at = state_with before number refused

  abbrev asked : Result Graph Rejection
  asked = decision_on (verdict before.guard.schema) before.guard.graph txn

  -- the transaction is done, feeds were given its line, and its verdict line was put
  pub take_done : {T : Type 0} (result : Result T (Stop Status)) (after : StoreState) (old mid new : View) (kept fed : kind.Feeds) (piece : List ℕ) → HoldsStore at old → IsTimed old → (done : IsDoneBy before after txn old mid)
      → (IsTrue old.honest → IsTrue old.tells_bytes → EachSince (IsAppliedIn before.guard before.journal txn) old mid)
      → StaysBeside before.journal.area old mid → AreGiven (feed_line txn (before.guard.commits + 1) ∷ []) (kind.places kept) (kind.places fed)
      → IsDelivered kind kept (record { line = feed_line txn (before.guard.commits + 1); puts = mid.puts }) fed
      → piece ≡ committed_line (number + 1) (before.guard.commits + 1) → PutsPiece piece result mid new
      → Takes kind at (deciding at txn asked) result (state_with after (number + 1) refused) (scene_of old kept) (scene_of new fed)
  take_done result after old mid new kept fed piece holds timed done stops beside given delivered piece_is put =
      let now = state_with after (number + 1) refused in
      subst (λ (d : Result Graph Rejection). Takes kind at (deciding at txn d) result now (scene_of old kept) (scene_of new fed))
      (sym (same_decision at txn holds.limits ∙ done.accepted))
      (take_put kind at (deciding at txn (Ok done.graph)) piece now old mid new kept fed (ap (λ (bytes : List ℕ). bytes ∷ []) (sym piece_is))
      (ap (λ (store : StoreState). state_with store (number + 1) refused) done.store) given
      (delivered_one kind (feed_line txn (before.guard.commits + 1)) old.puts kept fed
      (subst (λ (n : ℕ). IsDelivered kind kept (record { line = feed_line txn (before.guard.commits + 1); puts = n }) fed) beside.no_put.puts delivered))
      (record {
        passes = beside.passes;
        holds = record { limits = holds.limits; whole = holds.whole; stands = done.stands };
        output = beside.shown.output;
        shown = shown_beside before.journal.area old mid beside;
        faults = same_faults 0 old mid done.area_faults beside.no_put.put_faults;
        stops = asked_left at txn (Ok done.graph) old mid (sym done.accepted) timed stops beside;
        beside = kept_beside before.journal.area old mid beside;
      }) result put)

  -- an area failed
  take_struck : {T : Type 0} (now : ApplyState) (old mid : View) (kept : kind.Feeds) → HoldsStore at old → IsTimed old
      → RoseByOne old.area_faults mid.area_faults
      → (IsTrue old.honest → IsTrue old.tells_bytes → EachSince (IsAppliedIn before.guard before.journal txn) old mid)
      → StaysBeside before.journal.area old mid
      → Takes {T = T} kind at (deciding at txn asked) (Err stops.DiskFault) now (scene_of old kept) (scene_of mid kept)
  take_struck now old mid kept holds timed rose stops beside =
      let nothing = subst (λ (shown : Shown). ShowsAll (shown_of old) [] shown) (sym (shown_beside before.journal.area old mid beside)) (shows_none (shown_of old)) in
      record {
        passes = beside.passes;
        leads = tt;
        shows = record { first = []; later = (deciding at txn asked).pieces; parts = refl; shows = nothing };
        cause = (rose, refl, beside.no_put.put_faults);
        may = tt;
        reached = record { holds = λ alive. absurd (true≢false alive); put = nothing; given = given_none (kind.places kept); delivered = refl };
        stops = asked_left at txn asked old mid (same_decision at txn holds.limits) timed stops beside;
        beside = kept_beside before.journal.area old mid beside;
      }

  -- the transaction is rejected
  pub take_rejected : {T W : Type 0} (view : W → View) (result : Result T (Stop Status)) (now : ApplyState) (rejection : Rejection) (old mid : W)
      (new : View) (kept fed : kind.Feeds) (after : StoreState) → HoldsStore at (view old) → decided before.guard txn ≡ Err rejection
      → after ≡ before → mid ≡ old
      → (let t = state_with after number refused in Takes kind t (refusing t (rejection_text rejection standard)) result now (scene_of (view mid) kept) (scene_of new fed))
      → Takes kind at (deciding at txn asked) result now (scene_of (view old) kept) (scene_of new fed)
  take_rejected {W = W} view result now rejection old mid new kept fed after holds rejected same still taken =
      subst (λ (d : Result Graph Rejection). Takes kind at (deciding at txn d) result now (scene_of (view old) kept) (scene_of new fed))
      (sym (same_decision at txn holds.limits ∙ rejected))
      (subst (λ (w : W). Takes kind at (refusing at (rejection_text rejection standard)) result now (scene_of (view w) kept) (scene_of new fed)) still
      (subst (λ (store : StoreState). let t = state_with store number refused in Takes kind t (refusing t (rejection_text rejection standard)) result now (scene_of (view mid) kept) (scene_of new fed)) same taken))

  -- and what it needs
  pub still_holds : {W : Type 0} (view : W → View) (old mid : W) (after : StoreState) → HoldsStore at (view old) → after ≡ before → mid ≡ old
      → HoldsStore (state_with after number refused) (view mid)
  still_holds {W = W} view old mid after holds same still =
      subst (λ (w : W). HoldsStore (state_with after number refused) (view w)) (sym still)
      (subst (λ (store : StoreState). HoldsStore (state_with store number refused) (view old)) (sym same) holds)

  -- the store stopped the run
  pub take_stopped : {T W : Type 0} (view : W → View) (stop : Stop Status) (now : ApplyState) (after : StoreState) (old mid : W) (kept : kind.Feeds)
      → HoldsStore at (view old) → IsTimed (view old) → Asks (Err stop) before after txn (view old) (view mid)
      → (is_early (Err stop) ≡ true → mid ≡ old)
      → (IsTrue (view old).honest → IsTrue (view old).tells_bytes → EachSince (IsAppliedIn before.guard before.journal txn) (view old) (view mid))
      → StaysBeside before.journal.area (view old) (view mid)
      → Takes {T = T} kind at (deciding at txn asked) (Err stop) now (scene_of (view old) kept) (scene_of (view mid) kept)
  take_stopped view (stops.Ended status) now after old mid kept holds timed answer early left beside = absurd answer
  take_stopped view stops.ReadFault now after old mid kept holds timed answer early left beside = absurd answer
  take_stopped view stops.DiskFault now after old mid kept holds timed answer early left beside =
      take_struck now (view old) (view mid) kept holds timed answer left beside
  take_stopped view stops.PutFault now after old mid kept holds timed answer early left beside = absurd answer
  take_stopped {T = T} view stops.Memory now after old mid kept holds timed answer early left beside =
      subst (λ w. Takes {T = T} kind at (deciding at txn asked) (Err stops.Memory) now (scene_of (view old) kept) (scene_of (view w) kept)) (sym (early refl))
      (take_none kind at (view old) kept timed holds (deciding at txn asked) now)
