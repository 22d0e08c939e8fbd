-- The taking of a line, from what its calls do to the world.
use Rattle.std.proofs.Common.{◌≡◌, ◌∙◌, inl, inr, ℕ, ◌+◌, List, [], ◌∷◌, ◌++◌, length, Result, Ok, Err, IfErr, OnOk, Some, IsTrue, refl, sym, ap, subst, arith}
use Rattle.std.specs.Result.{IsErrAnd}
use Rattle.std.proofs.lemmas.Result.{err_from_is_err_and}
use Rattle.pgs_base.specs.declared.limits.Limits.{Limits}
use Rattle.pgs_feed.specs.Given.{AreGiven}
use Rattle.pgs_feed.specs.Deliveries.{AreDelivered, ListKind, behind, lines_in}
use Rattle.pgs_feed.proofs.Given.{given_none}
use Rattle.pgs_run_lines.specs.AreasKept.{KeepsAreas}
use Rattle.pgs_run_lines.specs.declared.stop.Stop.{Stop}
use Rattle.pgs_run_lines.specs.declared.stop.Stop.TheVariants as stops
use Rattle.pgs_run_lines.specs.Driving.{LineShows}
use Rattle.pgs_run_lines.specs.Ending.{Faults, HasAnyCause, Shows, faults_of}
use Rattle.pgs_run_lines.specs.Machine.{Scene, scene_of}
use Rattle.pgs_run_lines.specs.Pieces.{Shown, ShowsAll, shown_of}
use Rattle.pgs_run_lines.proofs.Showing.{shows_none, torn_puts}
use Rattle.pgs_run_store.proofs.Images.{same_images}
use Rattle.pgs_violation.specs.declared.rejection.Rejection.{Rejection}
use Rattle.pgs_world.specs.Disk.{PutsFront}
use Rattle.pgs_world.specs.Moment.{EachSince, IsTimed, Passes, StopsBy}
use Rattle.pgs_world.specs.World.{View, other}
use Rattle.pgs_world.proofs.Moments.{passes_none, passes_on, each_none, each_on}
use Rattle.pgs_answer.specs.Lines.{refused_line}
use Rattle.pgs_answer.specs.Refusals.{rejection_text}
use Rattle.pgs_command.specs.declared.status.Status.{Status}
use Rattle.pgs_command.specs.Images.{KeepsArea}
use Rattle.pgs_command.proofs.Images.{area_none, area_of_images, area_on, images_areas, settled_images}
use Rattle.pgs_run_input.specs.Session.{standard}
use Rattle.pgs_run_input.proofs.Standard.{standard_is}
use Rattle.pgs_run_apply.specs.Outcome.{Outcome, IsFault, IsLeftBy, IsReached, Takes, come_to, refusing, skipping, stop_of}
use Rattle.pgs_run_apply.specs.State.{ApplyState, HoldsStore, with_refusal}
use Rattle.pgs_run_apply.specs.RuleLaws.{saved_here}

-- ---- a put

-- what a call of `put_piece` says
pub record PutsPiece {T : Type 0} (piece : List ℕ) (result : Result T (Stop Status)) (old new : View) : Type 0 where
  pub shows : LineShows (shown_of old) (piece ∷ []) result (shown_of new)
  pub fault : IfErr result (λ stop. stop ≡ stops.PutFault)
  pub cause : HasAnyCause (faults_of 0 old) (faults_of 0 new) result
  pub areas : KeepsAreas old new
  pub stops : StopsBy (PutsFront piece) old new

put_holds : (s : ApplyState) (old new : View) → HoldsStore s old → KeepsAreas old new → HoldsStore s new
put_holds s old new holds areas = record {
  limits = holds.limits;
  whole = holds.whole;
  stands = record {
    saved = λ told. same_images s.guard s.journal old.shown new.shown (holds.stands.saved (sym areas.passes.tells_bytes ∙ told)) areas.a areas.b;
    settled = λ honest told.
        settled_images old new (holds.stands.settled (sym areas.passes.honest ∙ honest) (sym areas.passes.tells_bytes ∙ told)) (images_areas old new areas);
  };
}

-- ---- what is done before the put

-- the store did its part for the line, and nothing was put yet
pub record IsReady (s : ApplyState) (o : Outcome) (old mid : View) : Type 0 where
  pub passes : Passes old mid
  pub holds : HoldsStore o.state mid
  pub output : mid.shown.output ≡ old.shown.output
  pub shown : shown_of mid ≡ shown_of old
  pub faults : faults_of 0 mid ≡ faults_of 0 old
  pub stops : IsTrue old.honest → IsTrue old.tells_bytes → EachSince (IsLeftBy s o old.tells_output old.shown.output) old mid
  pub beside : KeepsArea (other s.journal.area) old mid

here_left : (s : ApplyState) (o : Outcome) (view : View) → IsTimed view → HoldsStore s view → IsTrue view.honest → IsTrue view.tells_bytes
    → EachSince (IsLeftBy s o view.tells_output view.shown.output) view view
here_left s o view timed holds honest told =
    each_none view (IsLeftBy s o view.tells_output view.shown.output) timed (λ c left. inl (saved_here s view timed holds honest told c left))

-- ---- the line

module _ (kind : ListKind) (s : ApplyState) (o : Outcome) (piece : List ℕ) (now : ApplyState) (old mid new : View) (kept fed : kind.Feeds)
    (one : o.pieces ≡ piece ∷ []) (state : now ≡ o.state) (given : AreGiven (lines_in o.given) (kind.places kept) (kind.places fed)) (delivered : AreDelivered kind kept (behind old.puts o.given) fed) (ready : IsReady s o old mid) where
  abbrev Ends : {T : Type 0} → Result T (Stop Status) → Type 0
  Ends result = OnOk result (now ≡ o.state) × IfErr result IsFault × IsReached kind (come_to s o (stop_of result)) (stop_of result) (scene_of old kept) (scene_of new fed)

  put_ends : {T : Type 0} (result : Result T (Stop Status)) → PutsPiece piece result mid new → Ends result
  put_ends (Ok done) put = (
    state,
    tt,
    record {
      holds = λ alive. put_holds o.state mid new ready.holds put.areas;
      put = subst (λ (pieces : List (List ℕ)). ShowsAll (shown_of old) pieces (shown_of new)) (sym one)
          (subst (λ (start : Shown). ShowsAll start (piece ∷ []) (shown_of new)) ready.shown put.shows);
      given = given;
      delivered = delivered;
    },
  )
  put_ends (Err stop) put =
      let torn = torn_puts (shown_of mid) (shown_of new) piece (subst (λ (x : Stop Status). Shows (shown_of mid) (piece ∷ []) x (shown_of new)) put.fault put.shows) in
      let was : mid.puts ≡ old.puts = ap (λ (shown : Shown). shown.puts) ready.shown in
      let count : length o.pieces ≡ 1 = ap length one in
      let reached : IsReached kind o (Some stops.PutFault) (scene_of old kept) (scene_of new fed) = record {
        holds = λ alive. put_holds o.state mid new ready.holds put.areas;
        put = omega (arith, was, torn, count);
        given = given;
        delivered = delivered;
      } in
      (tt, subst IsFault (sym put.fault) tt, subst (λ (x : Stop Status). IsReached kind (come_to s o (Some x)) (Some x) (scene_of old kept) (scene_of new fed)) (sym put.fault) reached)

  put_left : StopsBy (PutsFront piece) mid new → IsTrue old.honest → IsTrue old.tells_bytes → EachSince (IsLeftBy s o old.tells_output old.shown.output) mid new
  put_left stops honest told = λ c left.
      let p = ready.passes in
      let from = stops (p.honest ∙ honest) c left in
      let here = saved_here o.state mid p.timed ready.holds (p.honest ∙ honest) (p.tells_bytes ∙ told) from.0 from.1 in
      inr (record {
        front = from.2.front;
        back = from.2.back;
        piece = one ∙ ap (λ (bytes : List ℕ). bytes ∷ []) from.2.parts;
        saved = (
          (λ output. from.2.added ∙ ap (λ (bytes : List ℕ). bytes ++ from.2.front) (here.0 (p.tells_output ∙ output) ∙ ready.output)),
          same_images o.state.guard o.state.journal from.0 c here.1 from.2.a from.2.b,
        );
      })

  -- the store did its part, feeds were given what they are to get, and the piece was put
  pub take_put : {T : Type 0} (result : Result T (Stop Status)) → PutsPiece piece result mid new → Takes kind s o result now (scene_of old kept) (scene_of new fed)
  take_put result put =
      let ends = put_ends result put in
      record {
        passes = passes_on old mid new ready.passes put.areas.passes;
        leads = ends.0;
        shows = subst (λ (pieces : List (List ℕ)). LineShows (shown_of old) pieces result (shown_of new)) (sym one)
            (subst (λ (start : Shown). LineShows start (piece ∷ []) result (shown_of new)) ready.shown put.shows);
        cause = subst (λ (f : Faults). HasAnyCause f (faults_of 0 new) result) ready.faults put.cause;
        may = ends.1;
        reached = ends.2;
        stops = λ honest told.
            each_on old mid new (IsLeftBy s o old.tells_output old.shown.output) ready.passes put.areas.passes (ready.stops honest told) (put_left put.stops honest told);
        beside =
            area_on (other s.journal.area) old mid new ready.beside (area_of_images (other s.journal.area) mid new (images_areas mid new put.areas));
      }

module _ {T : Type 0} (kind : ListKind) (s : ApplyState) (view : View) (kept : kind.Feeds) (timed : IsTimed view) (holds : HoldsStore s view) where
  -- there was no memory
  pub take_none : (o : Outcome) (now : ApplyState) → Takes {T = T} kind s o (Err stops.Memory) now (scene_of view kept) (scene_of view kept)
  take_none o now = record {
    passes = passes_none view timed;
    leads = tt;
    shows = record { first = []; later = o.pieces; parts = refl; shows = shows_none (shown_of view) };
    cause = refl;
    may = tt;
    reached = record { holds = λ alive. holds; put = shows_none (shown_of view); given = given_none (kind.places kept); delivered = refl };
    stops = here_left s o view timed holds;
    beside = area_none (other s.journal.area) view timed;
  }

  -- a call that answers so
  pub take_untaken : (o : Outcome) (result : Result T (Stop Status)) (now : ApplyState) → IsErrAnd result (λ given. given ≡ stops.Memory) → Takes kind s o result now (scene_of view kept) (scene_of view kept)
  take_untaken o result now handed = let exit = err_from_is_err_and result handed in rw (exit.1, exit.2) (take_none o now)

  -- the line is skipped
  pub take_skipped : (done : T) → Takes kind s (skipping s) (Ok done) s (scene_of view kept) (scene_of view kept)
  take_skipped done = record {
    passes = passes_none view timed;
    leads = refl;
    shows = shows_none (shown_of view);
    cause = refl;
    may = tt;
    reached = record { holds = λ alive. holds; put = shows_none (shown_of view); given = given_none (kind.places kept); delivered = refl };
    stops = here_left s (skipping s) view timed holds;
    beside = area_none (other s.journal.area) view timed;
  }

  -- the line is refused: the store has nothing to do
  pub take_refused : (text piece : List ℕ) (result : Result T (Stop Status)) (new : View) → piece ≡ refused_line (s.number + 1) text → PutsPiece piece result view new
      → Takes kind s (refusing s text) result (with_refusal s) (scene_of view kept) (scene_of new kept)
  take_refused text piece result new piece_is put =
      take_put kind s (refusing s text) piece (with_refusal s) view view new kept kept (ap (λ (bytes : List ℕ). bytes ∷ []) (sym piece_is)) refl (given_none (kind.places kept)) refl
      (record {
        passes = passes_none view timed;
        holds = record { limits = holds.limits; whole = holds.whole; stands = holds.stands };
        output = refl;
        shown = refl;
        faults = refl;
        stops = here_left s (refusing s text) view timed holds;
        beside = area_none (other s.journal.area) view timed;
      }) result put

-- the same of an outcome that is the same
pub take_as : {T : Type 0} {kind : ListKind} {s : ApplyState} {o other : Outcome} {result : Result T (Stop Status)} {now : ApplyState} {old new : Scene kind.Feeds}
    → other ≡ o → Takes kind s o result now old new → Takes kind s other result now old new
take_as {kind = kind} {s = s} {result = result} {now = now} {old = old} {new = new} same taken =
    subst (λ (p : Outcome). Takes kind s p result now old new) (sym same) taken

-- a rejection's text by the limits of the program
pub rejecting : (s : ApplyState) (rejection : Rejection) (limits : Limits) (said text : List ℕ) → limits.ops ≡ 10000 → limits.elements ≡ 1000000 → said ≡ text → text ≡ rejection_text rejection limits
    → refusing s said ≡ refusing s (rejection_text rejection standard)
rejecting s rejection limits said text ops elements is of_rejection =
    ap (refusing s) (is ∙ of_rejection ∙ ap (rejection_text rejection) (standard_is limits ops elements))
