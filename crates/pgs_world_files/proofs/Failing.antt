-- A call on an area that failed left its file, and a cause, so.
use Rattle.std.proofs.Common.{◌≡◌, ◌⊎◌, ◌-◌, ◌^◌, true, List, ℕ, Option, Some, None, Result, Ok, Err, OnErr, inl, inr, sym, subst, is_some, arith}
use Rattle.pgs_world.specs.declared.area.Area.{Area}
use Rattle.pgs_world.specs.Count.{Rose}
use Rattle.pgs_world_files.specs.declared.area_files.AreaFiles.{AreaFiles}
use Rattle.pgs_world_files.specs.declared.cause.FileCause.{FileCause}
use Rattle.pgs_world_files.specs.declared.file_world.FileWorld.{FileWorld}
use Rattle.std.specs.declared.io.Error.{Error}
use Rattle.pgs_world_streams.specs.Pieces.{FailsWith}
use Rattle.pgs_world_files.specs.Causes.{IsKept}
use Rattle.pgs_world_files.specs.Failing.{FileCalls, HasFailed, HasFailedArea, HasFailedFor, IsFailed}
use Rattle.pgs_world_files.specs.FailedFiles.{cause_in}
use Rattle.pgs_world_files.specs.Handles.{IfOpen, AtMoment, handle_in}
use Rattle.pgs_world_streams.specs.Given.{BareCall, PlainCall}

module _ {H : Type 0} (calls : FileCalls H) {A F : Type 0} (gives : H → Result A F → H → Type 0) (fails : H → FileCause → H → Type 0)
    (of : (before : H) (cause : FileCause) (after : H) → fails before cause after → HasFailedFor calls cause after) where
  kept : (old : Option H) (was cause : Option FileCause) (now : Option H) (fault : F) → IfOpen gives old (Err fault) now → IsKept fails old was cause now → IsFailed calls now cause
  kept (Some old) was (Some cause) (Some now) fault given is = of old cause now is
  kept (Some old) was (Some cause) None fault given is = absurd given
  kept (Some old) was None (Some now) fault given is = absurd is
  kept (Some old) was None None fault given is = absurd given
  kept None was cause now fault given is = subst (λ file. IsFailed calls file cause) (sym given) tt

  -- the world after a call that began at this moment, and that is counted
  module _ {W : Type 0} (writes : ℕ → PlainCall W) (flushes : ℕ → BareCall W) (area : Area) (old mid : AreaFiles H) (world : FileWorld W H) (areas : world.areas ≡ mid)
      (moment : ℕ) (rose : Rose moment world.counts.calls) where
    last_moment : moment ≡ 2 ^ 64 - 1 → HasFailed calls writes flushes world
    last_moment last = inr (inr (omega (arith, last, rose)))

    kept_area : (fault : F) → AtMoment moment gives (handle_in area old) (Err fault) (handle_in area mid)
        → IsKept fails (handle_in area old) (cause_in area old) (cause_in area mid) (handle_in area mid) → mid.failed ≡ Some area → HasFailed calls writes flushes world
    kept_area fault (inr given) caused is = last_moment given.0
    kept_area fault (inl given) caused is =
        inl (subst (λ (files : AreaFiles H). HasFailedArea calls files.failed files) (sym areas)
        (subst (λ failed. HasFailedArea calls failed mid) (sym is) (kept (handle_in area old) (cause_in area old) (cause_in area mid) (handle_in area mid) fault given caused)))

    failed_area : (answer : Result A F) → AtMoment moment gives (handle_in area old) answer (handle_in area mid)
        → OnErr answer ((moment ≡ 2 ^ 64 - 1) ⊎ IsKept fails (handle_in area old) (cause_in area old) (cause_in area mid) (handle_in area mid))
        → OnErr answer ((moment ≡ 2 ^ 64 - 1) ⊎ (mid.failed ≡ Some area)) → OnErr answer (HasFailed calls writes flushes world)
    failed_area (Ok done) given caused is = tt
    failed_area (Err fault) given (inl last) is = last_moment last
    failed_area (Err fault) given (inr caused) (inl last) = last_moment last
    failed_area (Err fault) given (inr caused) (inr is) = kept_area fault given caused is

    -- the same of what the world answers
    pub failed_called : (answer result : Result A F) → result ≡ answer → AtMoment moment gives (handle_in area old) answer (handle_in area mid)
        → OnErr answer ((moment ≡ 2 ^ 64 - 1) ⊎ IsKept fails (handle_in area old) (cause_in area old) (cause_in area mid) (handle_in area mid))
        → OnErr answer ((moment ≡ 2 ^ 64 - 1) ⊎ (mid.failed ≡ Some area)) → OnErr result (HasFailed calls writes flushes world)
    failed_called answer result same given caused is = subst (λ r. OnErr r (HasFailed calls writes flushes world)) (sym same) (failed_area answer given caused is)

module _ {W H : Type 0} (calls : FileCalls H) (writes : ℕ → PlainCall W) (flushes : ℕ → BareCall W) (world : FileWorld W H) where
  -- a put that can't be counted
  pub failed_uncounted : world.counts.puts ≡ 2 ^ 64 - 1 → HasFailed calls writes flushes world
  failed_uncounted none = inr (inl (inl none))

  pub failed_at_last : (moment : ℕ) → moment ≡ 2 ^ 64 - 1 → Rose moment world.counts.calls → HasFailed calls writes flushes world
  failed_at_last moment last rose = inr (inr (omega (arith, last, rose)))

  -- a piece that wasn't written whole
  pub failed_piece : (t : ℕ) (old : W) (piece : List ℕ) (error : Error) → is_some world.put_cause ≡ true → FailsWith (writes t) (flushes t) old piece error world.writer → HasFailed calls writes flushes world
  failed_piece t old piece error kept failed = inr (inl (inr (kept, t, old, piece, error, failed)))
