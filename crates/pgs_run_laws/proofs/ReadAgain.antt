-- What a run of `recover` printed, a run of `validate` takes as its input.
use Rattle.std.proofs.Common.{◌≡◌, ℕ, ◌^◌, ◌<◌, IsTrue, List, [], ◌++◌, length, sym, ap, subst, ◌∙◌}
use Rattle.std.specs.List.{concat}
use Rattle.std.proofs.lemmas.List.{append_cancel_left}
use Rattle.pgs_codec.proofs.Exact.{IsBytes}
use Rattle.pgs_run_lines.specs.Machine.{Told}
use Rattle.pgs_run_lines.specs.Pieces.{ShowsAll, shown_of}
use Rattle.pgs_run_words.specs.declared.command.Command.TheVariants.{Recover, Validate}
use Rattle.pgs_world.specs.World.{View}
use Rattle.pgs_world.proofs.Moments.{shown_added}
use Rattle.pgs_command.specs.declared.status.Status.{Status}
use Rattle.pgs_command.specs.declared.status.Status.TheVariants.{Accepted}
use Rattle.pgs_command.specs.Areas.{areas_of}
use Rattle.pgs_run_store.specs.Dump.{told_dump}
use Rattle.pgs_run_store.specs.Refusing.{told_of_areas}
use Rattle.pgs_run_try.specs.declared.judging.Judging.TheVariants.{AtEnd}
use Rattle.pgs_run_try.specs.Told.{told_judging}
use Rattle.pgs_run_laws.specs.DumpOps.{AreReadBack}
use Rattle.pgs_run_laws.specs.Sequence.{Ran}
use Rattle.pgs_run_laws.proofs.AddUp.{promise, shows}
use Rattle.pgs_run_laws.proofs.ReadBack.{dump_is_read_back}
use Rattle.pgs_run_laws.proofs.Validated.{nothing_told}

module _ (reads : AreReadBack) (input dump : List ℕ) (lost failed : ℕ) (first last old now : View) (recovered : Ran Recover input lost first last) (validated : Ran Validate dump failed old now) where
  abbrev said : Told Status
  said = told_of_areas (areas_of first) told_dump

  pub read_again : IsBytes first.shown.a → IsBytes first.shown.b → IsTrue first.tells_bytes → IsTrue first.tells_output → recovered.status ≡ Accepted
      → last.shown.output ≡ first.shown.output ++ dump → length dump < 2 ^ 40
      → (validated.status ≡ Accepted) × ShowsAll (shown_of old) [] (shown_of now)
  read_again a b tells output accepted out short =
      let shown = shows Recover input lost first last recovered (λ asks. tells) in
      let kept = (promise Recover input lost first last recovered).leaves in
      let all : dump ≡ concat said.pieces =
      append_cancel_left first.shown.output dump (concat said.pieces)
      (sym out ∙ shown_added first last (concat said.pieces) output (kept.passes.tells_output ∙ output) shown.0.output) in
      let is : told_judging AtEnd dump (2 ^ 40) ≡ nothing_told =
      ap (λ (bytes : List ℕ). told_judging AtEnd bytes (2 ^ 40)) all
      ∙ dump_is_read_back reads (areas_of first) (2 ^ 40) a b (shown.1 ∙ accepted) (subst (λ (bytes : List ℕ). length bytes < 2 ^ 40) all short) in
      let taken = shows Validate dump failed old now validated (λ asks. absurd asks) in
      (sym taken.1 ∙ ap (λ (t : Told Status). t.status) is, subst (λ (t : Told Status). ShowsAll (shown_of old) t.pieces (shown_of now)) is taken.0)
