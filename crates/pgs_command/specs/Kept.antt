-- A command that uses no area: both are as they were, and so are the feeds. Nothing is left open in what it tells.
use Rattle.std.specs.Prelude.{◌≡◌, ℕ, Bool, false, List, []}
use Rattle.pgs_run_lines.specs.AreasKept.{KeepsAreas}
use Rattle.pgs_run_lines.specs.Machine.{Told}
use Rattle.pgs_command.specs.declared.status.Status.{Status}
use Rattle.pgs_command.specs.Spec.{CommandSpec}

abbrev pub without_areas : (reads_source : Bool) → (MayEnd : Status → Type 0) → (told : List ℕ → ℕ → Told Status) → CommandSpec
without_areas reads_source MayEnd told = record {
  Choice = Unit {0};
  told = λ choice input areas bytes lost. told input bytes;
  IsRight = λ choice old budget status. Unit {0};
  reads_source = reads_source;
  uses_areas = false;
  AsksAreas = λ input. ⊥;
  MayEnd = MayEnd;
  ReadsInVain = λ old status. ⊥;
  Leaves = λ old new status. KeepsAreas old.view new.view;
  Feeds = λ old new status. new.places ≡ old.places;
  Gives = λ old new status deliveries. deliveries ≡ [];
}
