-- The command `evolve` over a saved store. Its answers to the types of the saved schema are free, as long as they are right, and so is which place
-- of a refused text is told. No area is written.
use Rattle.std.specs.Prelude.{◌≡◌, ℕ, true, List, [], IsTrue}
use Rattle.pgs_base.specs.Graph.{Graph}
use Rattle.pgs_command.specs.Answers.{IsOfCommand}
use Rattle.pgs_command.specs.Images.{KeepsImages}
use Rattle.pgs_command.specs.Spec.{CommandSpec}
use Rattle.pgs_snapshot.specs.Saved.{saved, store}
use Rattle.pgs_run_input.specs.Session.{standard}
use Rattle.pgs_run_check_evolve.specs.Stored.{AnswersStored, told_evolve_store}
use Rattle.pgs_run_check_evolve.specs.Told.{Chosen}

-- It has nothing to read its source for where the areas save no store.
abbrev pub check_evolve_store_spec : CommandSpec
check_evolve_store_spec = record {
  Choice = Chosen;
  told = λ chosen input areas bytes lost. told_evolve_store chosen input areas bytes;
  IsRight = AnswersStored;
  reads_source = true;
  uses_areas = true;
  AsksAreas = λ input. Unit {0};
  MayEnd = IsOfCommand;
  ReadsInVain = λ old status. IsTrue old.view.tells_bytes
      × ((text : List ℕ) (commits : ℕ) (graph : Graph) → saved standard old.view.shown.a old.view.shown.b ≡ store text commits graph → ⊥);
  Leaves = λ old new status. KeepsImages old.view new.view;
  Feeds = λ old new status. new.places ≡ old.places;
  Gives = λ old new status deliveries. deliveries ≡ [];
}
