-- The command `evolve`. It has nothing to read its source for where the areas save no store.
use Rattle.std.specs.Prelude.{ℕ, true, List, IsTrue}
use Rattle.pgs_base.specs.Graph.{Graph}
use Rattle.pgs_command.specs.Spec.{CommandSpec}
use Rattle.pgs_run_store.specs.Spec.{over_areas}
use Rattle.pgs_run_renewal.specs.EvolveLeaving.{LeavesEvolved, SavesAs}
use Rattle.pgs_run_renewal.specs.EvolveTold.{told_evolve}

abbrev pub evolve_spec : CommandSpec
evolve_spec = record (
    over_areas true (λ input areas bytes lost. told_evolve input areas bytes) (λ old new status. LeavesEvolved old.source.left old.view new.view status)) {
      ReadsInVain = λ old status. IsTrue old.view.tells_bytes × ((text : List ℕ) (commits : ℕ) (graph : Graph) → SavesAs old.view text commits graph → ⊥);
    }
