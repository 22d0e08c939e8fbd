use Rattle.std.proofs.Common.{◌∷◌, [], Some, sym, ◌∙◌}
use Rattle.pgs_snapshot.proofs.Fitness.{checkpoint_fit}
use Rattle.pgs_snapshot.proofs.Stores.{same_other, checkpoint_left, next_chosen}
use Rattle.pgs_snapshot.proofs.laws.checkpoints_keep_a_store.Goals as goal

pub returns-clause-stops : goal.returns-clause-stops
returns-clause-stops c = λ area epoch end next payloads text first second commits size nodes edges old new has one two within small turns.
    checkpoint_left area epoch end size next payloads (first ∷ second ∷ []) old new has (checkpoint_fit epoch first second text commits nodes edges one two within) small turns

pub returns-clause-done : goal.returns-clause-done
returns-clause-done c = λ area epoch end next payloads text first second commits size nodes edges old new has one two within small holds same.
    next_chosen area epoch end size next (Some 3) payloads (first ∷ second ∷ []) old new has (sym (same_other area new) ∙ same.beside ∙ same_other area old) holds
    (checkpoint_fit epoch first second text commits nodes edges one two within) small
