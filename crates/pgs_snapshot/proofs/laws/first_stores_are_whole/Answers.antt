use Rattle.std.proofs.Common.{◌∷◌, [], Some}
use Rattle.pgs_snapshot.proofs.Fitness.{first_fit}
use Rattle.pgs_snapshot.proofs.Stores.{first_left, first_chosen}
use Rattle.pgs_snapshot.proofs.laws.first_stores_are_whole.Goals as goal

pub returns-clause-stops : goal.returns-clause-stops
returns-clause-stops c = λ payload text end old new none is small turns. first_left (payload ∷ []) end old new none (first_fit 1 payload text is) small turns

pub returns-clause-done : goal.returns-clause-done
returns-clause-done c = λ payload text end old new none is small holds same. first_chosen (Some 2) (payload ∷ []) end old new none holds (first_fit 1 payload text is) small same
