use Rattle.std.proofs.Common.{◌++◌, ◌∷◌, [], ◌+◌, length}
use Rattle.pgs_codec.specs.Frame.{framed}
use Rattle.pgs_snapshot.proofs.Fitness.{more_fit}
use Rattle.pgs_snapshot.proofs.Stores.{are_fit, append_left, one_longer}
use Rattle.pgs_snapshot.proofs.laws.appends_keep_the_choice.Goals as goal

pub returns-clause-stops : goal.returns-clause-stops
returns-clause-stops c = λ area epoch end next payloads payload old new has is small turns.
    append_left area epoch end next payloads payload old new has (more_fit next epoch payloads payload (are_fit area epoch end next payloads old has) is) small turns

pub returns-clause-done : goal.returns-clause-done
returns-clause-done c = λ area epoch end next payloads payload old new has is small holds same.
    one_longer area epoch end (end + length (framed next payload)) next payloads (payloads ++ payload ∷ []) old new has holds (more_fit next epoch payloads payload (are_fit area epoch end next payloads old has) is) small same.beside
