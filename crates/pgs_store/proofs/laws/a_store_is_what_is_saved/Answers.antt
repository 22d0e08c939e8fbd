use Rattle.std.proofs.Common.{◌∙◌, ap}
use Rattle.pgs_snapshot.specs.Choice.{area_chosen, epoch_chosen, next_chosen}
use Rattle.pgs_snapshot.specs.Choice as choices
use Rattle.pgs_store.proofs.Replaying.{chosen_saves}
use Rattle.pgs_store.proofs.laws.a_store_is_what_is_saved.Goals as goal

pub returns-clause-saved : goal.returns-clause-saved
returns-clause-saved c = λ guard journal triple is.
    chosen_saves guard.limits triple.a triple.b (choices.chosen journal.area journal.epoch journal.end journal.next is.0) is.1.has.choice ∙ is.1.saves

pub returns-clause-area : goal.returns-clause-area
returns-clause-area c = λ guard journal triple is. ap area_chosen is.1.has.choice

pub returns-clause-epoch : goal.returns-clause-epoch
returns-clause-epoch c = λ guard journal triple is. ap epoch_chosen is.1.has.choice

pub returns-clause-next : goal.returns-clause-next
returns-clause-next c = λ guard journal triple is. ap next_chosen is.1.has.choice
