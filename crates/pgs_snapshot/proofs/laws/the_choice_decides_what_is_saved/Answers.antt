use Rattle.std.proofs.Common.{refl, ap}
use Rattle.pgs_snapshot.specs.Saved.{saved, saved_by}
use Rattle.pgs_snapshot.proofs.laws.the_choice_decides_what_is_saved.Goals as goal

pub returns-clause-choice : goal.returns-clause-choice
unfolding saved
returns-clause-choice c = λ limits a b. refl

pub returns-clause-store : goal.returns-clause-store
unfolding saved
returns-clause-store c = λ limits area epoch end next payloads triple has. ap (saved_by limits) has.choice
