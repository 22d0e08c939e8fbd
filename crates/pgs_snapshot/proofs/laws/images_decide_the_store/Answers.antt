use Rattle.pgs_snapshot.proofs.Stores.{images_decide}
use Rattle.pgs_snapshot.proofs.laws.images_decide_the_store.Goals as goal

pub returns : goal.returns
returns c = images_decide
