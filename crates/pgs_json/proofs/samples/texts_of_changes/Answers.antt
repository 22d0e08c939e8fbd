use Rattle.std.proofs.Common.{refl}
use Rattle.std.specs.Fmt.{digits}
use Rattle.pgs_json.specs.Canonical.{text_of_txn}
use Rattle.pgs_base_text.specs.Text.{quoted}
use Rattle.pgs_json.proofs.samples.texts_of_changes.Goals as goal

pub returns-clause-nodes : goal.returns-clause-nodes
unfolding digits quoted text_of_txn
returns-clause-nodes c = refl

pub returns-clause-edges : goal.returns-clause-edges
unfolding digits quoted text_of_txn
returns-clause-edges c = refl
