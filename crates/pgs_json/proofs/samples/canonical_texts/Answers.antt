use Rattle.std.proofs.Common.{refl}
use Rattle.std.specs.Fmt.{digits}
use Rattle.pgs_json.specs.Canonical.{text_of_txn}
use Rattle.pgs_base_text.specs.Text.{quoted}
use Rattle.pgs_json.proofs.samples.canonical_texts.Goals as goal

pub returns-clause-nothing : goal.returns-clause-nothing
unfolding digits quoted text_of_txn
returns-clause-nothing c = refl

pub returns-clause-feed : goal.returns-clause-feed
unfolding digits quoted text_of_txn
returns-clause-feed c = refl

pub returns-clause-second : goal.returns-clause-second
unfolding digits quoted text_of_txn
returns-clause-second c = refl

pub returns-clause-edge : goal.returns-clause-edge
unfolding digits quoted text_of_txn
returns-clause-edge c = refl

pub returns-clause-day : goal.returns-clause-day
unfolding digits quoted text_of_txn
returns-clause-day c = refl

pub returns-clause-early_day : goal.returns-clause-early_day
unfolding digits quoted text_of_txn
returns-clause-early_day c = refl

pub returns-clause-pairs : goal.returns-clause-pairs
unfolding digits quoted text_of_txn
returns-clause-pairs c = refl

pub returns-clause-escapes : goal.returns-clause-escapes
unfolding digits quoted text_of_txn
returns-clause-escapes c = refl
