use Rattle.pgs_schema_changes.proofs.Kept.{kept}
use Rattle.pgs_schema_changes.proofs.laws.what_asks_no_more_is_kept.Goals as goal

pub returns : goal.returns
returns c = kept
