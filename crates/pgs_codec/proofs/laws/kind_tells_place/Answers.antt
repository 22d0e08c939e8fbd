use Rattle.pgs_codec.proofs.Walked.{schema_by_kind, txn_by_kind, snapshot_by_kind}
use Rattle.pgs_codec.proofs.laws.kind_tells_place.Goals as goal

pub returns-clause-schema : goal.returns-clause-schema
returns-clause-schema c = schema_by_kind

pub returns-clause-txn : goal.returns-clause-txn
returns-clause-txn c = txn_by_kind

pub returns-clause-snapshot : goal.returns-clause-snapshot
returns-clause-snapshot c = snapshot_by_kind
