use Rattle.pgs_snapshot.proofs.Histories.{rejected_txn_is_told, rejected_schema_is_told}
use Rattle.pgs_snapshot.proofs.laws.a_rejected_record_is_told.Goals as goal

pub returns-clause-txn : goal.returns-clause-txn
returns-clause-txn c = rejected_txn_is_told

pub returns-clause-schema : goal.returns-clause-schema
returns-clause-schema c = rejected_schema_is_told
