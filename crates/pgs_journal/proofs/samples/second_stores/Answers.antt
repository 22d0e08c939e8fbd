use Rattle.std.proofs.Common.{refl}
use Rattle.pgs_journal.proofs.Fits.{schema_first, schema_of_second, schema_later, txn_second, snapshot_second}
use Rattle.pgs_journal.specs.declared.format.Format.TheVariants.{Second}
use Rattle.pgs_journal.proofs.samples.second_stores.Goals as goal

pub returns-clause-loaded_read : goal.returns-clause-loaded_read
returns-clause-loaded_read c = rw (schema_first Second) refl

pub returns-clause-applied_read : goal.returns-clause-applied_read
returns-clause-applied_read c = rw (schema_first Second, txn_second Second) refl

pub returns-clause-not_committed : goal.returns-clause-not_committed
returns-clause-not_committed c = rw (schema_first Second) refl

pub returns-clause-checkpointed_read : goal.returns-clause-checkpointed_read
returns-clause-checkpointed_read c = rw (schema_of_second Second, snapshot_second Second) refl

pub returns-clause-evolved_read : goal.returns-clause-evolved_read
returns-clause-evolved_read c = rw (schema_first Second, schema_later) refl
