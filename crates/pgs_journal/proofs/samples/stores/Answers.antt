use Rattle.std.proofs.Common.{refl}
use Rattle.pgs_journal.proofs.Fits.{schema_first, schema_of_second, txn_second, snapshot_second}
use Rattle.pgs_journal.specs.declared.format.Format.TheVariants.{First}
use Rattle.pgs_journal.proofs.samples.stores.Goals as goal

pub returns-clause-loaded_read : goal.returns-clause-loaded_read
returns-clause-loaded_read c = rw (schema_first First) refl

pub returns-clause-applied_read : goal.returns-clause-applied_read
returns-clause-applied_read c = rw (schema_first First, txn_second First) refl

pub returns-clause-not_committed : goal.returns-clause-not_committed
returns-clause-not_committed c = rw (schema_first First) refl

pub returns-clause-seven_is_closed : goal.returns-clause-seven_is_closed
returns-clause-seven_is_closed c = rw (schema_first First) refl

pub returns-clause-checkpointed_read : goal.returns-clause-checkpointed_read
returns-clause-checkpointed_read c = rw (schema_of_second First, snapshot_second First) refl
