use Rattle.std.proofs.Common.{refl}
use Rattle.pgs_journal.proofs.Fits.{schema_first, schema_too_late, snapshot_too_late}
use Rattle.pgs_journal.specs.declared.format.Format.TheVariants.{First, Second}
use Rattle.pgs_journal.proofs.samples.damaged.Goals as goal

pub returns-clause-cut_short : goal.returns-clause-cut_short
returns-clause-cut_short c = rw (schema_first First) refl

pub returns-clause-no_gate_behind : goal.returns-clause-no_gate_behind
returns-clause-no_gate_behind c = rw (schema_first First) refl

pub returns-clause-too_many_commits : goal.returns-clause-too_many_commits
returns-clause-too_many_commits c = rw (schema_first First, snapshot_too_late) refl

pub returns-clause-later_schema : goal.returns-clause-later_schema
returns-clause-later_schema c = rw (schema_first First, schema_too_late) refl

pub returns-clause-second_cut_short : goal.returns-clause-second_cut_short
returns-clause-second_cut_short c = rw (schema_first Second) refl

pub returns-clause-another_number : goal.returns-clause-another_number
returns-clause-another_number c = rw (schema_first Second) refl
