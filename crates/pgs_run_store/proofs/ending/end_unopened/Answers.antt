use Rattle.std.proofs.Common.{refl}
use Rattle.pgs_run_store.proofs.ending.end_unopened.Goals as goal

pub returns-in-Refused-clause-ends : goal.returns-in-Refused-clause-ends
returns-in-Refused-clause-ends g c = rw c.in-Refused.is c.put_reply.ensures.ends

pub returns-in-DiskFault-clause-ends : goal.returns-in-DiskFault-clause-ends
returns-in-DiskFault-clause-ends g c = rw c.in-DiskFault.is (refl, record { shown = refl; faults = refl })

pub returns-in-Memory-clause-ends : goal.returns-in-Memory-clause-ends
returns-in-Memory-clause-ends g c = rw c.in-Memory.is (refl, record { shown = refl; faults = refl })
