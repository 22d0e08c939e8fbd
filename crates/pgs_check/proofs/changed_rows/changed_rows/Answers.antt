use Rattle.std.proofs.Common.{length}
use Rattle.pgs_check_affected.specs.Touched.{touched}
use Rattle.pgs_check_affected.proofs.Touching.{own_fewer}
use Rattle.pgs_check.proofs.Costly.{local_owned}
use Rattle.pgs_check.proofs.changed_rows.changed_rows.Goals as goal

pub returns-then-is_local-clause-owned : goal.returns-then-is_local-clause-owned
returns-then-is_local-clause-owned g c = λ index edges most within sparse.
    let change = c.args.change.now in
    local_owned (λ rows. rows.items) c.local_rows.result index c.args.number c.args.steps.now most edges (length change.elems) (length (touched change.before change.elems))
    (own_fewer change.before change.elems) c.local_rows.ensures.few
