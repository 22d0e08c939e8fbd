use Rattle.std.proofs.Common.{arith}
use Rattle.pgs_resolve_keys.proofs.Unions.{alone_keep}
use Rattle.pgs_resolve_keys.proofs.connected.alone.Goals as goal

pub returns-clause-groups : goal.returns-clause-groups
returns-clause-groups c =
    alone_keep c.args.edge_vars.now c.loop-number.parents.items (omega arith) (λ k h. c.loop-number.invariant.1 k (omega (arith, h)))
