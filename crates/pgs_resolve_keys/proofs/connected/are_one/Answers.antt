use Rattle.std.proofs.Common.{sym, arith}
use Rattle.pgs_resolve_keys.proofs.Unions.{one_group}
use Rattle.pgs_resolve_keys.proofs.connected.are_one.Goals as goal

pub returns : goal.returns
returns c groups keep =
    sym (one_group groups c.args.parents.now keep c.requires (λ i h some own. c.loop-number.invariant i (omega (arith, h)) some own))
