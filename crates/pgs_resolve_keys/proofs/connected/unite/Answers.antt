use Rattle.std.proofs.Common.{inl, inr, arith}
use Rattle.pgs_resolve_keys.proofs.Unions.{united}
use Rattle.pgs_resolve_keys.proofs.connected.unite.Goals as goal

pub returns-then-one-other-clause-groups : goal.returns-then-one-other-clause-groups
returns-then-one-other-clause-groups c groups keep =
    let one = c.find-one.ensures.groups groups keep in
    let other = c.find-other.ensures.groups groups one.0 in
    united groups c.find-other.new.parents other.0 c.args.a c.args.b c.find-other.result c.find-one.result
    (omega arith) (omega arith) c.find-other.ensures.own (c.find-other.ensures.others c.find-one.result c.find-one.ensures.own) (inr (other.1, one.1)) c.find-other.ensures.parents

pub returns-else-one-other-clause-groups : goal.returns-else-one-other-clause-groups
returns-else-one-other-clause-groups c groups keep =
    let one = c.find-one.ensures.groups groups keep in
    let other = c.find-other.ensures.groups groups one.0 in
    united groups c.find-other.new.parents other.0 c.args.a c.args.b c.find-one.result c.find-other.result
    (omega arith) (omega arith) (c.find-other.ensures.others c.find-one.result c.find-one.ensures.own) c.find-other.ensures.own (inl (one.1, other.1)) c.find-other.ensures.parents
