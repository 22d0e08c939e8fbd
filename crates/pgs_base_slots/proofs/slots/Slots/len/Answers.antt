use Rattle.std.proofs.Common.{subst, arith}
use Rattle.std.specs.List.Sorted.{IsStrictlySortedBy}
use Rattle.std.specs.Map.{keys_of}
use Rattle.pgs_base_slots.specs.Slots.{present}
use Rattle.pgs_base_slots.proofs.Present.{count-present, ascending-present}
use Rattle.pgs_base_slots.proofs.slots.Slots.len.Goals as goal

pub returns-clause-small : goal.returns-clause-small
returns-clause-small g c =
    let most = count-present c.self.inside.slots.entries in
    omega (arith, c.self.invariant, c.len-slots.ensures.small)

pub returns-clause-ascending : goal.returns-clause-ascending
returns-clause-ascending g c =
    subst (λ s. IsStrictlySortedBy g.K.Ord.cmp (keys_of (present s))) c.self.view_is (ascending-present g.K.Ord.cmp c.self.inside.slots.entries c.len-slots.ensures.ordered)
