use Rattle.std.proofs.Common.{rules, [], ◌∷◌, Ordering}
use Rattle.std.specs.List.Sorted.{IsStrictlySortedBy}
use Rattle.pgs_base.proofs.tuple_set.TupleSet.as_slice.Goals as goal

one_ascends : {K : Type 0} (cmp : K → K → Ordering) (key : K) → IsStrictlySortedBy cmp (key ∷ [])
unfolding IsStrictlySortedBy
one_ascends cmp key = (tt, tt)

pub returns-in-One-clause-ascending : goal.returns-in-One-clause-ascending
returns-in-One-clause-ascending c = search (rules, one_ascends)
