use Rattle.std.proofs.Common.{ℕ, ◌+◌, ◌<◌, nat_eq, cond, length, get_or, subst, arith}
use Rattle.std.proofs.lemmas.List.Sorted.{sum_by-IsPermutation}
use Rattle.pgs_scratch.proofs.Apart.{once}
use Rattle.pgs_scratch.proofs.marks.are_distinct.Goals as goal

pub returns : goal.returns
returns c = λ rises n.
    let same = sum_by-IsPermutation (λ x. cond (nat_eq n x) 1 0) _ _ c.sort_unstable.ensures.permutation in
    let most = once c.sort_unstable.new.self.items
    (subst (λ xs. (k : ℕ) → k + 1 < length xs → get_or xs k 0 < get_or xs (k + 1) 0) c.as_slice.ensures.value (c.ascend.ensures rises)) n in
    omega arith
