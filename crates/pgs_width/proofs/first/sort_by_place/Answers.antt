use Rattle.std.proofs.Common.{rules}
use Rattle.std.proofs.lemmas.List.Sorted.{IsNonDecreasingBy-from_sort_by_key}
use Rattle.pgs_width.specs.declared.sized.SizedType.{SizedType}
use Rattle.pgs_width.proofs.first.sort_by_place.Goals as goal

pub returns-clause-sorted : goal.returns-clause-sorted
returns-clause-sorted c =
    IsNonDecreasingBy-from_sort_by_key (λ (type : SizedType). type.place) _ c.in_ok-sort_by_key.ensures.sorted (λ a r q k. search rules)
