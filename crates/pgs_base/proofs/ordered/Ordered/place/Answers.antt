use Rattle.std.proofs.Common.{◌≡◌, ◌∙◌, length, subst}
use Rattle.std.specs.List.Sorted.{IsStrictlySortedBy, IsSearchInRange, IsBinarySearchResult}
use Rattle.pgs_base.proofs.Places.{key_searched}
use Rattle.pgs_base.proofs.ordered.Ordered.place.Goals as goal

pub returns : goal.returns
returns g c =
    let ks = c.args.self.now in
    let same : c.as_slice.result.now ≡ ks = c.as_slice.ensures.value ∙ c.self.view_is in
    let ascends = subst (IsStrictlySortedBy g.K.Ord.cmp) c.self.view_is c.self.invariant in
    let in_range = subst (λ l. IsSearchInRange c.binary_search.result (length l)) same c.binary_search.ensures.bound in
    let position = subst (λ l. IsBinarySearchResult (λ y. g.K.Ord.cmp y c.args.key.now) l c.binary_search.result) same c.binary_search.ensures.position in
    key_searched g.met.K.Ord.total c.args.key.now ks ascends c.binary_search.result in_range position
