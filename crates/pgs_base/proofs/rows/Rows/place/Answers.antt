use Rattle.std.proofs.Common.{◌≡◌, ◌∙◌, length, subst, rules}
use Rattle.std.specs.List.Sorted.{IsStrictlySortedBy, IsSearchInRange, IsBinarySearchResult}
use Rattle.std.specs.Map.{keys_of}
use Rattle.std.proofs.lemmas.Fn.{always_returns_same}
use Rattle.pgs_base.proofs.Places.{entry_searched}
use Rattle.pgs_base.proofs.rows.Rows.place.Goals as goal

pub returns : goal.returns
returns g c =
    let es = c.args.self.now in
    let same : c.as_slice.result.now ≡ es = c.as_slice.ensures.value ∙ c.self.view_is in
    let ascends = subst (λ l. IsStrictlySortedBy g.K.Ord.cmp (keys_of l)) c.self.view_is c.self.invariant in
    let in_range = subst (λ l. IsSearchInRange c.binary_search_by.result (length l)) same c.binary_search_by.ensures.bound in
    let position = subst (λ l. IsBinarySearchResult (λ e. g.K.Ord.cmp e.0 c.args.key.now) l c.binary_search_by.result) same (c.binary_search_by.ensures.position (λ e. g.K.Ord.cmp e.0 c.args.key.now) (always_returns_same _ _ _ (λ a r f' k. search rules))) in
    entry_searched g.met.K.Ord.total c.args.key.now es ascends c.binary_search_by.result in_range position
