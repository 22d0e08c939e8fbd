use Rattle.std.proofs.Common.{◌≡◌, ◌≤◌, true, sym, subst, ◌∙◌, arith}
use Rattle.std.specs.List.{Contains, list_any, sum_by}
use Rattle.std.specs.List.Sorted.{IsStrictlySortedBy}
use Rattle.std.specs.BTreeMap.{is_at}
use Rattle.std.proofs.lemmas.List.Filters.{dedup_is}
use Rattle.std.proofs.lemmas.List.Kept.{Contains-from_dedup, IsStrictlySortedBy-dedup}
use Rattle.std.proofs.lemmas.List.Sorted.{Contains-permutation, IsPermutation-sym, sum_by-IsPermutation}
use Rattle.pgs_match.proofs.Sorting.{kept_once, fewer_once}
use Rattle.pgs_match.proofs.ordered.each_once.Goals as goal

pub returns-clause-kept : goal.returns-clause-kept
returns-clause-kept g c = λ item inside.
    let is = c.from_vec.ensures ∙ dedup_is _ _ _ c.dedup.ensures.filtered in
    subst (λ xs. list_any (is_at (g.T.Ord.cmp item)) xs ≡ true) (sym is)
    (kept_once g.met.T.Ord.total g.met.T.Ord.matches_eq _ item (Contains-permutation _ _ item c.sort_unstable.ensures.permutation inside))

pub returns-clause-no_other : goal.returns-clause-no_other
returns-clause-no_other g c = λ item inside.
    let is = c.from_vec.ensures ∙ dedup_is _ _ _ c.dedup.ensures.filtered in
    Contains-permutation _ _ item (IsPermutation-sym _ _ c.sort_unstable.ensures.permutation) (Contains-from_dedup _ _ item (subst (λ xs. Contains xs item) is inside))

pub returns-clause-ascending : goal.returns-clause-ascending
returns-clause-ascending g c =
    let is = c.from_vec.ensures ∙ dedup_is _ _ _ c.dedup.ensures.filtered in
    subst (IsStrictlySortedBy g.T.Ord.cmp) (sym is) (IsStrictlySortedBy-dedup g.met.T.Ord.total g.met.T.Ord.matches_eq _ c.sort_unstable.ensures.sorted)

pub returns-clause-few : goal.returns-clause-few
returns-clause-few g c = λ count.
    let is = c.from_vec.ensures ∙ dedup_is _ _ _ c.dedup.ensures.filtered in
    let same = sum_by-IsPermutation count _ _ c.sort_unstable.ensures.permutation in
    let less = subst (λ xs. sum_by count xs ≤ sum_by count c.sort_unstable.new.self.items) (sym is) (fewer_once count _ c.sort_unstable.new.self.items) in
    omega (arith, same, less)
