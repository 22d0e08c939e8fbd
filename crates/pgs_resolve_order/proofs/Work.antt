-- What there is left to do in a search, as marks are set.
use Rattle.std.proofs.Common.{◌≡◌, ℕ, zero, suc, ◌+◌, ◌<◌, ◌≤◌, ◌==◌, true, false, List, [], ◌∷◌, length, get_or, set, arith}
use Rattle.std.proofs.lemmas.Bool.Decides.{nat_tests}
use Rattle.pgs_resolve_order.specs.Links.{row_at}
use Rattle.pgs_resolve_order.specs.Searching.{unseen_work}

-- what isn't the default is within
pub within : (marks : List ℕ) (k d : ℕ) → 0 < d → get_or marks k d ≡ 0 → k < length marks
within [] k d h e = absurd (omega (arith, e, h))
within (mark ∷ marks) zero d h e = omega arith
within (mark ∷ marks) (suc k) d h e = let i = within marks k d h e in omega (arith, i)

-- a mark other than 0 adds no work
pub no_more : (rows : List (List ℕ)) (marks : List ℕ) (k m : ℕ) → 0 < m → unseen_work rows (set marks k m) ≤ unseen_work rows marks
no_more [] marks k m h = omega arith
no_more (row ∷ rows) [] k m h = omega arith
no_more (row ∷ rows) (mark ∷ marks) zero m h = let e : (m == 0) ≡ false = grind (arith, nat_tests) in rw e (omega arith)
no_more (row ∷ rows) (mark ∷ marks) (suc k) m h = let i = no_more rows marks k m h in omega (arith, i)

-- and takes off that of a number that wasn't seen
pub less : (rows : List (List ℕ)) (marks : List ℕ) (k m d : ℕ) → 0 < m → length marks ≡ length rows → k < length marks → get_or marks k d ≡ 0 →
    unseen_work rows (set marks k m) + (2 + length (row_at rows k)) ≡ unseen_work rows marks
less [] marks k m d h len l e = absurd (omega (arith, len, l))
less (row ∷ rows) [] k m d h len l e = absurd (omega (arith, l))
less (row ∷ rows) (mark ∷ marks) zero m d h len l e =
    let f : (m == 0) ≡ false = grind (arith, nat_tests) in
    let g : (mark == 0) ≡ true = grind (arith, nat_tests) in
    rw (f, g) (omega arith)
less (row ∷ rows) (mark ∷ marks) (suc k) m d h len l e = let i = less rows marks k m d h (omega (arith, len)) (omega (arith, l)) e in omega (arith, i)
