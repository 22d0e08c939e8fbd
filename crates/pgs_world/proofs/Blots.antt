-- Kept bytes forgotten one by one.
use Rattle.std.proofs.Common.{◌≡◌, ℕ, zero, suc, ◌+◌, ◌≤◌, List, [], ◌∷◌, length, set, None, refl, ap, arith, add-one}
use Rattle.std.specs.declared.option.Option.{Option}
use Rattle.pgs_world.specs.Held.{blotted}

blotted_none : (kept : List (Option ℕ)) → blotted 0 0 kept ≡ kept
blotted_none [] = refl
blotted_none (k ∷ kept) = refl

pub blotted_start : (at : ℕ) (kept : List (Option ℕ)) → blotted at 0 kept ≡ kept
blotted_start at [] = refl
blotted_start zero (k ∷ kept) = refl
blotted_start (suc at) (k ∷ kept) = ap (λ (l : List (Option ℕ)). k ∷ l) (blotted_start at kept)

blotted_suc : (at count place : ℕ) (kept : List (Option ℕ)) → at + count ≡ place → set (blotted at count kept) place None ≡ blotted at (suc count) kept
blotted_suc at count place [] is = refl
blotted_suc zero zero zero (k ∷ kept) is = ap (λ (l : List (Option ℕ)). None ∷ l) (sym_none kept)
  where
    sym_none : (l : List (Option ℕ)) → l ≡ blotted 0 0 l
    sym_none [] = refl
    sym_none (x ∷ l) = refl
blotted_suc zero zero (suc place) (k ∷ kept) is = absurd (omega arith)
blotted_suc zero (suc count) zero (k ∷ kept) is = absurd (omega arith)
blotted_suc zero (suc count) (suc place) (k ∷ kept) is = ap (λ (l : List (Option ℕ)). None ∷ l) (blotted_suc zero count place kept (omega arith))
blotted_suc (suc at) count zero (k ∷ kept) is = absurd (omega arith)
blotted_suc (suc at) count (suc place) (k ∷ kept) is = ap (λ (l : List (Option ℕ)). k ∷ l) (blotted_suc at count place kept (omega arith))

pub blotted_more : (at count : ℕ) (kept : List (Option ℕ)) → set (blotted at count kept) (at + count) None ≡ blotted at (count + 1) kept
blotted_more at count kept = rw add-one (blotted_suc at count (at + count) kept refl)

pub blotted_past : (at n m : ℕ) (kept : List (Option ℕ)) → length kept ≤ at + n → length kept ≤ at + m → blotted at n kept ≡ blotted at m kept
blotted_past at n m [] a b = refl
blotted_past zero zero m (k ∷ kept) a b = absurd (omega arith)
blotted_past zero (suc n) zero (k ∷ kept) a b = absurd (omega arith)
blotted_past zero (suc n) (suc m) (k ∷ kept) a b = ap (λ (l : List (Option ℕ)). None ∷ l) (blotted_past zero n m kept (omega arith) (omega arith))
blotted_past (suc at) n m (k ∷ kept) a b = ap (λ (l : List (Option ℕ)). k ∷ l) (blotted_past at n m kept (omega arith) (omega arith))
