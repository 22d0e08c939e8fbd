-- The front of an area that was not changed since its last sync.
use Rattle.std.proofs.Common.{◌≡◌, ℕ, zero, suc, ◌+◌, ◌≤◌, List, [], ◌∷◌, ◌++◌, length, take, drop, refl, sym, ◌∙◌, ap, arith, Some, length-append, length-take}
use Rattle.std.specs.declared.option.Option.{Option}
use Rattle.std.proofs.lemmas.List.{take-take, take-append-le}
use Rattle.pgs_world.specs.Disk.{written_over}
use Rattle.pgs_world.specs.Held.{blotted, all_kept}

pub same_take : (m n : ℕ) (xs ys : List ℕ) → m ≤ n → take n xs ≡ take n ys → take m xs ≡ take m ys
same_take m n xs ys le is = sym (take-take m n xs le) ∙ ap (λ (l : List ℕ). take m l) is ∙ take-take m n ys le

take-all_kept : (n : ℕ) (bytes : List ℕ) → take n (all_kept bytes) ≡ all_kept (take n bytes)
take-all_kept zero bytes = refl
take-all_kept (suc n) [] = refl
take-all_kept (suc n) (x ∷ bytes) = ap (λ (l : List (Option ℕ)). Some x ∷ l) (take-all_kept n bytes)

pub kept_take : (m n : ℕ) (kept : List (Option ℕ)) (bytes : List ℕ) → m ≤ n → take n kept ≡ all_kept (take n bytes) → take m kept ≡ all_kept (take m bytes)
kept_take m n kept bytes le is =
    sym (take-take m n kept le) ∙ ap (λ (l : List (Option ℕ)). take m l) is ∙ take-all_kept m (take n bytes) ∙ ap all_kept (take-take m n bytes le)

pub take-written_over : (m at : ℕ) (bytes piece : List ℕ) → m ≤ at → at ≤ length bytes → take m (written_over bytes at piece) ≡ take m bytes
take-written_over m at bytes piece le within =
    take-append-le m (take at bytes ++ piece) (drop (at + length piece) bytes) (omega (arith, length-append (take at bytes) piece, length-take at bytes))
    ∙ take-append-le m (take at bytes) piece (omega (arith, length-take at bytes))
    ∙ take-take m at bytes le

pub take-blotted : (m at count : ℕ) (kept : List (Option ℕ)) → m ≤ at → take m (blotted at count kept) ≡ take m kept
take-blotted zero at count kept le = refl
take-blotted (suc m) at count [] le = refl
take-blotted (suc m) zero count (k ∷ kept) le = absurd (omega arith)
take-blotted (suc m) (suc at) count (k ∷ kept) le = ap (λ (l : List (Option ℕ)). k ∷ l) (take-blotted m at count kept (omega arith))
