-- Sums and products up to a cap: capping the parts first changes nothing.
use Rattle.std.proofs.Common.{◌≡◌, ℕ, ◌+◌, ◌*◌, ◌<◌, ◌≤◌, nat_lt, arith, sym, ◌∙◌, ap, ⊎_elim}
use Rattle.std.proofs.Math.Nat.{mul-le-mul, mul-zero, mul_comm}
use Rattle.std.proofs.lemmas.Bool.{cases_lt}
use Rattle.std.proofs.lemmas.Bool.Decides.{nat_tests}
use Rattle.pgs_syntax.specs.Width.{Width, both, either, or_none}
use Rattle.pgs_width.specs.declared.capped.CappedWidth.{CappedWidth}
use Rattle.pgs_width.specs.Capped.{capped, capped_width}

pub capped_again : (x : ℕ) → capped (capped x) ≡ capped x
capped_again x = omega arith

pub sum_capped : (x y : ℕ) → capped (capped x + capped y) ≡ capped (x + y)
sum_capped x y = omega arith

-- a product of which one factor reaches the cap and the other isn't 0
past : (x y : ℕ) → 4194305 ≤ x → 1 ≤ y → 4194305 ≤ x * y
past x y p q = let e : 4194305 * 1 ≤ x * y = mul-le-mul p q in e

first_past : (x y : ℕ) → 4194305 < x → capped (capped x * capped y) ≡ capped (x * y)
first_past x y big = ⊎_elim some none (cases_lt 0 y)
  where
    some : 0 < y → capped (capped x * capped y) ≡ capped (x * y)
    some there = let e = past x y (omega arith) (omega arith) in let f = past (capped x) (capped y) (omega arith) (omega arith) in omega (arith, e, f)

    none : y ≤ 0 → capped (capped x * capped y) ≡ capped (x * y)
    none gone =
        let no : y ≡ 0 = omega arith in
        let no_too : capped y ≡ 0 = omega arith in
        ap (λ n. capped (capped x * n)) no_too ∙ ap capped (mul-zero (capped x) ∙ sym (mul-zero x)) ∙ ap (λ n. capped (x * n)) (sym no)

pub product_capped : (x y : ℕ) → capped (capped x * capped y) ≡ capped (x * y)
product_capped x y = ⊎_elim (first_past x y) (λ small. ⊎_elim second (within small) (cases_lt 4194305 y)) (cases_lt 4194305 x)
  where
    second : 4194305 < y → capped (capped x * capped y) ≡ capped (x * y)
    second big = ap capped (mul_comm (capped x) (capped y)) ∙ first_past y x big ∙ ap capped (mul_comm y x)

    within : x ≤ 4194305 → y ≤ 4194305 → capped (capped x * capped y) ≡ capped (x * y)
    within small small_too =
        let e : capped x ≡ x = omega arith in
        let f : capped y ≡ y = omega arith in
        ap (λ n. capped (n * capped y)) e ∙ ap (λ n. capped (x * n)) f

abbrev of : ℕ → ℕ → CappedWidth
of count weight = record { count = count; weight = weight }

pub both_capped : (a b : CappedWidth) (count weight : ℕ) (x y : Width) → a ≡ capped_width x → b ≡ capped_width y →
    count ≡ capped (a.count * b.count) → weight ≡ capped (a.weight + b.weight) → of count weight ≡ capped_width (both x y)
both_capped a b count weight x y p q r s =
    ap (λ n. of n weight) (r ∙ ap (λ w. capped (w.count * b.count)) p ∙ ap (λ w. capped (capped x.count * w.count)) q ∙ product_capped x.count y.count)
    ∙ ap (λ n. of (capped (x.count * y.count)) n) (s ∙ ap (λ w. capped (w.weight + b.weight)) p ∙ ap (λ w. capped (capped x.weight + w.weight)) q ∙ sum_capped x.weight y.weight)

pub either_capped : (a b : CappedWidth) (count weight : ℕ) (x y : Width) → a ≡ capped_width x → b ≡ capped_width y →
    count ≡ capped (a.count + b.count) → weight ≡ capped (a.weight + b.weight) → of count weight ≡ capped_width (either x y)
either_capped a b count weight x y p q r s =
    ap (λ n. of n weight) (r ∙ ap (λ w. capped (w.count + b.count)) p ∙ ap (λ w. capped (capped x.count + w.count)) q ∙ sum_capped x.count y.count)
    ∙ ap (λ n. of (capped (x.count + y.count)) n) (s ∙ ap (λ w. capped (w.weight + b.weight)) p ∙ ap (λ w. capped (capped x.weight + w.weight)) q ∙ sum_capped x.weight y.weight)

pub or_none_capped : (a : CappedWidth) (count : ℕ) (x : Width) → a ≡ capped_width x → count ≡ capped (a.count + 1) → of count a.weight ≡ capped_width (or_none x)
or_none_capped a count x p r =
    ap (λ n. of n a.weight) (r ∙ ap (λ w. capped (w.count + 1)) p ∙ sum_capped x.count 1) ∙ ap (λ w. of (capped (x.count + 1)) w.weight) p

-- a limit below the cap is passed by the capped number where the number passes it
pub test_capped : (limit x : ℕ) → limit < 4194305 → nat_lt limit (capped x) ≡ nat_lt limit x
test_capped limit x low = grind (arith, nat_tests)
