-- How often a length can be doubled, and halved.
use Rattle.std.proofs.Common.{◌≡◌, ℕ, zero, suc, ◌+◌, ◌-◌, ◌*◌, ◌/◌, ◌^◌, ◌<◌, ◌≤◌, ap, ◌∙◌, arith, inl, inr}
use Rattle.std.proofs.lemmas.Bool.{cases_lt}
use Rattle.std.proofs.Math.Nat.{pow-suc}
use Rattle.std.proofs.Math.Pow.{pow-lt}

pub below_power : (n : ℕ) → n < 2 ^ n
below_power zero = omega arith
below_power (suc n) = omega (arith, below_power n, pow-suc 2 n)

-- a power that was doubled once more
pub doubled : (r s : ℕ) → s ≡ suc r → 2 ^ s ≡ 2 ^ r * 2
doubled r s e = ap (λ n. 2 ^ n) e ∙ pow-suc 2 r

-- how often a step was doubled, from one place to another in a list
pub doublings : (r k length from place : ℕ) → 2 ^ r + from ≤ place + 1 → place ≤ length → length < 2 ^ k → r ≤ k
doublings r k length from place far within short =
    elim (cases_lt k r) [ inl more ↦ absurd (omega (arith, pow-lt more, far, within, short)) | inr le ↦ le ]

half_below : (e width : ℕ) → 0 < width → width < 2 ^ e → (1 ≤ e) × (width / 2 < 2 ^ (e - 1))
half_below zero width some below = absurd (omega arith)
half_below (suc d) width some below =
    let before : suc d - 1 ≡ d = omega arith in
    (omega arith, rw before (omega (arith, pow-suc 2 d, below)))

-- so many looks were had since the start, and what is left between two places wants no more than the rest of k
pub record IsWithin (k start steps low high : ℕ) : Type 0 where
  pub spent : steps ≤ start + k
  pub left : high < low + 2 ^ (start + k - steps)

-- one look more, for which half is left
pub halved_once : (k start old new low high next_low next_high : ℕ) → IsWithin k start old low high → new ≡ old + 1 → low < high →
    next_high ≤ next_low + (high - low) / 2 → IsWithin k start new next_low next_high
halved_once k start old new low high next_low next_high w tick some half =
    let within = half_below (start + k - old) (high - low) (omega arith) (omega (arith, w.left)) in
    let rest : start + k - new ≡ (start + k - old) - 1 = omega arith in
    record { spent = omega (arith, within.0, w.spent); left = rw rest (omega (arith, within.1, half)) }
