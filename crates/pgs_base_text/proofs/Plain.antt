-- Bytes that stand in a quoted text as they are.
use Rattle.std.proofs.Common.{◌≡◌, ℕ, ◌≤◌, true, List, [], ◌∷◌, ◌++◌, flat_map, refl, ap₂, arith}
use Rattle.std.specs.List.{list_all}
use Rattle.std.proofs.lemmas.Bool.{and_parts, ne_eqb, le-ltb}
use Rattle.std.proofs.lemmas.Bool.Decides.{nat_tests}
use Rattle.pgs_base_text.specs.Text.{is_plain, escaped}

pub plain_by_range : (b : ℕ) → 32 ≤ b → (b ≡ 34 → ⊥) → (b ≡ 92 → ⊥) → escaped b ≡ b ∷ []
plain_by_range b low quote backslash =
    rw (
      ne_eqb b 34 quote,
      ne_eqb b 92 backslash,
      ne_eqb b 8 (λ e. omega arith),
      ne_eqb b 9 (λ e. omega arith),
      ne_eqb b 10 (λ e. omega arith),
      ne_eqb b 12 (λ e. omega arith),
      ne_eqb b 13 (λ e. omega arith),
      le-ltb b 32 low,
    ) refl

pub plain_byte : (b : ℕ) → is_plain b ≡ true → escaped b ≡ b ∷ []
plain_byte b h = plain_by_range b (grind (arith, nat_tests)) (λ e. grind (arith, nat_tests)) (λ e. grind (arith, nat_tests))

pub plain_bytes : (bs : List ℕ) → list_all is_plain bs ≡ true → flat_map escaped bs ≡ bs
plain_bytes [] h = refl
plain_bytes (b ∷ bs) h =
    let p = and_parts (is_plain b) (list_all is_plain bs) h in
    ap₂ (λ (x y : List ℕ). x ++ y) (plain_byte b p.0) (plain_bytes bs p.1)
