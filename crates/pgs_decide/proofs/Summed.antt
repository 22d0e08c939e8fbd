-- The parts of a decision sum up to its bound.
use Rattle.std.proofs.Common.{◌≡◌, ℕ, ◌+◌, ◌*◌, ◌^◌, ◌≤◌, ◌∙◌, ap, arith}
use Rattle.std.proofs.Math.Nat.{pow-zero, pow-succ', pow-le-pow_right, mul-le-mul, mul-le-mul_right}

-- a power of a number that is at least 2
degree_power : (most edges : ℕ) → most + 2 ≤ (most + 2) ^ (2 * edges + 2)
degree_power most edges =
    let one : (most + 2) ^ 1 ≡ (most + 2) * 1 = pow-succ' (most + 2) 0 ∙ ap (λ n. (most + 2) * n) (pow-zero (most + 2)) in
    let more : (most + 2) ^ 1 ≤ (most + 2) ^ (2 * edges + 2) = pow-le-pow_right {n = most + 2} (omega arith) (omega arith) in
    omega arith

-- one part: c of what is counted by s, with d look-ups each
part : (c s d x q : ℕ) → c ≤ s → d ≤ x → 16 * c * d ≤ 16 * ((q + 1) * s * x)
part c s d x q fewer less =
    let each : c * d ≤ s * x = mul-le-mul fewer less in
    let more : 1 * (s * x) ≤ (q + 1) * (s * x) = mul-le-mul_right (s * x) (omega arith) in
    omega arith

-- the check of k keys and u elements
check_part : (k u s x q : ℕ) → k ≤ q → u + 1 ≤ s → 3072 * (k + 1) * (u + 1) * x ≤ 3072 * ((q + 1) * s * x)
check_part k u s x q keys fewer =
    let both : (k + 1) * (u + 1) ≤ (q + 1) * s = mul-le-mul (omega arith) fewer in
    let all : (k + 1) * (u + 1) * x ≤ (q + 1) * s * x = mul-le-mul_right x both in
    omega arith

module _ (most edges q n t : ℕ) where
  abbrev pub bound : ℕ
  bound = 4096 * (q + 1) * (n + t + 1) * (most + 2) ^ (2 * edges + 2)

  pub staged_only : (start after : ℕ) → after ≤ start + 16 * (n + 1) * (most + 2) → after ≤ start + bound
  staged_only start after one =
      let first = part (n + 1) (n + t + 1) (most + 2) ((most + 2) ^ (2 * edges + 2)) q (omega arith) (degree_power most edges) in
      omega arith

  pub all_parts : (m k u : ℕ) → m ≤ t → k ≤ q → u ≤ t → (start staged after : ℕ) → staged ≤ start + 16 * (n + 1) * (most + 2) →
      after ≤ staged + (16 * (m + 1) * (most + 2) + 3072 * (k + 1) * (u + 1) * (most + 2) ^ (2 * edges + 2)) → after ≤ start + bound
  all_parts m k u rows keys elems start staged after one two =
      let x = (most + 2) ^ (2 * edges + 2) in
      let first = part (n + 1) (n + t + 1) (most + 2) x q (omega arith) (degree_power most edges) in
      let second = part (m + 1) (n + t + 1) (most + 2) x q (omega arith) (degree_power most edges) in
      let third = check_part k u (n + t + 1) x q keys (omega arith) in
      omega arith
