-- What a check of one key takes, by the degrees near a change.
use Rattle.std.proofs.Common.{◌≡◌, ℕ, ◌+◌, ◌*◌, ◌^◌, ◌≤◌, sym, ◌∙◌, ap, subst, arith}
use Rattle.std.proofs.Math.Nat.{pow-zero, pow-succ', pow-le-pow_right, mul-le-mul_right, mul-le-mul_left}
use Rattle.std.proofs.lemmas.Nat.{pow-add}

-- powers of a number that is at least 2
pub power_more : (most less more : ℕ) → less ≤ more → (most + 2) ^ less ≤ (most + 2) ^ more
power_more most less more h = pow-le-pow_right {n = most + 2} (omega arith) h

-- one key: the search for elements, their rows and the owners of their key values; z is (most + 2) ^ (edges + 1), a is (most + 2) ^ edges
key_sum : (u a z count searched rows owners : ℕ) → 2 ≤ z → 2 * a ≤ z → searched ≤ 1280 * u * z → count ≤ 80 * u * a → rows ≤ count * (32 * z) → owners ≤ 2 * (count * a) →
    searched + rows + owners ≤ 2048 * u * (z * z)
key_sum u a z count searched rows owners two twice one few each own =
    let uz : u * z * 2 ≤ u * z * z = mul-le-mul_left (u * z) two in
    let rows_most : count * (32 * z) ≤ 80 * u * a * (32 * z) = mul-le-mul_right (32 * z) few in
    let az : u * z * (2 * a) ≤ u * z * z = mul-le-mul_left (u * z) twice in
    let owners_most : count * a ≤ 80 * u * a * a = mul-le-mul_right a few in
    let ua : u * a * (2 * a) ≤ u * a * z = mul-le-mul_left (u * a) twice in
    omega arith

-- a is at least 1, so z is at least 2
module _ (most edges : ℕ) where
  abbrev pub low : ℕ
  low = (most + 2) ^ edges

  abbrev pub high : ℕ
  high = (most + 2) ^ (edges + 1)

  pub one_low : 1 ≤ low
  one_low = subst (λ n. n ≤ (most + 2) ^ edges) (pow-zero (most + 2)) (power_more most 0 edges (omega arith))

  high_is : high ≡ (most + 2) * low
  high_is = ap (λ n. (most + 2) ^ n) (omega arith) ∙ pow-succ' (most + 2) edges

  pub low_twice : 2 * low ≤ high
  low_twice = let is = high_is in let more : 2 * low ≤ (most + 2) * low = mul-le-mul_right low (omega arith) in omega arith

  pub two_high : 2 ≤ high
  two_high = let one = one_low in let twice = low_twice in omega arith

  pub square : high * high ≡ (most + 2) ^ (2 * edges + 2)
  square = sym (pow-add (most + 2) (edges + 1) (edges + 1)) ∙ ap (λ n. (most + 2) ^ n) (omega arith)

  pub degree_high : most + 2 ≤ high
  degree_high = let is = high_is in let more : (most + 2) * 1 ≤ (most + 2) * low = mul-le-mul_left (most + 2) one_low in omega arith

  pub key_most : (u count searched rows owners : ℕ) → searched ≤ 1280 * u * high → count ≤ 80 * u * low → rows ≤ count * (32 * high) → owners ≤ 2 * (count * low) →
      searched + rows + owners ≤ 2048 * u * (most + 2) ^ (2 * edges + 2)
  key_most u count searched rows owners one few each own =
      subst (λ n. searched + rows + owners ≤ 2048 * u * n) square (key_sum u low high count searched rows owners two_high low_twice one few each own)

  -- the whole: types, the rows of the delta, and each key
  pub whole_most : (k u types read keys : ℕ) → types ≤ 4 * u * (most + 2) → read ≤ 2 * u → keys ≤ k * (2048 * u * (most + 2) ^ (2 * edges + 2)) →
      types + read + keys ≤ 3072 * (k + 1) * (u + 1) * (most + 2) ^ (2 * edges + 2)
  whole_most k u types read keys one two each =
      let x = (most + 2) ^ (2 * edges + 2) in
      let high_two = two_high in
      let degree = degree_high in
      let first : most + 2 ≤ high * high = let more : high * 1 ≤ high * high = mul-le-mul_left high (let t = two_high in omega arith) in omega arith in
      let low_x : most + 2 ≤ x = subst (λ n. most + 2 ≤ n) square first in
      let types_most : 4 * u * (most + 2) ≤ 4 * u * x = mul-le-mul_left (4 * u) low_x in
      let read_most : 2 * u * 1 ≤ 2 * u * x = mul-le-mul_left (2 * u) (omega arith) in
      omega arith

-- the edges of a delta, and those at its nodes
pub types_sum : (most nodes edges n e : ℕ) → n ≡ nodes → e ≡ edges → (start changed all : ℕ) → changed ≤ start + 3 * e → all ≤ changed + n * (4 * most + 2) →
    all ≤ start + 4 * (nodes + edges) * (most + 2)
types_sum most nodes edges n e one two start changed all first second =
    let moved : n * (4 * most + 2) ≡ nodes * (4 * most + 2) = ap (λ k. k * (4 * most + 2)) one in
    omega arith
