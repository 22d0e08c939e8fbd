-- How many look-ups are taken for each of several elements, and for all.
use Rattle.std.proofs.Common.{ℕ, ◌+◌, ◌*◌, ◌^◌, ◌≤◌, arith}
use Rattle.std.proofs.Math.Nat.{mul-le-mul_left, mul-le-mul_right}
use Rattle.pgs_match.proofs.Costs.{one_at_least}

-- one look-up for each, and a search for the first of them
pub searched : (n i d w before listed now : ℕ) → i ≤ n → listed ≤ before + n → now ≤ listed + i * (16 * (d + 2) ^ (w + 1)) → now ≤ before + n * (17 * (d + 2) ^ (w + 1))
searched n i d w before listed now some all each =
    let once = mul-le-mul_left n (one_at_least d (w + 1)) in
    let most = mul-le-mul_right (16 * (d + 2) ^ (w + 1)) some in
    omega arith

-- a search for each of the first of several elements
pub some_searched : (n i rate before now : ℕ) → i ≤ n → now ≤ before + i * rate → now ≤ before + n * rate
some_searched n i rate before now some each = let most = mul-le-mul_right rate some in omega arith
