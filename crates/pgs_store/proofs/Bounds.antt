-- How many commits a store may have.
use Rattle.std.proofs.Common.{ℕ, ◌+◌, ◌-◌, ◌*◌, ◌^◌, ◌<◌, ◌≤◌, IsTrue, arith}
use Rattle.std.proofs.lemmas.Bool.Decides.{nat_tests}
use Rattle.pgs_journal.specs.Format.{is_epoch}

at_most : (epoch : ℕ) → IsTrue (is_epoch epoch) → epoch ≤ 16777215
at_most epoch numbered = grind (arith, nat_tests)

pub room : (epoch end commits : ℕ) → IsTrue (is_epoch epoch) → end < 2 ^ 40 → commits ≤ (epoch - 1) * 2 ^ 40 + end → commits < 18446744073709551615
room epoch end commits numbered below most = let last = at_most epoch numbered in omega (arith, last, below, most)
