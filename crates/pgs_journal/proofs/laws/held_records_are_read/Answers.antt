use Rattle.std.proofs.Common.{ℕ, ◌≤◌, IsTrue, arith}
use Rattle.std.proofs.lemmas.Bool.Decides.{nat_tests}
use Rattle.pgs_journal.specs.Format.{is_epoch}
use Rattle.pgs_journal.proofs.Written.{holds-read}
use Rattle.pgs_journal.proofs.laws.held_records_are_read.Goals as goal

below : (epoch : ℕ) → IsTrue (is_epoch epoch) → epoch ≤ 16777215
below epoch numbered = grind (arith, nat_tests)

pub returns : goal.returns
returns c = λ epoch end next payloads image holds small some fit.
    holds-read next epoch payloads end image holds (omega (arith, small)) (omega (arith, below epoch holds.numbered)) some fit
