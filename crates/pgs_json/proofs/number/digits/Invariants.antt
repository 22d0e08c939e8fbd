use Rattle.std.proofs.Common.{◌≡◌, ◌<◌, ◌^◌, drop}
use Rattle.pgs_json.proofs.Digits.{found_on}
use Rattle.pgs_json.proofs.number.digits.Given as goal

abbrev pub invariant-loop-count : goal.invariant-loop-count
invariant-loop-count l = (l.number < 2 ^ 64) × (found_on l.count l.number (drop l.count l.bytes) ≡ found_on 0 0 l.bytes)
