use Rattle.std.proofs.Common.{arith, sym}
use Rattle.pgs_json.proofs.Numerals.{number_of_digits}
use Rattle.pgs_json.proofs.numeral.whole_number.Goals as goal

pub returns-then-count-bytes : goal.returns-then-count-bytes
returns-then-count-bytes c =
    number_of_digits c.args.bytes.now c.in_ok-number.number c.in_ok-number.count (sym c.in_ok-number.ensures.value) (omega (arith, c.if-count-gt0.true))
    (omega (arith, c.if-count-bytes.true))
