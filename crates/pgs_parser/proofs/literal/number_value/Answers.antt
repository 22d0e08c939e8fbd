use Rattle.std.proofs.Common.{sym, subst}
use Rattle.std.specs.Int.RustNames.{FitsSigned}
use mir.Syntax.{w64}
use Rattle.std.specs.Str.Parse.{signed_digits_value, IsNumeral, without_leading_sign}
use Rattle.pgs_parser.proofs.Digits.{number_utf8, no_number}
use Rattle.pgs_parser.proofs.literal.number_value.Goals as goal

pub returns-in-Err : goal.returns-in-Err
returns-in-Err c = absurd (c.in-Err.ensures.cases.0 (number_utf8 c.args.bytes.now c.requires))

pub returns-in-Err-from_str_radix : goal.returns-in-Err-from_str_radix
returns-in-Err-from_str_radix c =
    sym (no_number c.args.bytes.now c.requires (λ p. c.in-Err-from_str_radix.ensures.value (
    subst (λ bs. IsNumeral 10 (without_leading_sign bs) × FitsSigned w64 (signed_digits_value 10 bs)) (sym c.in-Ok.ensures.cases.0) p)))
