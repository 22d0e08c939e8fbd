use Rattle.std.proofs.Common.{◌<◌, ◌^◌, length, cond, Some, None, sym, ap, subst, ◌∙◌}
use Rattle.std.specs.Str.Parse.{digits_value, IsNumeral, without_leading_plus}
use Rattle.pgs_parser.proofs.Digits.{digits_utf8, short_numeral, plain_value, number_below}
use Rattle.pgs_parser.proofs.literal.number_in.Goals as goal

pub returns-in-Err-clause-value : goal.returns-in-Err-clause-value
returns-in-Err-clause-value c = absurd (c.in-Err.ensures.cases.0 (digits_utf8 c.args.bytes.now (sym c.if-not-is_digits.ensures)))

pub returns-in-Err-from_str_radix-clause-value : goal.returns-in-Err-from_str_radix-clause-value
returns-in-Err-from_str_radix-clause-value c =
    absurd (c.in-Err-from_str_radix.ensures.value (
    subst (λ bs. IsNumeral 10 (without_leading_plus bs) × (digits_value 10 (without_leading_plus bs) < 2 ^ 16)) (sym c.in-Ok.ensures.cases.0)
    (short_numeral c.args.bytes.now (sym c.if-not-is_digits.ensures) c.requires.some c.requires.few)))

pub returns-in-Ok-from_str_radix-clause-value : goal.returns-in-Ok-from_str_radix-clause-value
returns-in-Ok-from_str_radix-clause-value c =
    let bs = c.args.bytes.now in
    ap Some (c.in-Ok-from_str_radix.ensures.value.1 ∙ ap (λ bs. digits_value 10 (without_leading_plus bs)) c.in-Ok.ensures.cases.0
    ∙ plain_value bs (sym c.if-not-is_digits.ensures))
    ∙ ap (λ b. cond b (Some (digits_value 10 bs)) None) c.if-not-is_digits.ensures

pub returns-in-Ok-from_str_radix-clause-within : goal.returns-in-Ok-from_str_radix-clause-within
returns-in-Ok-from_str_radix-clause-within c =
    let bs = c.args.bytes.now in
    subst (λ n. n < 10 ^ length bs)
    (sym (c.in-Ok-from_str_radix.ensures.value.1 ∙ ap (λ bs. digits_value 10 (without_leading_plus bs)) c.in-Ok.ensures.cases.0))
    (number_below bs (sym c.if-not-is_digits.ensures))
