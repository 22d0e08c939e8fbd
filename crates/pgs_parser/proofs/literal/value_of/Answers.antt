use Rattle.std.proofs.Common.{◌∙◌, sym, ap, subst, IsUtf8}
use Rattle.std.proofs.lemmas.Option.{same_Some}
use Rattle.pgs_lexer.specs.Token.{HasForm}
use Rattle.pgs_parser.specs.Literal.{with_single_quotes}
use Rattle.pgs_parser.proofs.Digits.{text_utf8}
use Rattle.pgs_parser.proofs.literal.value_of.Goals as goal

pub text_value-requires : goal.text_value-requires
text_value-requires c =
    let string = subst (λ kind. HasForm kind c.args.bytes.now) c.in-Text.is c.requires in
    subst IsUtf8 (ap with_single_quotes (sym c.inside.ensures) ∙ same_Some _ _ c.in_ok-text-in-Text.ensures ∙ sym c.as_slice.ensures.value)
    (text_utf8 c.args.bytes.now string)
