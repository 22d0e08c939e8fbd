use Rattle.std.proofs.Common.{take, sym, ap, ◌∙◌}
use Rattle.std.proofs.lemmas.Str.{utf8_valid_len-IsUtf8}
use Rattle.std.specs.Str.Lossy.{utf8_valid_len}
use Rattle.pgs_lexer.proofs.comment.comment_len.Goals as goal

-- a line that is UTF-8 is valid to its end
pub returns-in-Ok-clause-value : goal.returns-in-Ok-clause-value
returns-in-Ok-clause-value c =
    let text = c.args.text.now in
    sym (utf8_valid_len-IsUtf8 _ c.in-Ok.ensures.cases.1) ∙ ap (λ n. utf8_valid_len (take n text)) c.line_len.ensures
