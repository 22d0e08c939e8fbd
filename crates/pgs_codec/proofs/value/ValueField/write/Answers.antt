use Rattle.std.proofs.Common.{◌++◌, sym, ap, ◌∙◌}
use Rattle.std.proofs.lemmas.Result.{on_ok_weaker}
use Rattle.pgs_codec.specs.Payload.{value_field}
use Rattle.pgs_codec.proofs.value.ValueField.write.Goals as goal

pub returns-in-Text-clause-bytes : goal.returns-in-Text-clause-bytes
returns-in-Text-clause-bytes c =
    on_ok_weaker c.write_text.result (λ written. written ∙ ap (λ v. c.args.out.now.items ++ value_field v) (sym c.in-Text.is)) c.write_text.ensures.bytes

pub returns-in-Date-clause-bytes : goal.returns-in-Date-clause-bytes
returns-in-Date-clause-bytes c =
    on_ok_weaker c.write_day.result (λ written. written ∙ ap (λ v. c.args.out.now.items ++ value_field v) (sym c.in-Date.is)) c.write_day.ensures.bytes
