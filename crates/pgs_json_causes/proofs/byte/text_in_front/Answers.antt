use Rattle.std.proofs.Common.{length, sym, ◌∙◌, subst, List, ℕ}
use Rattle.std.proofs.Math.Seq.{take-length}
use Rattle.std.specs.Str.{IsUtf8}
use Rattle.pgs_json_causes.proofs.byte.text_in_front.Goals as goal

pub returns-in-Ok : goal.returns-in-Ok
returns-in-Ok c =
    let h = c.in-Ok.ensures.cases in
    (length c.args.bytes.now, h.0 ∙ sym (take-length c.args.bytes.now), subst (λ (t : List ℕ). IsUtf8 t) (sym h.0) h.1)
