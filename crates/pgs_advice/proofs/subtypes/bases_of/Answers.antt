use Rattle.std.proofs.Common.{sym, ap, ◌∙◌}
use Rattle.std.proofs.lemmas.List.{take_more}
use Rattle.pgs_advice.specs.Used.{is_among}
use Rattle.pgs_advice.proofs.Subtyping.{base_more, no_base_more}
use Rattle.pgs_advice.proofs.subtypes.bases_of.Goals as goal
use Rattle.pgs_advice.proofs.subtypes.bases_of.Goals.{then-not-is_among+in_ok-push, else-not-is_among}

pub loop-number-preserved : goal.loop-number-preserved
loop-number-preserved c =
    let types = c.deref-number-items.result.now in
    let i = c.loop-number.number-index in
    let bases = c.loop-number.bases.items in
    let asked = sym (c.is_among.ensures ∙ ap (is_among _) c.deref.ensures.value) in
    elim c.if-not-is_among.branch [
      | then-not-is_among+in_ok-push w ↦
          ap (λ v. v.items) w.bases-is ∙ w.in_ok-push.ensures.items ∙ base_more types bases i _ (take_more types i _ c.loop-number-test.true) c.loop-number.invariant (asked ∙ w.if-not-is_among.true)
      | else-not-is_among w ↦
          ap (λ v. v.items) w.bases-is ∙ no_base_more types bases i _ (take_more types i _ c.loop-number-test.true) c.loop-number.invariant (asked ∙ w.if-not-is_among.false)
    ]
