use Rattle.std.proofs.Common.{List, sym, ap, subst, ◌∙◌, filter, take, ◌+◌}
use Rattle.std.proofs.lemmas.List.{take_more}
use Rattle.pgs_advice.specs.declared.subtypes.Naming.{Naming}
use Rattle.pgs_advice.specs.Subtypes.{is_shown, AreNamings}
use Rattle.pgs_advice.proofs.Subtyping.{no_namings, naming_more, naming_left_out}
use Rattle.pgs_advice.proofs.subtypes.namings.Goals as goal
use Rattle.pgs_advice.proofs.subtypes.namings.Goals.{then-is_shown+in_ok-naming_of+in_ok-push, else-is_shown}

pub loop-number-preserved : goal.loop-number-preserved
loop-number-preserved c =
    let resolved = c.args.resolved.now in
    let types = c.as_slice-number-items.result.now in
    let i = c.loop-number.number-index in
    let shown = filter (is_shown resolved) (take (i + 1) types) in
    elim c.if-is_shown.branch [
      | then-is_shown+in_ok-naming_of+in_ok-push w ↦
          subst (λ (namings : List Naming). AreNamings resolved shown namings) (sym (ap (λ v. v.items) w.all-is ∙ w.in_ok-push.ensures.items))
          (naming_more resolved types i _ c.loop-number.all.items _ (take_more types i _ c.loop-number-test.true) (sym c.is_shown.ensures ∙ w.if-is_shown.true) c.loop-number.invariant
          w.in_ok-naming_of.ensures.same w.in_ok-naming_of.ensures.marks)
      | else-is_shown w ↦
          subst (λ (namings : List Naming). AreNamings resolved shown namings) (sym (ap (λ v. v.items) w.all-is))
          (naming_left_out resolved types i _ c.loop-number.all.items (take_more types i _ c.loop-number-test.true) (sym c.is_shown.ensures ∙ w.if-is_shown.false) c.loop-number.invariant)
    ]
