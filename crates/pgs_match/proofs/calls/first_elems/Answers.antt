use Rattle.std.proofs.Common.{sym, ap, ◌∙◌, ◌++◌, [], ◌∷◌}
use Rattle.pgs_match.specs.Planned.{first_elem}
use Rattle.pgs_match.proofs.Firsts.{first_more, no_first_more}
use Rattle.pgs_match.proofs.calls.first_elems.Goals as goal
use Rattle.pgs_match.proofs.calls.first_elems.Goals.{in-Some+in_ok-push, in_default}

pub loop-tuple-preserved : goal.loop-tuple-preserved
loop-tuple-preserved c =
    let tuples = c.args.tuples.now in
    let i = c.loop-tuple.tuple-index in
    let item = c.tuple-item.result in
    let is = c.first_elem.ensures ∙ ap first_elem c.tuple-item.is in
    elim c.match-first_elem.branch [
      | in-Some+in_ok-push w ↦
          ap (λ v. v.items) w.firsts-is ∙ w.in_ok-push.ensures.items ∙ ap (λ items. items ++ w.in-Some.elem ∷ []) c.loop-tuple.invariant
          ∙ sym (first_more tuples i item c.loop-tuple-test.true w.in-Some.elem (sym w.in-Some.is ∙ is))
      | in_default w ↦
          ap (λ v. v.items) w.firsts-is ∙ c.loop-tuple.invariant ∙ sym (no_first_more tuples i item c.loop-tuple-test.true (sym w.in_default.is ∙ is))
    ]
