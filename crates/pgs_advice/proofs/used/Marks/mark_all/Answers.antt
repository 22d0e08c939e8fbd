use Rattle.std.proofs.Common.{◌++◌, List, take, sym, ap, subst, ◌∙◌, append_assoc}
use Rattle.std.proofs.lemmas.List.{take_all, take_more}
use Rattle.pgs_syntax.specs.declared.resolved.TypeNo.{TypeNo}
use Rattle.pgs_advice.specs.Used.{AreMarks}
use Rattle.pgs_advice.proofs.used.Marks.mark_all.Goals as goal

pub loop-number-preserved : goal.loop-number-preserved
loop-number-preserved c = λ resolved used are.
    let types = c.args.types.now in
    let i = c.loop-number.number-index in
    subst (λ (ts : List TypeNo). AreMarks resolved ts c.mark.new.self)
    (append_assoc used (take i types) _ ∙ ap (λ (ts : List TypeNo). used ++ ts) (sym (take_more types i _ c.loop-number-test.true)))
    (c.mark.ensures resolved (used ++ take i types) (c.loop-number.invariant resolved used are))

pub returns : goal.returns
returns c = λ resolved used are.
    subst (λ (ts : List TypeNo). AreMarks resolved (used ++ ts) c.loop-number.self) (take_all c.loop-number.number-index c.args.types.now c.loop-number-test.false)
    (c.loop-number.invariant resolved used are)
