use Rattle.std.proofs.Common.{◌++◌, List, map, sym, ap, ◌∙◌}
use Rattle.std.proofs.lemmas.List.{take_all}
use Rattle.pgs_syntax.specs.declared.resolved.TypeNo.{TypeNo}
use Rattle.pgs_advice.specs.declared.subtypes.Naming.{Naming}
use Rattle.pgs_advice.specs.Subtypes.{own_type, subtypes_among}
use Rattle.pgs_advice.proofs.Subtyping.{marked, subtype_more, no_subtype_more}
use Rattle.pgs_advice.proofs.subtypes.push_subtypes.Goals as goal
use Rattle.pgs_advice.proofs.subtypes.push_subtypes.Goals.{then-is_subtype+in_ok-push, else-is_subtype}

pub loop-naming-preserved : goal.loop-naming-preserved
loop-naming-preserved c = λ resolved are there.
    let namings = c.args.namings.now in
    let base = c.args.base in
    let i = c.loop-naming.naming-index in
    let naming = c.naming-item.result in
    let old = c.args.subtypes.now.items in
    let asked = sym (c.is_subtype.ensures resolved (marked resolved base namings are i naming c.loop-naming-test.true c.naming-item.is) there) in
    let before = c.loop-naming.invariant resolved are there in
    elim c.if-is_subtype.branch [
      | then-is_subtype+in_ok-push w ↦
          ap (λ v. v.items) w.subtypes-is
          ∙ subtype_more resolved base namings are i naming c.loop-naming-test.true c.naming-item.is old c.loop-naming.subtypes.items w.push.new.self.items (asked ∙ w.if-is_subtype.true) before w.in_ok-push.ensures.items
      | else-is_subtype w ↦
          ap (λ v. v.items) w.subtypes-is
          ∙ no_subtype_more resolved base namings are i naming c.loop-naming-test.true c.naming-item.is old c.loop-naming.subtypes.items (asked ∙ w.if-is_subtype.false) before
    ]

pub returns : goal.returns
returns c = λ resolved are there.
    let old = c.args.subtypes.now.items in
    c.loop-naming.invariant resolved are there
    ∙ ap (λ (ns : List Naming). old ++ subtypes_among resolved c.args.base (map own_type ns)) (take_all c.loop-naming.naming-index c.args.namings.now c.loop-naming-test.false)
    ∙ ap (λ (ts : List TypeNo). old ++ subtypes_among resolved c.args.base ts) are.numbers
