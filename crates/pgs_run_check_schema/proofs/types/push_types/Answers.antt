use Rattle.std.proofs.Common.{List, take, sym, subst}
use Rattle.std.proofs.lemmas.List.{take_all, take_more}
use Rattle.pgs_syntax.specs.declared.resolved.TypeNo.{TypeNo}
use Rattle.pgs_run_check_schema.specs.Examples.{HasTypes}
use Rattle.pgs_run_check_schema.proofs.Typed.{has_none, has_on}
use Rattle.pgs_run_check_schema.proofs.types.push_types.Goals as goal

pub loop-number-init : goal.loop-number-init
loop-number-init c = has_none c.args.schema.now c.args.lines.now.items

pub loop-number-preserved : goal.loop-number-preserved
loop-number-preserved c =
    let numbers = c.args.numbers.now in
    let i = c.loop-number.number-index in
    subst (λ (xs : List TypeNo). HasTypes c.args.schema.now xs c.args.lines.now.items c.push_type.new.lines.items) (sym (take_more numbers i _ c.loop-number-test.true))
    (has_on c.args.schema.now (take i numbers) _ c.args.lines.now.items c.loop-number.lines.items c.push_type.new.lines.items c.loop-number.invariant c.in_ok-push_type.ensures)

pub returns : goal.returns
returns c =
    subst (λ (xs : List TypeNo). HasTypes c.args.schema.now xs c.args.lines.now.items c.loop-number.lines.items) (take_all c.loop-number.number-index c.args.numbers.now c.loop-number-test.false) c.loop-number.invariant
