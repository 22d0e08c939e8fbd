use Rattle.std.proofs.Common.{sym, arith}
use Rattle.pgs_check.specs.Untyped.{untyped_change}
use Rattle.pgs_check.proofs.Steps.{found_here, passed_more, passed_all}
use Rattle.pgs_check.proofs.untyped.first_untyped_change.Goals as goal

pub loop-change-preserved : goal.loop-change-preserved
loop-change-preserved g c = record {
  none = passed_more (untyped_change c.args.compiled.now) c.args.changes.now c.loop-change.change-index c.loop-change.invariant.none c.change-item.result c.change-item.is
      c.loop-change-test.true (sym c.in_default.ensures.value);
  no_step_back = omega arith;
  cost = omega arith;
}

pub returns-in-Some-clause-first : goal.returns-in-Some-clause-first
returns-in-Some-clause-first g c =
    found_here (untyped_change c.args.compiled.now) c.args.changes.now c.loop-change.change-index c.loop-change.invariant.none c.change-item.result c.change-item.is
    c.loop-change-test.true c.in-Some.violation (sym c.in-Some.ensures.value)

pub returns-clause-first : goal.returns-clause-first
returns-clause-first g c = passed_all (untyped_change c.args.compiled.now) c.args.changes.now c.loop-change.change-index c.loop-change.invariant.none c.loop-change-test.false
