use Rattle.std.proofs.Common.{◌+◌, rules, inr, refl, arith}
use Rattle.pgs_world_streams.specs.Whole.HasWritten.{wrote_none}
use Rattle.pgs_world_streams.proofs.Loops.{within_more, wrote_more, write_failed}
use Rattle.pgs_world_files.proofs.area_file.write_within.Goals as goal

pub loop-done-init : goal.loop-done-init
loop-done-init g c = record { within = omega arith; written = wrote_none }

pub returns-in-Ok-eq0-clause-given : goal.returns-in-Ok-eq0-clause-given
returns-in-Ok-eq0-clause-given g c =
    inr (write_failed _ _ _ _ _ _ _ _ c.in-Ok-eq0.field-0-test c.loop-done-test.true c.loop-done.invariant.written c.in-Ok-eq0.ensures.tried)

pub loop-done-preserved : goal.loop-done-preserved
loop-done-preserved g c = record {
  within = within_more _ _ _ _ refl c.loop-done.invariant.within c.in-Ok.ensures.bound;
  written = wrote_more _ _ _ _ _ _ _ _ _ refl c.loop-done.invariant.written c.in-Ok.ensures.tried (search rules);
}

pub returns-in-Err-clause-given : goal.returns-in-Err-clause-given
returns-in-Err-clause-given g c =
    inr (write_failed _ _ _ _ _ _ _ _ tt c.loop-done-test.true c.loop-done.invariant.written c.in-Err.ensures.tried)

pub returns-in-Ok-eq0-clause-caused : goal.returns-in-Ok-eq0-clause-caused
returns-in-Ok-eq0-clause-caused g c =
    inr (c.loop-done.handle, c.args.at + c.loop-done.done, _, _, c.in-Ok-eq0.ensures.tried, (c.in-Ok-eq0.field-0-test, refl))

pub returns-in-Err-clause-caused : goal.returns-in-Err-clause-caused
returns-in-Err-clause-caused g c =
    inr (c.loop-done.handle, c.args.at + c.loop-done.done, _, _, c.in-Err.ensures.tried, c.of.ensures)
