use Rattle.std.proofs.Common.{[]}
use Rattle.pgs_advice.proofs.used.Marks.from.Goals as goal

pub returns : goal.returns
returns c = c.in_ok-mark_named.ensures c.args.types.now (c.mark_all.ensures c.args.resolved.now [] c.in_ok-marks.ensures)
