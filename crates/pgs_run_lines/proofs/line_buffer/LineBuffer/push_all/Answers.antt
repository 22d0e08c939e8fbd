use Rattle.std.proofs.Common.{arith}
use Rattle.std.proofs.lemmas.Grind.{common_steps}
use Rattle.pgs_run_lines.proofs.Fronts.{front_of_push}
use Rattle.pgs_run_lines.proofs.line_buffer.LineBuffer.push_all.Goals as goal

pub returns-clause-ok : goal.returns-clause-ok
returns-clause-ok c =
    let e = front_of_push c.self.inside.limit c.self.inside.bytes.items c.args.more.now c.min-taken.result c.self.invariant.0 (omega arith) in
    rw (← c.self.view_is) (grind (arith, common_steps, e))
