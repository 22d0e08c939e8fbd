use Rattle.std.proofs.Common.{take}
use Rattle.pgs_run_check_schema.specs.Examples.{HasTypes}
use Rattle.pgs_run_check_schema.proofs.types.push_types.Given as goal

abbrev pub invariant-loop-number : goal.invariant-loop-number
invariant-loop-number l = HasTypes l.schema (take l.number-index l.numbers) l.fn.lines.items l.lines.items
