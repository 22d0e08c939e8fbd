use Rattle.std.proofs.Common.{◌≡◌, ◌++◌, flat_map, length}
use Rattle.pgs_base_text.specs.Text.{escaped}
use Rattle.pgs_base_text.proofs.text_buffer.TextBuffer.push_runs.Given as goal

abbrev pub invariant-loop-rest : goal.invariant-loop-rest
invariant-loop-rest l = l.self ++ flat_map escaped l.rest ≡ l.fn.self ++ flat_map escaped l.fn.text

abbrev pub decreases-loop-rest : goal.decreases-loop-rest
decreases-loop-rest l = length l.rest
