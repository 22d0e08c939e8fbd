use Rattle.std.proofs.Common.{◌≡◌, ◌<◌, ◌≤◌, length}
use Rattle.pgs_base.specs.declared.text_limit.TheConstants.{TEXT_LIMIT}
use Rattle.pgs_run_lines.specs.Calls.{Gave}
use Rattle.pgs_run_input.specs.Text.{state_of}
use Rattle.pgs_run_input.proofs.Reading.{ReadSoFar}
use Rattle.pgs_run_input.proofs.text.read_into.Given as goal

abbrev pub invariant-loop-left : goal.invariant-loop-left
invariant-loop-left g l = record {
  far : ReadSoFar l.fn.budget l.left (state_of (g.S.Source.left l.fn.source) (g.S.Source.faults l.fn.source)) (state_of (g.S.Source.left l.source) (g.S.Source.faults l.source)) l.text.bytes;
  limit : l.text.limit ≡ TEXT_LIMIT;
  buffer : (0 < length l.buffer) × (length l.buffer ≤ 65536);
  calls : Gave g.S.Source.read_made l.fn.budget l.fn.source l.left l.source;
}

abbrev pub decreases-loop-left : goal.decreases-loop-left
decreases-loop-left g l = l.left
