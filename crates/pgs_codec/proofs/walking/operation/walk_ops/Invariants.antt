use Rattle.std.proofs.Common.{◌≡◌, ◌-◌}
use Rattle.pgs_codec.specs.Reading.{many_at, op_at}
use Rattle.pgs_codec.specs.Unread.{end_of}
use Rattle.pgs_codec.proofs.walking.operation.walk_ops.Given as goal

abbrev pub invariant-loop : goal.invariant-loop
invariant-loop l = end_of (many_at op_at (l.count - l.counter) l.reader.rest.now) ≡ end_of (many_at op_at l.count l.fn.reader.rest.now)
