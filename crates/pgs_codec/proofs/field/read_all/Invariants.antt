use Rattle.std.proofs.Common.{◌≡◌, ◌-◌}
use Rattle.pgs_codec.specs.Reading.{many_at}
use Rattle.pgs_codec.proofs.Loops.{with_front}
use Rattle.pgs_codec.proofs.field.read_all.Given as goal

abbrev pub invariant-loop : goal.invariant-loop
invariant-loop g l = with_front l.fields.items (many_at g.F.Field.field_at (l.count - l.counter) l.reader.rest.now) ≡ many_at g.F.Field.field_at l.count l.fn.reader.rest.now
