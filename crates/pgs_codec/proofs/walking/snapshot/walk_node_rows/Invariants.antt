use Rattle.std.proofs.Common.{◌≡◌, ◌-◌}
use Rattle.pgs_codec.specs.Reading.{named_at, many_at, node_at}
use Rattle.pgs_codec.proofs.Loops.{with_front}
use Rattle.pgs_codec.proofs.walking.snapshot.walk_node_rows.Given as goal

abbrev pub invariant-loop : goal.invariant-loop
invariant-loop l =
    with_front l.ids.items (many_at (named_at (λ node. node.0) node_at) (l.count - l.counter) l.reader.rest.now)
    ≡ many_at (named_at (λ node. node.0) node_at) l.count l.fn.reader.rest.now
