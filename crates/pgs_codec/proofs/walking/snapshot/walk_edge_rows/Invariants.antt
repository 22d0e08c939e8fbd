use Rattle.std.proofs.Common.{◌≡◌, ◌-◌}
use Rattle.pgs_base.specs.Graph.{edge_cmp}
use Rattle.pgs_base.specs.Order.{ascends}
use Rattle.pgs_codec.specs.Reading.{tested_at, many_at}
use Rattle.pgs_codec.specs.Unread.{end_of}
use Rattle.pgs_codec.specs.Walking.{edge_id_in}
use Rattle.pgs_codec.proofs.Walks.{ascent}
use Rattle.pgs_codec.proofs.walking.snapshot.walk_edge_rows.Given as goal

abbrev pub invariant-loop : goal.invariant-loop
invariant-loop l =
    ascent edge_cmp (edge_id_in l.nodes) l.before (l.count - l.counter) l.reader.rest.now
    ≡ end_of (tested_at (ascends edge_cmp) (many_at (edge_id_in l.nodes) l.count) l.fn.reader.rest.now)
