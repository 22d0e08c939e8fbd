use Rattle.pgs_codec.proofs.Snapshots.{snapshot_reads}
use Rattle.pgs_codec.proofs.decoding.read_snapshot.Goals as goal

pub returns : goal.returns
returns c =
    snapshot_reads c.args.reader.now.rest.now c.read_parts.new.reader.rest.now c.in_ok-commits.commits c.in_ok-commits.nodes.items c.in_ok-commits.edges.items
    c.in_ok-commits.ensures c.snapshot_of.result c.snapshot_of.ensures
