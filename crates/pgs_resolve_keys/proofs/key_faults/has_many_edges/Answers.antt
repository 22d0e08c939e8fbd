use Rattle.pgs_resolve_keys.proofs.Edges.{after_one, edges_in}
use Rattle.pgs_resolve_keys.proofs.key_faults.has_many_edges.Goals as goal

pub loop-rest-preserved : goal.loop-rest-preserved
loop-rest-preserved c =
    after_one c.loop-rest.rest.now c.path-item.result c.as_slice-edges.result.now c.loop-rest.left (edges_in c.args.paths.now) c.in-len1-up.len_at_least c.path-item.is c.as_slice-edges.ensures c.if-edges-left.false c.loop-rest.invariant
