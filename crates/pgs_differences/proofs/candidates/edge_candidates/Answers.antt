use Rattle.std.proofs.Common.{arith}
use Rattle.pgs_syntax.specs.declared.resolved.TypeNo.TheVariants.{Node}
use Rattle.pgs_conform.specs.Shapes.{triple_of}
use Rattle.pgs_differences.specs.Nearest.{IsEdgeCandidate}
use Rattle.pgs_differences.proofs.Candidate.{candidates_more}
use Rattle.pgs_differences.proofs.candidates.edge_candidates.Goals as goal

pub loop-type_no-preserved : goal.loop-type_no-preserved
loop-type_no-preserved c =
    candidates_more (IsEdgeCandidate c.args.compiled.now (triple_of c.args.source.now c.args.own.now c.args.target.now)) c.as_slice-type_no-items.result.now c.loop-type_no.type_no-index
    (Node 0) c.loop-type_no.nears.items c.in_ok-found.found.items c.append.new.self.items (omega arith) c.loop-type_no.invariant
    c.in_ok-found.ensures c.in_ok-append.ensures.items
