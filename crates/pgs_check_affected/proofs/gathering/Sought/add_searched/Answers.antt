use Rattle.std.proofs.Common.{◌+◌, ◌^◌, arith}
use Rattle.pgs_match.specs.Planned.{most_edges, pattern_of}
use Rattle.pgs_check_affected.proofs.Counting.{turn_more}
use Rattle.pgs_check_affected.proofs.Finding.{searched_more}
use Rattle.pgs_check_affected.proofs.gathering.Sought.add_searched.Goals as goal

pub loop-var-preserved : goal.loop-var-preserved
loop-var-preserved g c =
    let before = g.G.GraphRead.meaning c.args.before.now in
    let after = g.H.GraphRead.meaning c.args.after.now in
    let key = c.args.self.now.key.now in
    let past = c.loop-var.invariant in
    record {
      so_far =
          searched_more c.args.self.now.compiled.now before after (pattern_of c.args.self.now.side key) c.args.known.now.elem c.loop-var.var c.args.elems.now.items c.loop-var.elems.items _ _
          past.so_far c.in_ok-add_reached.ensures.elems c.in_ok-add_reached-2.ensures.elems;
      no_step_back = omega (arith, past.no_step_back, c.add_reached.ensures.no_step_back, c.add_reached-in-loop-var.ensures.no_step_back);
      cost = λ most sparse.
          turn_more c.loop-var.var ((most + 2) ^ (most_edges key + 1)) _ _ _ _ (past.cost most sparse) (c.add_reached.ensures.cost most sparse.0) (c.add_reached-in-loop-var.ensures.cost most sparse.1);
    }
