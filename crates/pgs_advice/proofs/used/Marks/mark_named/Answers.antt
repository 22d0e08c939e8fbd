use Rattle.pgs_advice.proofs.used.Marks.mark_named.Goals as goal

pub returns : goal.returns
returns c = λ used are. c.mark_nodes.ensures _ (c.in_ok-mark_edges.ensures used are)
