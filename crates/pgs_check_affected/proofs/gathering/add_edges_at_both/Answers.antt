use Rattle.std.proofs.Common.{◌++◌, ap, ◌∙◌, append_assoc}
use Rattle.pgs_check_affected.specs.Found.{edges_at}
use Rattle.pgs_check_affected.proofs.gathering.add_edges_at_both.Goals as goal

pub returns-clause-edges : goal.returns-clause-edges
returns-clause-edges g c =
    let old = edges_at (g.G.GraphRead.meaning c.args.before.now) c.args.elem in
    let new = edges_at (g.H.GraphRead.meaning c.args.after.now) c.args.elem in
    c.in_ok-add_edges_at-2.ensures.edges ∙ ap (λ elems. elems ++ new) c.in_ok-add_edges_at.ensures.edges ∙ append_assoc c.args.elems.now.items old new
