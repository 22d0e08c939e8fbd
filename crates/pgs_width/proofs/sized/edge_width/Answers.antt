use Rattle.pgs_syntax.specs.Width.{both, width_of}
use Rattle.pgs_width.proofs.sized.edge_width.Goals as goal

pub returns : goal.returns
returns c = λ exact before nodes named.
    let edge = c.args.edge.now in
    c.both-2.ensures (width_of exact edge.source) (both (width_of before edge.middle) (width_of exact edge.target)) (c.width_of-source.ensures exact nodes)
    (c.both.ensures (width_of before edge.middle) (width_of exact edge.target) (c.width_of-middle.ensures before named) (c.width_of-target.ensures exact nodes))
