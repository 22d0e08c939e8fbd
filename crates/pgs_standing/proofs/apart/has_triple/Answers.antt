use Rattle.pgs_standing.proofs.Parted.{three_tell}
use Rattle.pgs_standing.proofs.apart.has_triple.Goals as goal

pub returns : goal.returns
returns c =
    three_tell c.args.shapes.now c.in_ok-source.source c.in_ok-middle.middle c.in_ok-target.target c.in_ok-source.ensures c.in_ok-middle.ensures c.in_ok-target.ensures
