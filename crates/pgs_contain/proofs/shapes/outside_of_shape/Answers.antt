use Rattle.std.proofs.lemmas.Option.{MatchOption-at_some, MatchOption-at_none}
use Rattle.pgs_contain.specs.Regions.{IsCovered, IsLeft}
use Rattle.pgs_contain.specs.Contained.{pair_in}
use Rattle.pgs_contain.proofs.Whole.{shape_inside, shape_outside}
use Rattle.pgs_contain.proofs.shapes.outside_of_shape.Goals as goal

pub returns-in-None : goal.returns-in-None
returns-in-None c =
    let frame = c.in_ok-frame.frame in
    let left = c.in_ok-left.ensures in
    shape_inside c.args.shape.now c.args.others.now c.args.further.now.name c.args.further.now.avoid.now frame c.in_ok-frame.ensures c.requires left.taken left.same
    (MatchOption-at_none (IsCovered frame.region left.taken) (IsLeft frame.region left.taken) c.in-None.is left.is)

pub returns : goal.returns
returns c =
    let frame = c.in_ok-frame.frame in
    let left = c.in_ok-left.ensures in
    shape_outside c.args.shape.now c.args.others.now c.args.further.now.name c.args.further.now.avoid.now frame c.in_ok-frame.ensures c.requires left.taken left.same
    c.args.further.now.new c.facts.ensures c.in-Some.found c.as_slice.result.now
    (MatchOption-at_some (IsCovered frame.region left.taken) (IsLeft frame.region left.taken) c.in-Some.found c.in-Some.is left.is)
    c.as_slice.ensures (pair_in c.in_ok-own-in-Some.own) c.in_ok-own-in-Some.ensures
