use Rattle.std.proofs.Common.{sym, ◌∙◌, ap}
use Rattle.pgs_contain.specs.Contained.{pair_in}
use Rattle.pgs_standing.specs.Common.{are_possible}
use Rattle.pgs_standing.proofs.Fewest.{none_inside, inside_own}
use Rattle.pgs_standing.proofs.least.has_pair.Goals as goal

pub returns-then-not-are_possible : goal.returns-then-not-are_possible
returns-then-not-are_possible c =
    none_inside c.args.shape.now (ap are_possible (sym c.as_slice.ensures) ∙ sym c.are_possible.ensures ∙ c.if-not-are_possible.true)

pub returns : goal.returns
returns c =
    let own = c.in_ok-_own._own in
    let made = c.in_ok-_own.ensures in
    (pair_in own, made.0, inside_own c.args.shape.now own made (ap are_possible (sym c.as_slice.ensures) ∙ sym c.are_possible.ensures ∙ c.if-not-are_possible.false))
