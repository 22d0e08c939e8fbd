use Rattle.std.proofs.Common.{sym, ◌∙◌, ap}
use Rattle.pgs_standing.specs.Common.{are_possible}
use Rattle.pgs_standing.proofs.Fewest.{never_possible, found_small, none_small}
use Rattle.pgs_standing.proofs.least.plain_pair.Goals as goal

pub returns-then-not-are_possible : goal.returns-then-not-are_possible
returns-then-not-are_possible c =
    never_possible c.args.shape.now (ap are_possible (sym c.as_slice.ensures) ∙ sym c.are_possible.ensures ∙ c.if-not-are_possible.true)

pub returns-then-is_small : goal.returns-then-is_small
returns-then-is_small c =
    found_small c.args.shape.now c.in_ok-own.own c.in_ok-own.ensures
    (ap are_possible (sym c.as_slice.ensures) ∙ sym c.are_possible.ensures ∙ c.if-not-are_possible.false) (sym c.is_small.ensures ∙ c.if-is_small.true)

pub returns-else-is_small : goal.returns-else-is_small
returns-else-is_small c = none_small c.args.shape.now c.in_ok-own.own c.in_ok-own.ensures (sym c.is_small.ensures ∙ c.if-is_small.false)
