use Rattle.std.proofs.Common.{◌≡◌, true, length, sym, subst, ◌∙◌, arith}
use Rattle.std.proofs.lemmas.List.Sums.{position_or_len_is}
use Rattle.pgs_differences.specs.Nearest.{goes_before}
use Rattle.pgs_differences.proofs.ordering.place_of.Goals as goal

pub returns-then-goes_before-clause-value : goal.returns-then-goes_before-clause-value
returns-then-goes_before-clause-value c =
    let other = c.index-nears-place.result in
    sym (position_or_len_is (goes_before c.args.near.now) c.args.nears.now c.loop-place.place other (omega arith)
    (λ k low. c.loop-place.invariant k other low)
    (λ low. subst (λ z. goes_before c.args.near.now z ≡ true) c.index-nears-place.is (sym c.goes_before.ensures ∙ c.if-goes_before.true)))

pub returns-clause-value : goal.returns-clause-value
returns-clause-value c =
    let other = c.args.near.now in
    sym (position_or_len_is (goes_before other) c.args.nears.now (length c.args.nears.now) other (omega arith)
    (λ k low. c.loop-place.invariant k other (omega arith)) (λ low. absurd (omega arith)))
