use Rattle.std.proofs.Common.{sym, ◌∙◌, ap}
use Rattle.pgs_conform.specs.Shapes.{in_shape}
use Rattle.pgs_standing.specs.Common.{in_common}
use Rattle.pgs_standing.proofs.Three.{three_common, apart_source, apart_middle, apart_target}
use Rattle.pgs_standing.proofs.in_common.common_triple.Goals as goal

pub returns-in_default : goal.returns-in_default
returns-in_default c =
    apart_middle c.args.first.now c.args.second.now (λ p pair. ap (λ o. in_common o p) (sym c.in_default.is) ∙ c.in_ok-middle.ensures p pair)

pub returns-in_default-2 : goal.returns-in_default-2
returns-in_default-2 c =
    apart_source c.args.first.now c.args.second.now (λ p pair. ap (λ o. in_common o p) (sym c.in_default-2.is) ∙ c.in_ok-source.ensures p pair)

pub returns-in_default-3 : goal.returns-in_default-3
returns-in_default-3 c =
    apart_target c.args.first.now c.args.second.now (λ p pair. ap (λ o. in_common o p) (sym c.in_default-3.is) ∙ c.in_ok-target.ensures p pair)

pub returns : goal.returns
returns c =
    three_common c.args.first.now c.args.second.now (in_shape c.in-Some-2.source) (in_shape c.in-Some.middle) (in_shape c.in-Some-3.target)
    (λ p pair. ap (λ o. in_common o p) (sym c.in-Some-2.is) ∙ c.in_ok-source.ensures p pair)
    (λ p pair. ap (λ o. in_common o p) (sym c.in-Some.is) ∙ c.in_ok-middle.ensures p pair)
    (λ p pair. ap (λ o. in_common o p) (sym c.in-Some-3.is) ∙ c.in_ok-target.ensures p pair)
