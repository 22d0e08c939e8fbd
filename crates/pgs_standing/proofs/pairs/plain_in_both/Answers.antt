use Rattle.std.proofs.Common.{◌&&◌, sym, ◌∙◌, ap}
use Rattle.std.proofs.lemmas.Result.{IfOk-weaker}
use Rattle.pgs_conform.specs.Shapes.{in_shape}
use Rattle.pgs_contain.specs.Contained.{pair_in}
use Rattle.pgs_standing.specs.Common.{in_common}
use Rattle.pgs_standing.specs.Example.{by_nodes, IsFoundPair}
use Rattle.pgs_standing.specs.Standing.{is_small}
use Rattle.pgs_standing.proofs.Chosen.{found_same}
use Rattle.pgs_standing.proofs.pairs.plain_in_both.Goals as goal

pub returns : goal.returns
returns c =
    let first = c.args.first.now in
    let second = c.args.second.now in
    let shape = c.in-Some.shape in
    IfOk-weaker c.plain_pair.result (IsFoundPair (λ p. is_small p && in_shape shape p)) (IsFoundPair (λ p. is_small p && (in_shape first p && in_shape second p)))
    (λ answer found. found_same by_nodes pair_in (λ p. is_small p && in_shape shape p) (λ p. is_small p && (in_shape first p && in_shape second p)) answer
    (λ q pair. ap (λ b. is_small q && b) (ap (λ o. in_common o q) (sym c.in-Some.is) ∙ c.in_ok-shape.ensures q pair)) found)
    c.plain_pair.ensures
