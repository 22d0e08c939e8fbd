use Rattle.std.proofs.Common.{◌&&◌, sym, ◌∙◌, ap}
use Rattle.std.proofs.lemmas.Result.{IfOk-weaker}
use Rattle.pgs_conform.specs.Shapes.{in_triple}
use Rattle.pgs_contain.specs.Threes.{owned_triple}
use Rattle.pgs_standing.specs.Common.{in_common_triple, ends_in}
use Rattle.pgs_standing.specs.Example.{by_edges, IsFoundTriple}
use Rattle.pgs_standing.specs.Standing.{is_small_triple}
use Rattle.pgs_standing.proofs.Chosen.{found_same}
use Rattle.pgs_standing.proofs.triples.triple_in_both.Goals as goal

pub returns : goal.returns
returns c =
    let first = c.args.first.now in
    let second = c.args.second.now in
    let nodes = c.args.nodes.now in
    let shapes = c.in-Some.shapes in
    IfOk-weaker c.plain_triple.result (IsFoundTriple (λ t. is_small_triple t && (in_triple shapes t && ends_in nodes t)))
    (IsFoundTriple (λ t. is_small_triple t && (in_triple first t && in_triple second t && ends_in nodes t)))
    (λ answer found. found_same by_edges owned_triple (λ t. is_small_triple t && (in_triple shapes t && ends_in nodes t))
    (λ t. is_small_triple t && (in_triple first t && in_triple second t && ends_in nodes t)) answer
    (λ t triple. ap (λ b. is_small_triple t && (b && ends_in nodes t)) (ap (λ o. in_common_triple o t) (sym c.in-Some.is) ∙ c.in_ok-shapes.ensures t triple)) found)
    c.plain_triple.ensures
