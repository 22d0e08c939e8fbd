use Rattle.std.proofs.Common.{sym, ◌∙◌}
use Rattle.pgs_contain.proofs.Three.{triple_found_out, none_triple_out}
use Rattle.pgs_contain.proofs.triples.outside_of_triples.Goals as goal

pub returns-then-is_some : goal.returns-then-is_some
returns-then-is_some c =
    triple_found_out c.args.further.now.avoid.now c.args.triples.now c.args.others.now c.loop-triple.triple-index c.triple-item.result c.in_ok-found.found c.loop-triple-test.true c.triple-item.is
    c.in_ok-found.ensures (sym c.is_some.ensures ∙ c.if-is_some.true)

pub loop-triple-preserved : goal.loop-triple-preserved
loop-triple-preserved c =
    none_triple_out c.args.further.now.avoid.now c.args.triples.now c.args.others.now c.loop-triple.triple-index c.triple-item.result c.in_ok-found.found c.loop-triple-test.true c.triple-item.is
    c.in_ok-found.ensures (sym c.is_some.ensures ∙ c.if-is_some.false) c.loop-triple.invariant
