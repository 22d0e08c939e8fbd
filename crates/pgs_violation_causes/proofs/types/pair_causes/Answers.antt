use Rattle.std.proofs.lemmas.Result.{IfOk-weaker}
use Rattle.pgs_violation_causes.proofs.Typed.{node_told}
use Rattle.pgs_violation_causes.proofs.types.pair_causes.Goals as goal

pub returns : goal.returns
returns c =
    IfOk-weaker c.nearest_texts.result _ _
    (λ texts told.
    node_told c.args.compiled.now c.resolved.result.now c.in_ok-nears.nears c.as_slice.result.now texts c.resolved.ensures.same c.as_slice.ensures
    c.args.own.now c.in_ok-nears.ensures told)
    c.nearest_texts.ensures
