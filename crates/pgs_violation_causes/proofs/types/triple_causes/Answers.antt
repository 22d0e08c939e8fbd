use Rattle.std.proofs.lemmas.Result.{IfOk-weaker}
use Rattle.pgs_conform.specs.Shapes.{triple_of}
use Rattle.pgs_violation_causes.proofs.Typed.{edge_told}
use Rattle.pgs_violation_causes.proofs.types.triple_causes.Goals as goal

pub returns : goal.returns
returns c =
    IfOk-weaker c.nearest_texts.result _ _
    (λ texts told.
    edge_told c.args.compiled.now c.resolved.result.now c.in_ok-nears.nears c.as_slice.result.now texts c.resolved.ensures.same c.as_slice.ensures
    (triple_of c.args.source.now c.args.own.now c.args.target.now) c.in_ok-nears.ensures told)
    c.nearest_texts.ensures
