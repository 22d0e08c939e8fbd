use Rattle.std.proofs.Common.{◌∙◌, sym, arith}
use Rattle.pgs_schema_places.specs.KeyParts.{is_mark}
use Rattle.pgs_schema_places.proofs.Tokens.{passed, stopped, counted}
use Rattle.pgs_schema_places.proofs.parts.count_to.Goals as goal

pub returns-then-is_mark-clause-count : goal.returns-then-is_mark-clause-count
returns-then-is_mark-clause-count c =
    let none = stopped (is_mark c.args.mark) c.args.tokens.now c.loop-place.place _ (omega arith)
    (sym c.is_mark.ensures ∙ c.if-is_mark.true) in
    omega (arith, none, c.loop-place.invariant)

pub loop-place-preserved : goal.loop-place-preserved
loop-place-preserved c =
    let more = passed (is_mark c.args.mark) c.args.tokens.now c.loop-place.place _ (omega arith)
    (sym c.is_mark.ensures ∙ c.if-is_mark.false) in
    omega (arith, more, c.loop-place.invariant)

pub returns-clause-count : goal.returns-clause-count
returns-clause-count c =
    let none = counted (is_mark c.args.mark) c.args.tokens.now c.loop-place.place (omega arith) in
    omega (arith, none, c.loop-place.invariant)
