use Rattle.std.proofs.Common.{sym, ◌∙◌, arith}
use Rattle.pgs_pattern_end.specs.End.{is_front_of}
use Rattle.pgs_pattern_end.proofs.Fronts.{all_at, read_at}
use Rattle.pgs_pattern_end.proofs.ending.expression_end.Goals as goal

pub is_defined-requires : goal.is_defined-requires
is_defined-requires g c =
    all_at (is_front_of c.args.compiled.now) c.args.fronts.now c.loop-part.part c.index-fronts-part.result (omega arith)
    c.index-fronts-part.is c.requires

pub least_before-requires : goal.least_before-requires
least_before-requires g c =
    all_at (is_front_of c.args.compiled.now) c.args.fronts.now c.loop-part.part c.index-fronts-part.result (omega arith)
    c.index-fronts-part.is c.requires

pub returns-then-not-defined-clause-end : goal.returns-then-not-defined-clause-end
returns-then-not-defined-clause-end g c = (
  c.index-fronts-part.result,
  (
    read_at c.args.fronts.now c.loop-part.part c.index-fronts-part.result (omega arith) c.index-fronts-part.is,
    sym c.in_ok-defined.ensures.value ∙ c.if-not-defined.true,
    c.loop-part.invariant.met,
  ),
  c.in_ok-from.ensures.value,
)
