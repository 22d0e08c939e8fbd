use Rattle.std.proofs.Common.{ap, sym, ◌∙◌, length}
use Rattle.std.proofs.lemmas.Result.{IfOk-weaker}
use Rattle.pgs_contain.proofs.Parts.{lies_in_one_points, none_met, first_length}
use Rattle.pgs_contain.proofs.regions.+left_of.Goals as goal

pub returns-then-lies_in_one : goal.returns-then-lies_in_one
returns-then-lies_in_one t c = λ v there. lies_in_one_points c.args.region.now c.args.taken.now v (sym c.lies_in_one.ensures ∙ c.if-lies_in_one.true) there

pub returns-in_default : goal.returns-in_default
returns-in_default t c =
    IfOk-weaker c.whole.result _ _
    (λ rest. none_met c.args.region.now c.args.taken.now c.from_first_met-met.result.now rest c.in_default.len_below c.from_first_met-met.ensures.same)
    c.whole.ensures

pub parts_left-requires : goal.parts_left-requires
parts_left-requires t c =
    first_length c.args.region.now c.from_first_met-met.result.now c.first-item.result c.in-len1-up.len_at_least c.first-item.is c.from_first_met-met.ensures.met
    ∙ ap length (sym c.as_slice.ensures)
