use Rattle.std.proofs.Common.{sym, ◌∙◌}
use Rattle.pgs_contain.specs.Regions.{without}
use Rattle.pgs_contain.proofs.Parts.{part_left_out}
use Rattle.pgs_contain.proofs.regions.push_wrong.Goals as goal

pub returns-else-is_possible : goal.returns-else-is_possible
returns-else-is_possible c =
    part_left_out c.args.parts.now.items c.args.kept.now c.args.after.now c.without-wrong.result (without c.args.own.now c.args.other.now)
    (sym c.is_possible.ensures ∙ c.if-is_possible.false) c.without-wrong.ensures
