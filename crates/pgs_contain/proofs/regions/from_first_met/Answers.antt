use Rattle.std.proofs.Common.{ap, sym, ◌∙◌}
use Rattle.pgs_contain.specs.Regions.{meets}
use Rattle.pgs_contain.proofs.Parts.{unmet}
use Rattle.pgs_contain.proofs.regions.from_first_met.Goals as goal

pub loop-left-preserved : goal.loop-left-preserved
loop-left-preserved c =
    unmet c.args.region.now c.args.taken.now c.loop-left.left.now c.first-item.result c.in-len1-up.len_at_least c.first-item.is
    (ap (meets c.args.region.now) (sym c.as_slice.ensures) ∙ sym c.meets.ensures ∙ c.if-meets.false) c.loop-left.invariant
