use Rattle.std.proofs.Common.{◌∙◌, ap}
use Rattle.pgs_base_slots.specs.Slots.{present}
use Rattle.pgs_base_slots.proofs.Present.{present-emptied}
use Rattle.pgs_base_slots.proofs.slots.Slots.take.Goals as goal

pub returns-clause-rows : goal.returns-clause-rows
returns-clause-rows g c =
    ap present c.fill.ensures.entries ∙ present-emptied g.met.K.Ord.total c.args.key c.args.self.now c.fill.ensures.ascending
