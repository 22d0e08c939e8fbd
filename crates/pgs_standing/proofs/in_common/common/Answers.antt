use Rattle.std.proofs.Common.{sym, ◌∙◌}
use Rattle.pgs_standing.proofs.Shared.{nothing_common}
use Rattle.pgs_standing.proofs.in_common.common.Goals as goal

pub returns-then-not-may_meet : goal.returns-then-not-may_meet
returns-then-not-may_meet c = λ p pair. sym (nothing_common c.args.first.now c.args.second.now (sym c.may_meet.ensures ∙ c.if-not-may_meet.true) p)
