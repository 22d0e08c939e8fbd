use Rattle.std.proofs.Common.{sym, ◌∙◌}
use Rattle.pgs_conform.proofs.Walks.{tied}
use Rattle.pgs_conform.proofs.walking.order.Goals as goal

pub returns-then-eq : goal.returns-then-eq
returns-then-eq c = tied c.args.name.now c.args.other.now (sym c.eq.ensures ∙ c.if-eq.true)
