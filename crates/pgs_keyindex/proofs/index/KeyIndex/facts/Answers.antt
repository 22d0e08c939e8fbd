use Rattle.std.proofs.Common.{subst}
use Rattle.pgs_keyindex.specs.Rows.{IsOwned}
use Rattle.pgs_keyindex.proofs.index.KeyIndex.facts.Goals as goal

pub returns-clause-owned : goal.returns-clause-owned
returns-clause-owned c = subst (λ s. IsOwned s.exclusive s.rows) c.self.view_is c.self.invariant.owned
