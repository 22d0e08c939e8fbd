use Rattle.std.proofs.Common.{sym, ◌∙◌, arith, rules}
use Rattle.pgs_journal.proofs.Heads.{front_of_store}
use Rattle.pgs_journal.proofs.head.head_of.Goals as goal

pub returns-clause-head : goal.returns-clause-head
returns-clause-head c = search rules

pub returns-clause-begins : goal.returns-clause-begins
returns-clause-begins c = λ format epoch is. front_of_store c.args.front.now format epoch c.requires (λ i. omega (arith, c.type_inv.front i)) (sym (returns-clause-head c) ∙ is)
