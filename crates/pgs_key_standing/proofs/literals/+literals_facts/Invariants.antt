use Rattle.std.proofs.Common.{length}
use Rattle.pgs_key_standing.proofs.literals.+literals_facts.Given as goal

abbrev pub decreases-literals_facts : goal.decreases-literals_facts
decreases-literals_facts l = length l.atoms.now
