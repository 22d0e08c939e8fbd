use Rattle.std.proofs.Common.{◌≡◌, ℕ, ◌||◌, List, take}
use Rattle.pgs_base.specs.Pair.{has_name}
use Rattle.pgs_contain.specs.Known.{three_name_met_key}
use Rattle.pgs_contain.proofs.vocabulary.learn_met_triples.Given as goal

abbrev pub invariant-loop-triple : goal.invariant-loop-triple
invariant-loop-triple l = (k : List ℕ) → has_name k l.keys ≡ (has_name k l.fn.keys || three_name_met_key (take l.triple-index l.triples) l.labels k)
