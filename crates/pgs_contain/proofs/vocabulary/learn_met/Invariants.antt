use Rattle.std.proofs.Common.{◌≡◌, ℕ, ◌||◌, List, take}
use Rattle.pgs_base.specs.Pair.{has_name}
use Rattle.pgs_contain.specs.Known.{names_met_key}
use Rattle.pgs_contain.proofs.vocabulary.learn_met.Given as goal

abbrev pub invariant-loop-shape : goal.invariant-loop-shape
invariant-loop-shape l = (k : List ℕ) → has_name k l.keys ≡ (has_name k l.fn.keys || names_met_key (take l.shape-index l.shapes) l.labels k)
