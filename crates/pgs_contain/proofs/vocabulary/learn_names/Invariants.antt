use Rattle.std.proofs.Common.{◌≡◌, ℕ, ◌||◌, List, take}
use Rattle.pgs_base.specs.Pair.{has_name}
use Rattle.pgs_contain.proofs.vocabulary.learn_names.Given as goal

abbrev pub invariant-loop-name : goal.invariant-loop-name
invariant-loop-name l = (n : List ℕ) → has_name n l.known ≡ (has_name n l.fn.known || has_name n (take l.name-index l.names))
