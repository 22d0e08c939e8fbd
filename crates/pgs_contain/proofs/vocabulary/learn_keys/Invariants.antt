use Rattle.std.proofs.Common.{◌≡◌, ℕ, ◌||◌, List, take}
use Rattle.std.specs.Map.{keys_of}
use Rattle.pgs_base.specs.Pair.{has_name}
use Rattle.pgs_contain.proofs.vocabulary.learn_keys.Given as goal

abbrev pub invariant-loop-key : goal.invariant-loop-key
invariant-loop-key l = (n : List ℕ) → has_name n l.known ≡ (has_name n l.fn.known || has_name n (keys_of (take l.key-index l.keys)))
