use Rattle.std.proofs.Common.{◌≡◌, take}
use Rattle.pgs_contain.specs.Frames.{options_of}
use Rattle.pgs_contain.proofs.frame.options_of.Given as goal

abbrev pub invariant-loop-key : goal.invariant-loop-key
invariant-loop-key l = l.region.items ≡ options_of l.shape (take l.key-index l.keys)
