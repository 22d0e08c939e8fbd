use Rattle.std.proofs.Common.{◌≡◌, map, take}
use Rattle.pgs_contain.specs.Frames.{frame_options}
use Rattle.pgs_contain.proofs.frame.frame_region.Given as goal

abbrev pub invariant-loop-name : goal.invariant-loop-name
invariant-loop-name l = l.region.items ≡ map (frame_options l.shape.more_keys l.shape.keys l.key) (take l.name-index l.names)
