use Rattle.std.proofs.Common.{◌≡◌, take}
use Rattle.pgs_contain.specs.Frames.{in_some_of}
use Rattle.pgs_contain.specs.Regions.{Point, in_some_region}
use Rattle.pgs_contain.proofs.frame.regions_of.Given as goal

abbrev pub invariant-loop-shape : goal.invariant-loop-shape
invariant-loop-shape l = (v : Point) → in_some_region l.regions.items v ≡ in_some_of (take l.shape-index l.shapes) l.frame.labels l.frame.keys v
