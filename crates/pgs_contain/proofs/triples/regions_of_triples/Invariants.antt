use Rattle.std.proofs.Common.{◌≡◌, take}
use Rattle.pgs_contain.specs.Regions.{Point, in_some_region}
use Rattle.pgs_contain.specs.Threes.{three_of, in_some_three}
use Rattle.pgs_contain.proofs.triples.regions_of_triples.Given as goal

abbrev pub invariant-loop-triple : goal.invariant-loop-triple
invariant-loop-triple l = (v : Point) → in_some_region l.regions.items v ≡ in_some_three (take l.triple-index l.triples) (three_of l.frames) v
