use Rattle.std.proofs.Common.{◌≡◌, take}
use Rattle.pgs_key_causes.specs.Fronts.{directions_of}
use Rattle.pgs_key_causes.proofs.written.directions_of.Given as goal

abbrev pub invariant-loop-path : goal.invariant-loop-path
invariant-loop-path l = l.directions.items ≡ directions_of (take l.path-index l.paths)
