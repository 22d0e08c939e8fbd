use Rattle.std.proofs.Common.{◌≡◌, take}
use Rattle.std.specs.List.{flat_map}
use Rattle.pgs_key_causes.specs.Fronts.{visit_atoms}
use Rattle.pgs_key_causes.proofs.written.Written.atoms_of.Given as goal

abbrev pub invariant-loop-visit : goal.invariant-loop-visit
invariant-loop-visit l = l.atoms.items ≡ flat_map (visit_atoms l.numbering l.self l.vars) (take l.visit-index l.visits)
