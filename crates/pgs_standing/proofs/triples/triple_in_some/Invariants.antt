use Rattle.std.proofs.Common.{◌&&◌, take}
use Rattle.pgs_conform.specs.Shapes.{in_triple, in_some_triple}
use Rattle.pgs_standing.specs.Common.{ends_in}
use Rattle.pgs_standing.specs.Example.{IsFoundTriple}
use Rattle.pgs_standing.specs.Standing.{is_small_triple}
use Rattle.pgs_standing.proofs.triples.triple_in_some.Given as goal

abbrev pub invariant-loop-other : goal.invariant-loop-other
invariant-loop-other l = IsFoundTriple (λ t. is_small_triple t && (in_triple l.shapes t && in_some_triple (take l.other-index l.others) t && ends_in l.nodes t)) l.found
