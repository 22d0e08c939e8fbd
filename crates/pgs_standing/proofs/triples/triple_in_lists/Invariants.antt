use Rattle.std.proofs.Common.{◌&&◌, take}
use Rattle.pgs_conform.specs.Shapes.{in_some_triple}
use Rattle.pgs_standing.specs.Common.{ends_in}
use Rattle.pgs_standing.specs.Example.{IsFoundTriple}
use Rattle.pgs_standing.specs.Standing.{is_small_triple}
use Rattle.pgs_standing.proofs.triples.triple_in_lists.Given as goal

abbrev pub invariant-loop-shapes : goal.invariant-loop-shapes
invariant-loop-shapes l = IsFoundTriple (λ t. is_small_triple t && (in_some_triple (take l.shapes-index l.triples) t && in_some_triple l.others t && ends_in l.nodes t)) l.found
