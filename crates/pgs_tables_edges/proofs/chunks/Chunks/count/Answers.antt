use Rattle.std.proofs.Common.{length, ap, arith}
use Rattle.pgs_tables_edges.specs.declared.chunks.Part.{Part}
use Rattle.pgs_tables_edges.proofs.Packed.{packed_few}
use Rattle.pgs_tables_edges.proofs.chunks.Chunks.count.Goals as goal

pub returns : goal.returns
returns c = omega (arith, packed_few (λ (p : Part). p.ids) 1024 c.self.inside.parts.items c.self.invariant.packed, c.len.ensures, ap length c.self.view_is)
