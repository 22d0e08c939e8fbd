use Rattle.std.proofs.Common.{arith}
use Rattle.pgs_tables_edges.proofs.Joined.{range_from}
use Rattle.pgs_tables_edges.proofs.chunks.builder.Builder.append_cut.Goals as goal

pub returns-clause-ids : goal.returns-clause-ids
returns-clause-ids c =
    let cut = range_from c.args.range.0 c.args.range.1 c.args.part.now.ids (omega arith) (omega (arith, c.len-len.ensures)) in
    rw (← cut, ← c.len-len.ensures, ← c.min.ensures, ← c.as_slice.ensures) c.append_piece.ensures.ids
