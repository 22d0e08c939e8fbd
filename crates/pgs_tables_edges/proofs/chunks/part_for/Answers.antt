use Rattle.std.proofs.Common.{◌+◌, ◌-◌, ◌/◌, get_or, ap, arith, ◌≡◌}
use Rattle.pgs_tables_edges.specs.declared.chunks.Part.{Part}
use Rattle.pgs_tables_edges.proofs.PartSearched.{below_part, above_part}
use Rattle.pgs_tables_edges.proofs.chunks.part_for.Goals as goal

pub loop-high-preserved-then-parts-middle : goal.loop-high-preserved-then-parts-middle
loop-high-preserved-then-parts-middle c =
    let middle = c.loop-high.low + (c.loop-high.high - c.loop-high.low) / 2 in
    let read : c.index-parts-middle.result.first.0 ≡ (get_or c.args.parts.now middle c.index-parts-middle.result).first.0 = ap (λ (part : Part). part.first.0) c.index-parts-middle.is in
    record {
      apart = omega arith;
      in_range = omega arith;
      below = below_part (λ (part : Part). part.start) (λ part. part.first) (λ part. part.ids) c.args.id c.args.parts.now c.requires.ascending middle c.index-parts-middle.result c.requires.starts (omega arith) c.index-parts-middle.is (omega arith);
      above = c.loop-high.invariant.above;
    }

pub loop-high-preserved : goal.loop-high-preserved
loop-high-preserved c =
    let middle = c.loop-high.low + (c.loop-high.high - c.loop-high.low) / 2 in
    let read : c.index-parts-middle.result.first.0 ≡ (get_or c.args.parts.now middle c.index-parts-middle.result).first.0 = ap (λ (part : Part). part.first.0) c.index-parts-middle.is in
    record {
      apart = omega arith;
      in_range = omega arith;
      below = c.loop-high.invariant.below;
      above = above_part (λ (part : Part). part.start) (λ part. part.first) (λ part. part.ids) c.args.id c.args.parts.now c.requires.ascending middle c.index-parts-middle.result c.requires.starts (omega arith) c.index-parts-middle.is (omega arith);
    }
