use Rattle.std.proofs.Common.{◌≡◌, ◌+◌, ◌-◌, ◌/◌, length, take, get_or, ap, arith}
use Rattle.std.specs.List.{flat_map}
use Rattle.pgs_tables_edges.specs.declared.chunks.Part.{Part}
use Rattle.pgs_tables_edges.proofs.Joined.{start_is}
use Rattle.pgs_tables_edges.proofs.chunks.part_at.Goals as goal

pub loop-high-preserved-then-parts-middle : goal.loop-high-preserved-then-parts-middle
loop-high-preserved-then-parts-middle c =
    let middle = c.loop-high.low + (c.loop-high.high - c.loop-high.low) / 2 in
    let start : c.index-parts-middle.result.start ≡ length (flat_map (λ part. part.ids) (take middle c.args.parts.now)) = start_is _ _ _ c.args.parts.now middle c.index-parts-middle.result c.requires.starts (omega arith) c.index-parts-middle.is in
    let read : c.index-parts-middle.result.start ≡ (get_or c.args.parts.now middle c.index-parts-middle.result).start = ap (λ (part : Part). part.start) c.index-parts-middle.is in
    record { apart = omega arith; in_range = omega arith; before = omega arith; after = omega arith }

pub loop-high-preserved : goal.loop-high-preserved
loop-high-preserved c =
    let middle = c.loop-high.low + (c.loop-high.high - c.loop-high.low) / 2 in
    let start : c.index-parts-middle.result.start ≡ length (flat_map (λ part. part.ids) (take middle c.args.parts.now)) = start_is _ _ _ c.args.parts.now middle c.index-parts-middle.result c.requires.starts (omega arith) c.index-parts-middle.is in
    let read : c.index-parts-middle.result.start ≡ (get_or c.args.parts.now middle c.index-parts-middle.result).start = ap (λ (part : Part). part.start) c.index-parts-middle.is in
    record { apart = omega arith; in_range = omega arith; before = omega arith; after = omega arith }
