use Rattle.std.proofs.Common.{is_gt, rules}
use Rattle.std.proofs.lemmas.List.Sorted.{IsPartitionPoint-from_clause}
use Rattle.pgs_base.proofs.Places.{parted_entries}
use Rattle.pgs_base_keyed.proofs.First.{parted_before, first_there, none_there}
use Rattle.pgs_base_keyed.proofs.keyed.first_of.Goals as goal

pub returns-in-Some : goal.returns-in-Some
returns-in-Some g c =
    let cmp = g.K.Ord.cmp in
    let rows = c.args.rows.now in
    let start = c.args.start.now in
    let parted = parted_before (cmp start) rows (parted_entries g.met.K.Ord.total start rows c.requires) in
    first_there (cmp start) rows c.partition_point-place.result c.partition_point-place.ensures.bound
    (IsPartitionPoint-from_clause (λ row. is_gt (cmp start row.0)) rows _ c.partition_point-place.ensures.partitioned parted (λ a r q k. search rules))
    c.in-Some.row.now c.in-Some.ensures.lookup.0 c.in-Some.ensures.lookup.1

pub returns-in-None : goal.returns-in-None
returns-in-None g c =
    let cmp = g.K.Ord.cmp in
    let rows = c.args.rows.now in
    let start = c.args.start.now in
    let parted = parted_before (cmp start) rows (parted_entries g.met.K.Ord.total start rows c.requires) in
    none_there (cmp start) rows c.partition_point-place.result c.partition_point-place.ensures.bound
    (IsPartitionPoint-from_clause (λ row. is_gt (cmp start row.0)) rows _ c.partition_point-place.ensures.partitioned parted (λ a r q k. search rules))
    c.in-None.ensures.lookup.0
