use Rattle.std.specs.BTreeMap as tree
use Rattle.pgs_base.specs.Order.{tuple_cmp}
use Rattle.pgs_scratch.proofs.Sharers.{row_found, row_owns}
use Rattle.pgs_scratch.proofs.owners.shared_by_table.Goals as goal

pub loop-place-preserved : goal.loop-place-preserved
loop-place-preserved c =
    let rows = c.args.rows.now in
    let place = c.loop-place.place in
    let row = c.index-rows-place.result in
    record {
      so_far = row_found c.args.number rows c.requires place c.loop-place-test.true c.loop-place.auto.place row c.index-rows-place.is (λ q. tree.get_by (λ k. tuple_cmp q k.now) c.loop-place.table) c.loop-place.invariant.owners
          c.loop-place.found.items c.add.new.found.items c.in_ok-violation.violation c.loop-place.invariant.so_far c.in_ok-add.ensures c.in_ok-violation.ensures.first;
      owners = row_owns c.args.number rows c.requires place c.loop-place-test.true c.loop-place.auto.place row c.index-rows-place.is (λ q. tree.get_by (λ k. tuple_cmp q k.now) c.loop-place.table)
          (λ q. tree.get_by (λ k. tuple_cmp q k.now) c.first_sharer.new.table) c.loop-place.invariant.owners c.in_ok-violation.ensures.owners;
    }
