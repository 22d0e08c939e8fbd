use Rattle.std.proofs.Common.{◌∙◌}
use Rattle.std.specs.Prelude.{option_map}
use Rattle.std.specs.BTreeMap as tree
use Rattle.pgs_base.specs.Order.{tuple_cmp}
use Rattle.pgs_scratch.specs.Owners.{with_tuple}
use Rattle.pgs_keyindex.proofs.Entered.{more_entered}
use Rattle.pgs_scratch.proofs.Entered.{below_end, stands_there, owner_before}
use Rattle.pgs_scratch.proofs.Sharers.{nearest_step}
use Rattle.pgs_scratch.proofs.owners.enter.Goals as goal

pub loop-tuple-preserved : goal.loop-tuple-preserved
loop-tuple-preserved c =
    let items = c.as_slice-tuple-items.result.now in
    let tuples = c.args.row.now.tuples in
    let same = c.as_slice-tuple-items.ensures.value in
    let i = c.loop-tuple.tuple-index in
    let below = c.loop-tuple-test.true in
    let tuple = c.tuple-item.result in
    let is = c.tuple-item.is in
    record {
      nearest = nearest_step (λ q. tree.get_by (λ k. tuple_cmp q k.now) c.args.table.now) tuples i tuple (stands_there items tuples same i below tuple is)
          (below_end items tuples same i below tuple is) (option_map with_tuple c.loop-tuple.found) (option_map with_tuple c.nearer-found.result) c.in_ok-owner.owner
          (c.in_ok-owner.ensures.old ∙ owner_before items tuples same i below tuple is c.as_slice-tuple-items.ensures.ascending c.args.table.now c.loop-tuple.table
          c.args.row.now.elem c.loop-tuple.invariant.owners)
          c.nearer-found.ensures c.loop-tuple.invariant.nearest;
      owners = more_entered items tuples same i below tuple is c.args.table.now c.loop-tuple.table c.insert.new.self c.args.row.now.elem
          c.loop-tuple.invariant.owners c.in_ok-owner.ensures.updates;
    }
