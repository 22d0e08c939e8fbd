use Rattle.std.proofs.Common.{◌≡◌, ◌-◌, [], length, map}
use Rattle.pgs_resolve_order.specs.Listing.{entry_of, unlisted, Stands, AllKept}
use Rattle.pgs_resolve_declared.specs.Order.{listing}
use Rattle.pgs_resolve_order.proofs.listing.list_items.Given as goal

abbrev pub invariant-loop-alloc : goal.invariant-loop-alloc
invariant-loop-alloc l = record {
  stands : Stands (map entry_of l.items) l.queue;
  kept : AllKept (map entry_of l.items) l.queue;
  order : listing (length l.items - length l.queue.listed) l.queue.listed (unlisted l.queue.listed (map entry_of l.items))
      ≡ listing (length l.items) [] (map entry_of l.items);
}

abbrev pub decreases-loop-alloc : goal.decreases-loop-alloc
decreases-loop-alloc l = length l.items - length l.queue.listed
