use Rattle.std.proofs.Common.{◌≡◌, ◌<◌, ℕ, [], Some, map, slice_get}
use Rattle.pgs_resolve_order.specs.Listing.{entry_of, Stands, IsKept}
use Rattle.pgs_resolve_declared.specs.Order.{Entry}
use Rattle.pgs_resolve_order.proofs.listing.Queue.new.Given as goal

abbrev pub invariant-loop-number : goal.invariant-loop-number
invariant-loop-number l = record {
  listed : l.queue.listed ≡ [];
  stands : Stands (map entry_of l.items) l.queue;
  kept : (entry : Entry) (number : ℕ) → slice_get (map entry_of l.items) number ≡ Some entry → number < l.number → IsKept l.queue entry number;
}
