use Rattle.std.proofs.Common.{◌≡◌, ℕ, Some, map, slice_get}
use Rattle.std.specs.BTreeSet.{btree_set_len}
use Rattle.pgs_resolve_order.specs.Listing.{entry_of, Stands, IsKept}
use Rattle.pgs_resolve_declared.specs.Order.{Entry}
use Rattle.pgs_resolve_order.proofs.listing.Queue.pop.Given as goal

abbrev pub invariant-loop-key : goal.invariant-loop-key
invariant-loop-key l = record {
  listed : l.self.listed ≡ l.fn.self.listed;
  stands : Stands (map entry_of l.items) l.fn.self → Stands (map entry_of l.items) l.self;
  kept : (entry : Entry) (number : ℕ) → slice_get (map entry_of l.items) number ≡ Some entry → IsKept l.fn.self entry number → IsKept l.self entry number;
}

abbrev pub decreases-loop-key : goal.decreases-loop-key
decreases-loop-key l = btree_set_len l.self.ready
