use Rattle.std.proofs.Common.{◌≡◌, ◌≤◌, ◌⊎◌, ◌++◌, ◌∷◌, [], ℕ, Some, List, true, slice_get}
use Rattle.pgs_base.specs.Pair.{same_name}
use Rattle.pgs_resolve_order.specs.declared.listing.Pending.{Pending}
use Rattle.pgs_resolve_order.specs.Listing.{Stands, IsKept}
use Rattle.pgs_resolve_declared.specs.Order.{Entry}
use Rattle.pgs_resolve_order.proofs.listing.Queue.list.Given as goal

abbrev pub invariant-loop-pending : goal.invariant-loop-pending
invariant-loop-pending l = record {
  listed : l.self.listed ≡ l.fn.self.listed ++ l.name ∷ [];
  stands : (entries : List Entry) → Stands entries l.fn.self → Stands entries l.self;
  kept : (entries : List Entry) → Stands entries l.fn.self → (entry : Entry) (number : ℕ) → slice_get entries number ≡ Some entry →
      (same_name entry.name l.name ≡ true) ⊎ IsKept l.fn.self entry number →
      IsKept l.self entry number ⊎ ((k : ℕ) × (pending : Pending) × (l.pending-index ≤ k) × (slice_get l.pending-items k ≡ Some pending) × (pending.number ≡ number));
}
