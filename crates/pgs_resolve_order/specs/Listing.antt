-- Types on the way into their order: those that are listed, those that are ready, and those that wait for a name to be listed.
use Rattle.std.specs.Prelude.{◌≡◌, ℕ, true, false, not, List, [], ◌∷◌, ◌++◌, Option, Some, filter, slice_get, Vec, vec_items}
use Rattle.std.specs.declared.cmp.Ordering.{Ordering}
use Rattle.std.specs.List.{list_all}
use Rattle.std.specs.Option.{option_map_or}
use Rattle.std.specs.Ordering.{nat_cmp, ordering_then}
use Rattle.std.specs.Cmp.Lexicographic.{slice_cmp}
use Rattle.std.specs.BTreeMap.{BTreeMap, get}
use Rattle.std.specs.BTreeSet.{contains}
use Rattle.pgs_base.specs.Pair.{has_name}
use Rattle.pgs_resolve_declared.specs.Order.{Entry, is_ready, soonest}
use Rattle.pgs_resolve_order.specs.declared.listing.Item.{Item}
use Rattle.pgs_resolve_order.specs.declared.listing.Pending.{Pending}
use Rattle.pgs_resolve_order.specs.declared.listing.Queue.{Queue}

-- the entry of an item
abbrev pub entry_of : Item → Entry
entry_of item = record { name = item.name; place = item.place; names = item.names.items }

-- the entries that aren't listed, and the next one to be listed
abbrev pub unlisted : List (List ℕ) → List Entry → List Entry
unlisted listed entries = filter (λ (entry : Entry). not (has_name entry.name listed)) entries

abbrev pub next_of : List (List ℕ) → List Entry → Option Entry
next_of listed entries = soonest (filter (is_ready listed) (unlisted listed entries))

-- whether all of some names will be listed exactly where all of others will be, whatever is listed next
abbrev pub AreAlike : List (List ℕ) → List (List ℕ) → List (List ℕ) → Type 0
AreAlike listed names others =
    (more : List (List ℕ)) →
    list_all (λ name. has_name name (listed ++ more)) names ≡ list_all (λ name. has_name name (listed ++ more)) others

-- the order of places, and of numbers where they are one
abbrev pub key_cmp : ℕ × ℕ → ℕ × ℕ → Ordering
key_cmp a b = ordering_then (nat_cmp a.0 b.0) (nat_cmp a.1 b.1)

-- what waits for a name
abbrev pub waiters : {A : Type 0} → BTreeMap (List ℕ) (Vec Pending A) → List ℕ → List Pending
waiters waiting name = option_map_or vec_items (get (slice_cmp nat_cmp) waiting name) []

-- whether there is an entry of this place and number, and what it names will be listed exactly where these names are
pub record Awaits (entries : List Entry) (listed : List (List ℕ)) (place number : ℕ) (names : List (List ℕ)) : Type 0 where
  pub entry : Entry
  pub is : slice_get entries number ≡ Some entry
  pub placed : place ≡ entry.place
  pub alike : AreAlike listed entry.names names

-- whether what is in a queue is true of entries
pub record Stands (entries : List Entry) (queue : Queue) : Type 0 where
  pub ready : (key : ℕ × ℕ) → contains key_cmp queue.ready key ≡ true → Awaits entries queue.listed key.0 key.1 []
  pub awaited : (name : List ℕ) (k : ℕ) (pending : Pending) → slice_get (waiters queue.waiting name) k ≡ Some pending →
      has_name name queue.listed ≡ false
  pub waiting : (name : List ℕ) (k : ℕ) (pending : Pending) → slice_get (waiters queue.waiting name) k ≡ Some pending →
      Awaits entries queue.listed pending.place pending.number (name ∷ pending.rest.now)

-- whether an entry of a number is in a queue: it is listed, it is ready, or it waits
pub data IsKept (queue : Queue) (entry : Entry) (number : ℕ) : Type 0 where
  listed : has_name entry.name queue.listed ≡ true → IsKept queue entry number
  ready : contains key_cmp queue.ready (entry.place, number) ≡ true → IsKept queue entry number
  waits : (name : List ℕ) (k : ℕ) (pending : Pending) → slice_get (waiters queue.waiting name) k ≡ Some pending →
      pending.number ≡ number → IsKept queue entry number

-- whether all entries are in a queue
abbrev pub AllKept : List Entry → Queue → Type 0
AllKept entries queue = (entry : Entry) (number : ℕ) → slice_get entries number ≡ Some entry → IsKept queue entry number
