-- What holds of an area's state on every world.
use Rattle.std.specs.Prelude.{◌≡◌, ℕ, ◌≤◌, ◌<◌, List, length, IsTrue, Option, None}
use Rattle.pgs_journal.specs.declared.area_state.AreaState.{AreaState}
use Rattle.pgs_journal.specs.declared.area_state.AreaState.TheVariants.{NoStore, Foreign, Damaged, Store}
use Rattle.pgs_journal.specs.Area.{first_unfit}
use Rattle.pgs_journal.specs.Format.{is_epoch, format_of, next_after, IsNextWithin}
use Rattle.pgs_world.specs.declared.area_limit.TheConstants.{AREA_LIMIT}

-- a store of at least one record and at most as many as it has bytes, each fit for its place; the next number is the one after them
pub record IsBoundedStore (epoch end : ℕ) (next : Option ℕ) (payloads : List (List ℕ)) : Type 0 where
  pub numbered : IsTrue (is_epoch epoch)
  pub end_below : end < AREA_LIMIT
  pub some : 1 ≤ length payloads
  pub most : length payloads ≤ end
  pub follows : next ≡ next_after (format_of next) payloads
  pub next_within : IsNextWithin next end
  pub fit : first_unfit (format_of next) epoch 1 payloads ≡ None

abbrev pub IsBounded : AreaState → Type 0
IsBounded NoStore = Unit {0}
IsBounded Foreign = Unit {0}
IsBounded (Damaged epoch number) = IsTrue (is_epoch epoch) × (1 ≤ number)
IsBounded (Store epoch end next payloads) = IsBoundedStore epoch end next payloads
