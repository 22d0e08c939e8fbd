-- Which of two areas holds the store, by what each of them is.
use Rattle.std.specs.Prelude.{ℕ, Bool, true, false, ◌||◌, List, Option, Some, None, nat_lt, if◌then◌else◌}
use Rattle.pgs_world.specs.declared.area.Area.{Area}
use Rattle.pgs_world.specs.declared.area.Area.TheVariants.{A, B}
use Rattle.pgs_journal.specs.declared.area_state.AreaState.{AreaState}
use Rattle.pgs_journal.specs.declared.area_state.AreaState.TheVariants.{NoStore, Foreign, Damaged, Store}
use Rattle.pgs_journal.specs.declared.head.Head.{Head}
use Rattle.pgs_journal.specs.declared.head.Head.TheVariants as heads
use Rattle.pgs_journal.specs.Area.{area_state}

-- what two areas are together
pub data Choice : Type 0 where
  -- no area is a store, and none is another program's file
  no_store : Choice
  -- no area is a store, and one is another program's file
  foreign : Choice
  -- the store of this area is chosen, and damaged at the record of this number
  damaged : (area : Area) (epoch number : ℕ) → Choice
  -- the store of this area is chosen, and its records are whole and fit; the next one has this number in the second format
  chosen : (area : Area) (epoch end : ℕ) (next : Option ℕ) (payloads : List (List ℕ)) → Choice

-- the epoch of a store, whole or damaged
abbrev pub store_epoch : AreaState → Option ℕ
store_epoch NoStore = None
store_epoch Foreign = None
store_epoch (Damaged epoch number) = Some epoch
store_epoch (Store epoch end next payloads) = Some epoch

-- the area whose store has the greater epoch, A where both are equal
abbrev pub greater : Option ℕ → Option ℕ → Option Area
greater None None = None
greater None (Some b) = Some B
greater (Some a) None = Some A
greater (Some a) (Some b) = if nat_lt a b then Some B else Some A

-- the choice of an area of this state
abbrev pub taken : Area → AreaState → Choice
taken area NoStore = no_store
taken area Foreign = foreign
taken area (Damaged epoch number) = damaged area epoch number
taken area (Store epoch end next payloads) = chosen area epoch end next payloads

abbrev pub is_foreign : AreaState → Bool
is_foreign NoStore = false
is_foreign Foreign = true
is_foreign (Damaged epoch number) = false
is_foreign (Store epoch end next payloads) = false

-- what two areas are, of which none is a store
abbrev pub without_store : AreaState → AreaState → Choice
without_store a b = if is_foreign a || is_foreign b then foreign else no_store

abbrev pub choice_in : AreaState → AreaState → Option Area → Choice
choice_in a b None = without_store a b
choice_in a b (Some A) = taken A a
choice_in a b (Some B) = taken B b

abbrev pub choice : AreaState → AreaState → Choice
choice a b = choice_in a b (greater (store_epoch a) (store_epoch b))

-- the choice of two images
unfoldable pub choice_of : List ℕ → List ℕ → Choice
choice_of a b = choice (area_state a) (area_state b)

-- the epoch of the store that a head is of
abbrev pub head_epoch : Head → Option ℕ
head_epoch heads.NoStore = None
head_epoch heads.Foreign = None
head_epoch (heads.Store format epoch) = Some epoch

-- the head is none of a store, behind an open gate
abbrev pub is_foreign_head : Head → Bool
is_foreign_head heads.NoStore = false
is_foreign_head heads.Foreign = true
is_foreign_head (heads.Store format epoch) = false

-- the area of the store with the greater epoch, by the heads of both
abbrev pub leading : Head → Head → Option Area
leading a b = greater (head_epoch a) (head_epoch b)

-- what two areas of these heads are, of which none is a store
abbrev pub without_heads : Head → Head → Choice
without_heads a b = if is_foreign_head a || is_foreign_head b then foreign else no_store

-- the area that is chosen, and its epoch, where an area is a store
abbrev pub area_chosen : Choice → Option Area
area_chosen no_store = None
area_chosen foreign = None
area_chosen (damaged area epoch number) = Some area
area_chosen (chosen area epoch end next payloads) = Some area

abbrev pub epoch_chosen : Choice → Option ℕ
epoch_chosen no_store = None
epoch_chosen foreign = None
epoch_chosen (damaged area epoch number) = Some epoch
epoch_chosen (chosen area epoch end next payloads) = Some epoch

-- the next number of the chosen store, where it is whole and of the second format
abbrev pub next_chosen : Choice → Option ℕ
next_chosen no_store = None
next_chosen foreign = None
next_chosen (damaged area epoch number) = None
next_chosen (chosen area epoch end next payloads) = next

-- the same of two images
abbrev pub chosen_area : List ℕ → List ℕ → Option Area
chosen_area a b = area_chosen (choice_of a b)

abbrev pub chosen_epoch : List ℕ → List ℕ → Option ℕ
chosen_epoch a b = epoch_chosen (choice_of a b)

abbrev pub chosen_next : List ℕ → List ℕ → Option ℕ
chosen_next a b = next_chosen (choice_of a b)
