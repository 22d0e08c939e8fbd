-- The states of a world in memory, from its first contents and the calls that changed it.
use Rattle.std.specs.Prelude.{ℕ, ◌+◌, List, [], ◌∷◌, ◌++◌, take, drop}
use Rattle.pgs_world.specs.declared.mem_contents.Note.{Note}
use Rattle.pgs_world.specs.declared.mem_contents.Noted.{Noted}
use Rattle.pgs_world.specs.declared.mem_contents.Note.TheVariants.{Write, Cut, Sync, Put}
use Rattle.pgs_world.specs.Held.{after_write, after_cut, on_disk}
use Rattle.pgs_world.specs.MemWorld.{State, Past, area_of, with_area, with_output}

-- how many bytes the call was handed
abbrev pub taken_by : Note → ℕ
taken_by (Write area at count) = count
taken_by (Cut area len) = 0
taken_by (Sync area) = 0
taken_by (Put count) = count

-- the state after the call, which was handed this piece
abbrev pub after_note : Note → List ℕ → State → State
after_note (Write area at count) piece state = with_area area (after_write (area_of area state) at piece) state
after_note (Cut area len) piece state = with_area area (after_cut (area_of area state) len) state
after_note (Sync area) piece state = with_area area (on_disk (area_of area state).bytes) state
after_note (Put count) piece state = with_output (state.output ++ piece) state

-- how many bytes the calls were handed
abbrev pub all_taken : List Noted → ℕ
all_taken [] = 0
all_taken (n ∷ notes) = taken_by n.note + all_taken notes

-- the state after these calls, which were handed these bytes
abbrev pub outcome : State → List Noted → List ℕ → State
outcome state [] pieces = state
outcome state (n ∷ notes) pieces = outcome (after_note n.note (take (taken_by n.note) pieces) state) notes (drop (taken_by n.note) pieces)

-- the states before each of them
abbrev pub history : State → List Noted → List ℕ → List Past
history state [] pieces = []
history state (n ∷ notes) pieces =
    (record { moment = n.before; state = state })
    ∷ history (after_note n.note (take (taken_by n.note) pieces) state) notes (drop (taken_by n.note) pieces)
