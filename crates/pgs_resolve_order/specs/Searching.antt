-- A search for components on the way, and what there is left to do.
use Rattle.std.specs.Prelude.{ℕ, ◌+◌, ◌-◌, ◌^◌, ◌<◌, ◌≡◌, ◌==◌, List, [], ◌∷◌, length, slice_index_or, if◌then◌else◌}
use Rattle.std.specs.List.{sum_by}
use Rattle.pgs_resolve_order.specs.declared.components.Frame.{Frame}
use Rattle.pgs_resolve_order.specs.declared.components.Search.{Search}

-- the mark of a number: 0 until it is seen. One that has no row counts as seen after all others
abbrev pub mark_at : List ℕ → ℕ → ℕ
mark_at marks number = slice_index_or marks number (2 ^ 64 - 1)

-- what there is to do at the numbers that aren't seen: to go there and back, and each of their links
abbrev pub unseen_work : List (List ℕ) → List ℕ → ℕ
unseen_work [] marks = 0
unseen_work (row ∷ rows) [] = 0
unseen_work (row ∷ rows) (mark ∷ marks) = (if mark == 0 then 2 + length row else 0) + unseen_work rows marks

-- and at a number on the way: each link that is left, and to go back
abbrev pub frame_work : Frame → ℕ
frame_work frame = 1 + length frame.rest.now

abbrev pub work_of : List (List ℕ) → Search → ℕ
work_of rows search = unseen_work rows search.marks.items + sum_by frame_work search.frames.items

-- whether a search has a mark for each row, and sets none to 0
pub record IsSearch (rows : List (List ℕ)) (search : Search) : Type 0 where
  pub len : length search.marks.items ≡ length rows
  pub order : 0 < search.order
  pub rank : 0 < search.rank
