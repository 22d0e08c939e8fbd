-- A search for a number that leads back to itself, depth first: what is true on the way, and what there is left to do.
use Rattle.std.specs.Prelude.{◌≡◌, ⊤, ℕ, ◌+◌, ◌*◌, ◌<◌, ◌≤◌, ◌==◌, true, false, List, [], ◌∷◌, length, map, reverse}
use Rattle.std.specs.List.{sum_by, count_by}
use Rattle.pgs_resolve_order.specs.declared.depth_first.Visit.{Visit}
use Rattle.pgs_resolve_order.specs.declared.depth_first.DepthFirst.{DepthFirst}
use Rattle.pgs_resolve_order.specs.Links.{row_at, leads_back}
use Rattle.pgs_resolve_order.specs.Reached.{is_among}
use Rattle.pgs_resolve_order.specs.Searching.{mark_at, unseen_work}

-- the numbers on the way, last first
abbrev pub way_of : DepthFirst → List Visit
way_of search = reverse search.visits.items

-- whether the last number on the way leads to a number; where none is on the way, each number is next
abbrev pub IsNext : List (List ℕ) → List Visit → ℕ → Type 0
IsNext rows [] number = ⊤
IsNext rows (visit ∷ way) number = is_among (row_at rows visit.number) number ≡ true

-- whether all links of a number on the way but those that are left lead to numbers that are done
pub record IsVisit (rows : List (List ℕ)) (marks : List ℕ) (visit : Visit) : Type 0 where
  pub within : visit.number < length marks
  pub links : (next : ℕ) → is_among visit.rest.now next ≡ true → is_among (row_at rows visit.number) next ≡ true
  pub passed : (next : ℕ) → is_among (row_at rows visit.number) next ≡ true → is_among visit.rest.now next ≡ false → 1 < mark_at marks next

abbrev pub IsWay : List (List ℕ) → List ℕ → List Visit → Type 0
IsWay rows marks [] = ⊤
IsWay rows marks (visit ∷ way) = IsVisit rows marks visit × IsNext rows way visit.number × IsWay rows marks way

-- whether marks are those of a search with these numbers on the way: what is done leads only to what is done, and never back
pub record IsDepthFirst (rows : List (List ℕ)) (marks : List ℕ) (way : List Visit) : Type 0 where
  pub len : length marks ≡ length rows
  pub is_way : IsWay rows marks way
  pub few : length way ≤ count_by (λ mark. mark == 1) marks
  pub on_way : (number : ℕ) → mark_at marks number ≡ 1 → is_among (map (λ (visit : Visit). visit.number) way) number ≡ true
  pub closed : (number next : ℕ) → 1 < mark_at marks number → is_among (row_at rows number) next ≡ true → 1 < mark_at marks next
  pub none_back : (number : ℕ) → 1 < mark_at marks number → leads_back rows number ≡ false

-- whether what is seen stays seen, and what is done stays done
pub record StayMarked (old new : List ℕ) : Type 0 where
  pub seen : (number : ℕ) → 0 < mark_at old number → 0 < mark_at new number
  pub done : (number : ℕ) → 1 < mark_at old number → 1 < mark_at new number

-- what there is to do: at the numbers that aren't seen, and at those on the way each link that is left, and to go back
abbrev pub visit_work : Visit → ℕ
visit_work visit = 1 + length visit.rest.now

abbrev pub left_work : List (List ℕ) → List ℕ → List Visit → ℕ
left_work rows marks way = unseen_work rows marks + sum_by visit_work way

-- the most steps that a search takes: three for each number, and one for each link
abbrev pub search_steps : List (List ℕ) → ℕ
search_steps rows = 3 * length rows + sum_by length rows
