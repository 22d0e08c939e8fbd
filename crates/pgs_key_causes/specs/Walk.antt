-- The walk over the places of a written descriptor from x. Places go by their numbers in the text, from 0: an edge place stands between
-- the node places of the numbers before and after it.
use Rattle.std.specs.Prelude.{ℕ, zero, suc, ◌+◌, ◌-◌, ◌==◌, Bool, false, not, ◌&&◌, ◌||◌, List, [], ◌∷◌, ◌++◌, length, map, slice_get, if◌then◌else◌}
use Rattle.std.specs.List.{list_any, enumerate_from, find}
use Rattle.std.specs.Option.{option_map_or}
use Rattle.pgs_key_causes.specs.declared.walk.Occurrence.{Occurrence}
use Rattle.pgs_key_causes.specs.declared.walk.Visit.{Visit}

-- whether a place is visited
abbrev pub is_visited : List Visit → ℕ → Bool
is_visited visits n = list_any (λ (visit : Visit). visit.place == n) visits

-- visits with one more, of a place from another, where it isn't visited yet
abbrev pub with_visit : List Visit → ℕ → ℕ → List Visit
with_visit visits n from = if is_visited visits n then visits else visits ++ record { place = n; from = from } ∷ []

-- from a node: its place, if it isn't visited yet, an edge place, and the further node's
abbrev pub with_way : List Visit → ℕ → ℕ → ℕ → List Visit
with_way visits node e further = with_visit (with_visit (with_visit visits node node) e node) further node

module _ (places : List Occurrence) where
  -- the number of the variable at a place, and whether it is an edge place
  abbrev pub var_at : ℕ → ℕ
  var_at n = option_map_or (λ (place : Occurrence). place.var) (slice_get places n) 0

  abbrev pub is_edge_at : ℕ → Bool
  is_edge_at n = option_map_or (λ (place : Occurrence). place.is_edge) (slice_get places n) false

  -- whether the variable of a place is reached: x is from the first, another one by a visit of a place of it
  abbrev pub is_reached : List Visit → ℕ → Bool
  is_reached visits n = var_at n == 0 || list_any (λ (visit : Visit). var_at visit.place == var_at n) visits

  -- the numbers of all places
  abbrev pub numbers : List ℕ
  numbers = map (λ (place : ℕ × Occurrence). place.0) (enumerate_from 0 places)

  -- visits with those of the first n places that pass a test, one after another, each visited from itself
  abbrev pub with_own : (List Visit → ℕ → Bool) → List Visit → ℕ → List Visit
  with_own test visits zero = visits
  with_own test visits (suc n) = let before = with_own test visits n in if test before n then with_visit before n n else before

  -- and with those of all places
  abbrev pub with_all : (List Visit → ℕ → Bool) → List Visit → List Visit
  with_all test visits = with_own test visits (length places)

  -- x's node places
  abbrev pub is_start : List Visit → ℕ → Bool
  is_start visits n = not (is_edge_at n) && var_at n == 0

  -- paths of one place whose variable is reached
  abbrev pub is_alone : List Visit → ℕ → Bool
  is_alone visits n = not (is_edge_at n) && not (is_edge_at (n - 1)) && not (is_edge_at (n + 1)) && is_reached visits n

  -- a step, by its edge place, that isn't visited and touches a variable that is reached
  abbrev pub is_next : List Visit → ℕ → Bool
  is_next visits e =
      is_edge_at e && not (is_visited visits e) && (is_reached visits (e - 1) || is_reached visits e || is_reached visits (e + 1))

  -- A step is made from its left node where that is reached, else from its right one where that is, and else from the edge: to the edge
  -- itself, to its left node and to its right one.
  abbrev pub with_step : List Visit → ℕ → List Visit
  with_step visits e =
      if is_reached visits (e - 1) then with_way visits (e - 1) e (e + 1)
      else (if is_reached visits (e + 1) then with_way visits (e + 1) e (e - 1)
      else with_visit (with_visit (with_visit visits e e) (e - 1) e) (e + 1) e)

  -- steps, at most so many: each is the first as written that can be next, and after it come the paths of one place
  abbrev pub walk_on : ℕ → List Visit → List Visit
  walk_on zero visits = visits
  walk_on (suc more) visits =
      option_map_or (λ e. walk_on more (with_all is_alone (with_step visits e))) (find (is_next visits) numbers) visits

  -- the walk from x
  abbrev pub walk : List Visit
  walk = walk_on (length places) (with_all is_start [])
