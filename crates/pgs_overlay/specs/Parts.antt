-- A list of edges that a delta edits: parts that are built, and from a place on what the base's list has.
use Rattle.std.specs.Prelude.{◌≡◌, ℕ, ◌≤◌, List, [], ◌∷◌, ◌++◌, length, take, drop, get_or}
use Rattle.std.specs.List.{flat_map}
use Rattle.pgs_base.specs.declared.element.EdgeId.{EdgeId}
use Rattle.pgs_tables_edges.specs.Numbers.{numbered}
use Rattle.pgs_tables_edges.specs.Starts.{IsPlaced}
use Rattle.pgs_overlay.specs.declared.part.Part.{Part}
use Rattle.pgs_overlay.specs.declared.part.Part.TheVariants.{Range, Added}
use Rattle.pgs_overlay.specs.declared.part.Placed.{Placed}
use Rattle.pgs_overlay.specs.declared.edited_list.EditedList.{EditedList}

-- the edges of a part, over the base's list
abbrev pub part_items : List EdgeId → Part → List EdgeId
part_items xs (Range from to) = drop from (take to xs)
part_items xs (Added edge) = edge ∷ []

abbrev pub items : List EdgeId → Placed → List EdgeId
items xs placed = part_items xs placed.part

-- the first edge of a part, which has one
abbrev pub first_item : List EdgeId → Placed → EdgeId
first_item xs placed = get_or (items xs placed) 0 (numbered 0)

-- what is built, and the whole list
abbrev pub built : List EdgeId → EditedList → List EdgeId
built xs list = flat_map (items xs) list.parts.items

abbrev pub listed : List EdgeId → EditedList → List EdgeId
listed xs list = built xs list ++ drop list.done xs

-- the list stands over the base's: each part says where it starts, and no place lies past the end
pub record StandsOn (xs : List EdgeId) (list : EditedList) : Type 0 where
  pub placed : IsPlaced (λ (placed : Placed). placed.start) (first_item xs) (items xs) list.len list.parts.items
  pub in_range : list.done ≤ length xs

-- a list with edges built behind those of another, and with so much of the base's list done
pub record IsBuiltOn (xs : List EdgeId) (more : List EdgeId) (place : ℕ) (old new : EditedList) : Type 0 where
  pub stands : StandsOn xs new
  pub edges : built xs new ≡ built xs old ++ more
  pub done : new.done ≡ place
