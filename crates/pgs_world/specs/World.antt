-- What contracts see of a world: two areas of bytes, an output, and what a stop may leave of them.
use Rattle.std.specs.Prelude.{◌≡◌, ℕ, Bool, List, ◌++◌, Option, Some, None, if◌then◌else◌}
use Rattle.std.specs.Option.{option_map}
use Rattle.pgs_world.specs.declared.area.Area.{Area}
use Rattle.pgs_world.specs.declared.area.Area.TheVariants.{A, B}

-- an image of each area, and an output
pub record Triple : Type 0 where
  pub a : List ℕ
  pub b : List ℕ
  pub output : List ℕ

pub record View : Type 1 where
  -- what is said of stops holds of it
  pub honest : Bool
  -- reads give the shown bytes, and all that was put is the shown output
  pub tells_bytes : Bool
  pub tells_output : Bool
  pub shown : Triple
  -- a number that rises with each call, up to the end of a u64
  pub moment : ℕ
  -- how many calls on an area, and how many puts, failed
  pub area_faults : ℕ
  pub put_faults : ℕ
  -- how many puts answered Ok
  pub puts : ℕ
  -- what a stop now may leave
  pub may_leave : Triple → Type 0
  -- what a stop at some moment since that one may have left
  pub left_since : ℕ → Triple → Type 0

-- all that was put, where the world tells it
abbrev pub output_of : View → Option (List ℕ)
output_of view = if view.tells_output then Some view.shown.output else None

-- The output is what it was, and then these bytes. A world that doesn't tell goes on not telling.
abbrev pub Adds : Option (List ℕ) → Option (List ℕ) → List ℕ → Type 0
Adds before now bytes = now ≡ option_map (λ output. output ++ bytes) before

-- the output is what it was, and then some front of the piece
pub record AddsFront (before now : Option (List ℕ)) (piece : List ℕ) : Type 0 where
  pub front : List ℕ
  pub back : List ℕ
  pub parts : piece ≡ front ++ back
  pub added : Adds before now front

-- the image of this area
abbrev pub part : Area → Triple → List ℕ
part A triple = triple.a
part B triple = triple.b

abbrev pub other : Area → Area
other A = B
other B = A

-- the same, with this image of that area
abbrev pub with_part : Area → List ℕ → Triple → Triple
with_part A image triple = record { a = image; b = triple.b; output = triple.output }
with_part B image triple = record { a = triple.a; b = image; output = triple.output }
