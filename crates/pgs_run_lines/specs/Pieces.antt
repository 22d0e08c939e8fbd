-- Pieces of output, and what a world shows of them.
use Rattle.std.specs.Prelude.{◌≡◌, ℕ, ◌+◌, List, [], ◌∷◌, ◌++◌, length, Option, Some, None}
use Rattle.std.specs.Option.{option_map}
use Rattle.std.specs.List.{concat}
use Rattle.pgs_world.specs.World.{View, output_of}

-- the pieces of one answer: none, or one
abbrev pub pieces_in : Option (List ℕ) → List (List ℕ)
pieces_in None = []
pieces_in (Some piece) = piece ∷ []

-- what a world shows of all that was put: the output, where the world tells it, and how many puts answered Ok
pub record Shown : Type 0 where
  pub output : Option (List ℕ)
  pub puts : ℕ

abbrev pub shown_of : View → Shown
shown_of view = record { output = output_of view; puts = view.puts }

-- These pieces were put, each by one put: the output is what it was at the start, and then all pieces; a world that doesn't tell
-- goes on not telling.
pub record ShowsAll (start : Shown) (pieces : List (List ℕ)) (now : Shown) : Type 0 where
  pub output : now.output ≡ option_map (λ output. output ++ concat pieces) start.output
  pub puts : now.puts ≡ start.puts + length pieces

-- some first pieces were put, whole
pub record ShowsFirst (start : Shown) (pieces : List (List ℕ)) (now : Shown) : Type 0 where
  pub first : List (List ℕ)
  pub later : List (List ℕ)
  pub parts : pieces ≡ first ++ later
  pub shows : ShowsAll start first now

-- Some first pieces were put, whole, and then a front of the next piece, by a put that failed.
pub record ShowsTorn (start : Shown) (pieces : List (List ℕ)) (now : Shown) : Type 0 where
  pub first : List (List ℕ)
  pub front : List ℕ
  pub back : List ℕ
  pub later : List (List ℕ)
  pub parts : pieces ≡ first ++ (front ++ back) ∷ later
  pub output : now.output ≡ option_map (λ output. output ++ concat (first ++ front ∷ [])) start.output
  pub puts : now.puts ≡ start.puts + length first
