-- What a run is told of the areas of its world.
use Rattle.std.specs.Prelude.{ℕ, List}
use Rattle.pgs_world.specs.World.{View}

-- the bytes of both areas
pub record Areas : Type 0 where
  pub a : List ℕ
  pub b : List ℕ

abbrev pub areas_of : View → Areas
areas_of view = record { a = view.shown.a; b = view.shown.b }
