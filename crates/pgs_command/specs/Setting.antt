-- What a run goes over: a source, a world and the places of feeds.
use Rattle.std.specs.Prelude.{ℕ, List, Option}
use Rattle.pgs_feed.specs.Places.{Place}
use Rattle.pgs_run_lines.specs.Ending.{Faults, faults_of}
use Rattle.pgs_world.specs.World.{View}

-- what is left of a source, and how many of its reads failed
pub record SourceState : Type 0 where
  pub left : Option (List ℕ)
  pub faults : ℕ

pub record Setting : Type 1 where
  pub source : SourceState
  pub view : View
  pub places : List Place

abbrev pub setting_of : Option (List ℕ) → ℕ → View → List Place → Setting
setting_of left faults view places = record { source = record { left = left; faults = faults }; view = view; places = places }

-- how many reads, calls on the areas and puts failed so far
abbrev pub faults_in : Setting → Faults
faults_in at = faults_of at.source.faults at.view
