-- What contracts see of a guard, and what holds of every guard.
use Rattle.std.specs.Prelude.{◌≡◌, ◌≤◌, ℕ, List, true}
use Rattle.pgs_base.specs.declared.limits.Limits.{Limits}
use Rattle.pgs_base.specs.declared.seed.Seed.{Seed}
use Rattle.pgs_base.specs.Graph.{Graph, element_count}
use Rattle.pgs_keyindex.specs.Index.{IndexState}
use Rattle.pgs_keyindex.specs.Standing.{StandsFor}
use Rattle.pgs_saved_graph.specs.Small.{has_small_rows}
use Rattle.pgs_tables.specs.Standing.{TableSeeds, seeds_by}
use Rattle.pgs_syntax.specs.declared.resolved.Resolved.{Resolved}
use Rattle.pgs_violation.specs.declared.violation.Verdict.TheVariants.{Conforms}
use Rattle.pgs_violation.specs.Violations.{verdict}

-- the schema's text and the schema, the limits, the graph, how many transactions were accepted, and how its tables and its index hash
pub record GuardState : Type 0 where
  pub text : List ℕ
  pub schema : Resolved
  pub limits : Limits
  pub graph : Graph
  pub commits : ℕ
  pub seed : Seed

-- the graph conforms to the schema, is within the limits, and each of its rows has at most 64 labels and 256 properties
pub record IsGuarded (schema : Resolved) (limits : Limits) (graph : Graph) : Type 0 where
  pub conforms : verdict schema graph ≡ Conforms
  pub within : element_count graph ≤ limits.elements
  pub small : has_small_rows graph ≡ true

-- what holds of every guard: its graph is so, and its index stands for the graph under the keys of the guard
pub record IsIndexed (schema : Resolved) (limits : Limits) (graph : Graph) (index : IndexState) : Type 0 where
  pub guarded : IsGuarded schema limits graph
  pub stands : StandsFor schema graph schema.guard.keys index

-- its tables and its index hash by this seed
abbrev pub IsHashedBy : Seed → TableSeeds → (keys : Seed) → Type 0
IsHashedBy seed tables keys = (tables ≡ seeds_by seed) × (keys ≡ seed)
