-- The hasher that a seed starts.
use Rattle.std.specs.declared.hash.DefaultHasher.{DefaultHasher}
use Rattle.std.specs.Hash.DefaultHasher.{initial}
use Rattle.std.specs.RandomState.{initial_hasher}
use Rattle.pgs_base.specs.declared.seed.Seed.{Seed}
use Rattle.pgs_base.specs.declared.seed.Seed.TheVariants.{Fixed, Random}

abbrev pub hasher_by : Seed → DefaultHasher
hasher_by Fixed = initial
hasher_by (Random state) = initial_hasher state
